-- The lesser of both numbers.
use Rattle.goals.proofs.Testing.{lesser-first, lesser-second}
use Rattle.goals.proofs.row_of.Goals as goal

pub returns-then-levels-last : goal.returns-then-levels-last
returns-then-levels-last c = lesser-first _ _ c.if-levels-last.true

pub returns : goal.returns
returns c = lesser-second _ _ c.if-levels-last.false
