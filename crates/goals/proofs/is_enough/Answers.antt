-- The first test decides where it holds, and else the second does.
use Rattle.std.proofs.Common.{◌∙◌, sym}
use Rattle.sets.proofs.Tests.{or-first, or_off, passed, failed}
use Rattle.goals.proofs.is_enough.Goals as goal

pub returns-then-has : goal.returns-then-has
returns-then-has c = c.if-has.true ∙ sym (or-first _ (passed c.has.ensures c.if-has.true))

pub returns-else-has : goal.returns-else-has
returns-else-has c = c.is_part.ensures ∙ or_off (failed c.has.ensures c.if-has.false)
