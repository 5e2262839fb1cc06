-- A node that asks nothing ends a word.
use borrow.Author.Tests.{eq-eqb, ne_eqb}
use Rattle.sets.specs.Logic.{pick}
use Rattle.entering.proofs.after_node.Goals as goal

pub returns-then-len-ne0 : goal.returns-then-len-ne0
unfolding pick
returns-then-len-ne0 c = let more = ne_eqb _ 0 c.if-len-ne0.true in (rw more, rw more)

pub returns : goal.returns
unfolding pick
returns c =
    let ends = eq-eqb _ 0 c.if-len-ne0.false in
    (rw (ends, c.accepting-accepting.ensures), rw (ends, c.accepting-accepting.ensures))
