-- `attached::is_marked` meets its contract: the set is asked, then the mark. Assumes nothing.
use native.Mathlib.Numerals.{add-one}
use Rattle.sets.specs.Logic.{◌and◌}
use Rattle.sets.proofs.Tests.{failed, passed}
use Rattle.attached.proofs.is_marked.Goals as goal

pub returns-then-not-has : goal.returns-then-not-has
unfolding ◌and◌
returns-then-not-has c = rw (failed c.has.ensures c.if-not-has.true)

pub returns : goal.returns
unfolding ◌and◌
returns c =
    let member = passed c.has.ensures c.if-not-has.false in
    rw (member, c.demands.ensures, c.automaton.ensures, add-one)
