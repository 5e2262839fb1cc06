-- The two sets are asked for the automaton.
use Rattle.sets.specs.Logic.{◌or◌}
use Rattle.sets.proofs.Tests.{failed, passed}
use Rattle.verifier.proofs.words.is_kept.Goals as goal

pub returns-then-not-has : goal.returns-then-not-has
unfolding ◌or◌
returns-then-not-has c = rw (failed c.has.ensures c.if-not-has.true, c.if-not-has.true)

pub returns-else-not-has : goal.returns-else-not-has
unfolding ◌or◌
returns-else-not-has c = rw (passed c.has.ensures c.if-not-has.false) c.has-else-not-has.ensures
