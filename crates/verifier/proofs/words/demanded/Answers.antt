-- One test of the mark.
use Rattle.sets.specs.Logic.{pick}
use Rattle.sets.proofs.Tests.{failed, passed}
use Rattle.verifier.proofs.words.demanded.Goals as goal

pub returns-then-demands : goal.returns-then-demands
unfolding pick
returns-then-demands c = rw (passed c.demands.ensures c.if-demands.true)

pub returns-else-demands : goal.returns-else-demands
unfolding pick
returns-else-demands c = rw (failed c.demands.ensures c.if-demands.false)
