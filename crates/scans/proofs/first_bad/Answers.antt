-- The loop stops at the first record that is not good.
use Rattle.std.proofs.Common.{arith, refl}
use Rattle.sets.proofs.Tests.{failed, passed}
use Rattle.table.specs.Outcome.{demand_each}
use Rattle.table.proofs.Stages.{each-passes}
use Rattle.scans.proofs.FirstBad.{bad-next, bad-none}
use Rattle.scans.proofs.first_bad.Goals as goal

pub loop-i-init : goal.loop-i-init
unfolding demand_each
loop-i-init c = λ number. refl

pub returns-then-not-is_good : goal.returns-then-not-is_good
returns-then-not-is_good c =
    bad-next _ _ _ c.loop-i.invariant (omega arith) (failed c.is_good.ensures c.if-not-is_good.true)

pub loop-i-preserved : goal.loop-i-preserved
loop-i-preserved c = λ number. each-passes _ number _ (c.loop-i.invariant number) (passed c.is_good.ensures c.if-not-is_good.false)

pub returns : goal.returns
returns c = bad-none _ _ _ c.loop-i.invariant (omega arith)
