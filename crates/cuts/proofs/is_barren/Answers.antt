-- `cuts::is_barren` meets its contract: what the cuts alone tell of a region. Assumes nothing.
use native.Mathlib.Omega.{arith}
use Rattle.sets.proofs.Tests.{failed}
use Rattle.cuts.proofs.Judging.{judged-full, judged-off, judged-sole}
use Rattle.cuts.proofs.is_barren.Goals as goal

pub returns-then-not-meets_all : goal.returns-then-not-meets_all
returns-then-not-meets_all c = judged-off _ _ _ _ (failed c.meets_all.ensures c.if-not-meets_all.true)

pub returns-then-count-cuts : goal.returns-then-count-cuts
returns-then-count-cuts c = judged-full _ _ _ _ c.if-count-cuts.true

pub returns : goal.returns
returns c =
    judged-sole _ _ _ _ _ c.sole.ensures (omega (arith, c.if-count-cuts.false, c.requires))
