-- `settling::is_lacking` meets its contract. Assumes nothing.
use lib.Bits.{or_lt}
use lib.Pow.{pow-lt}
use Rattle.sets.proofs.Tests.{failed, passed}
use Rattle.settling.proofs.Owed.{lacking-told, lacking-unasked}
use Rattle.settling.proofs.is_lacking.Goals as goal

pub returns-then-not-has : goal.returns-then-not-has
returns-then-not-has c = lacking-unasked _ _ _ _ (failed c.has.ensures c.if-not-has.true)

pub covers-requires : goal.covers-requires
covers-requires c =
    rw c.with.ensures (or_lt 8 _ _ c.requires.0 (pow-lt {j = 8} c.requires.1))

pub returns : goal.returns
returns c =
    lacking-told _ _ _ _ (passed c.has.ensures c.if-not-has.false) (rw c.with.ensures at c.covers.ensures)
