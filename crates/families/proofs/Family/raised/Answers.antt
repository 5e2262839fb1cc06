-- `families::Family::raised` meets its contract: word j goes to the word of the high bits and j, which is one of the eight. Assumes
-- nothing.
use native.Mathlib.Omega.{arith}
use Rattle.families.proofs.Raising.{goes-inside, raised_all, raised-next, raised-none}
use Rattle.families.proofs.Family.raised.Goals as goal

pub loop-j-init : goal.loop-j-init
loop-j-init c = raised-none _ _

pub bounds-words-at : goal.bounds-words-at
bounds-words-at c = goes-inside _ _ c.requires c.loop-j-test.true

pub bounds-words-at-in-loop-j : goal.bounds-words-at-in-loop-j
bounds-words-at-in-loop-j c = goes-inside _ _ c.requires c.loop-j-test.true

pub loop-j-preserved : goal.loop-j-preserved
loop-j-preserved c = raised-next _ _ _ _ _ c.requires c.loop-j-test.true c.loop-j.invariant c.spread.ensures

pub returns : goal.returns
returns c = raised_all _ _ _ _ c.loop-j.invariant (omega arith)
