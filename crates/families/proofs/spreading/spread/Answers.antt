-- `families::spreading::spread` meets its contract: a bit that is in `low` is put into the numbers, and another is not. Assumes
-- nothing.
use Rattle.std.proofs.Common.{arith, ◌∙◌, sym}
use Rattle.families.proofs.Lifting.{spread-all, spread-more, spread_none, spread-not}
use Rattle.families.proofs.spreading.spread.Goals as goal
use Rattle.families.proofs.spreading.spread.Goals.{else-has, then-has}

pub loop-i-init : goal.loop-i-init
loop-i-init c = spread_none _ _

pub loop-i-preserved : goal.loop-i-preserved
loop-i-preserved c =
    let so_far = c.loop-i.invariant in
    let told = sym c.has.ensures in
    elim c.if-has.branch [
      | then-has w ↦ rw w.all-is (spread-more _ _ _ _ so_far _ (told ∙ w.if-has.true) w.lifted-all.ensures)
      | else-has w ↦ rw w.all-is (spread-not _ _ _ _ so_far (told ∙ w.if-has.false))
    ]

pub returns : goal.returns
returns c = spread-all _ _ _ _ c.requires (omega arith) c.loop-i.invariant
