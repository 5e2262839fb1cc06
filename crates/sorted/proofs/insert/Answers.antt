-- `sorted::insert` meets its contract: the number is put before all that is greater (proofs/Placing.antt). Assumes nothing.
use Rattle.std.proofs.Common.{arith, refl, ◌<◌, ◌≤◌, ◌-◌, get_or}
use Rattle.sorted.proofs.Inserting.{placed-inserted}
use Rattle.sorted.proofs.Placing.{placed-moved, placed-out}
use Rattle.sorted.proofs.insert.Goals as goal
use Rattle.sorted.proofs.insert.Goals.{else-loop-place-test, else-place-cells, then-loop-place-test+else-number-numbers, then-place-cells}

pub returns : goal.returns
returns c =
    let place = c.loop-place.place in
    let passed = c.loop-place.invariant in
    let ends : 0 < place → get_or c.args.numbers.now (place - 1) 0 ≤ c.args.number =
    λ some. elim c.loop-place-test.branch [
      | then-loop-place-test+else-number-numbers w ↦ w.if-number-numbers.false
      | else-loop-place-test w ↦ absurd (omega (arith, w.loop-place-test.false))
    ] in
    placed-inserted _ _ _ _ _
    (elim c.if-place-cells.branch [
      | then-place-cells w ↦ placed-moved _ _ _ _ _ c.min-held.ensures passed ends _ w.min.result w.if-place-cells.true w.min.ensures
          (rw w.copy_within.ensures.after at w.numbers-is)
      | else-place-cells w ↦ placed-out _ _ _ _ _ c.min-held.ensures passed ends _ w.if-place-cells.false w.numbers-is
    ]) refl
