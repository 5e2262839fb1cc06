-- `families::Family::left_by` meets its contract: a set that is left is put in, and another is not. Assumes nothing.
use Rattle.std.proofs.Common.{arith, ◌+◌}
use Rattle.families.proofs.Leaving.{left-all, taken_none, taken_not, taken-one}
use Rattle.families.proofs.Family.left_by.Goals as goal
use Rattle.families.proofs.Family.left_by.Goals.{else-leaves, then-leaves}

pub loop-set-init : goal.loop-set-init
loop-set-init c = taken_none _ _ c.none-left.ensures

pub loop-set-preserved : goal.loop-set-preserved
loop-set-preserved c =
    elim c.if-leaves.branch [
      | then-leaves w ↦ rw w.left-is (taken-one _ c.loop-set.invariant c.leaves.ensures w.if-leaves.true w.with-left.ensures)
      | else-leaves w ↦ rw w.left-is (taken_not _ c.loop-set.invariant c.leaves.ensures w.if-leaves.false)
    ]

-- the last set, likewise
pub returns-after-leaves : goal.returns-after-leaves
returns-after-leaves c =
    left-all _ _ _ (c.loop-set.set + 1) _
    (elim c.if-leaves.branch [
      | then-leaves w ↦ rw w.left-is (taken-one _ c.loop-set.invariant c.leaves.ensures w.if-leaves.true w.with-left.ensures)
      | else-leaves w ↦ rw w.left-is (taken_not _ c.loop-set.invariant c.leaves.ensures w.if-leaves.false)
    ])
    (omega arith)
