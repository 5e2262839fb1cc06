-- A credential of the set adds whom it proves, where that is somebody new; any other number changes nothing.
use Rattle.std.proofs.Common.{arith, sym, ◌∙◌}
use Rattle.levels.proofs.Rows.{grown-is, grown-more, grown-outside, grown-same, grown-starts}
use Rattle.levels.proofs.next_level.Goals.{then-has+then-more-rows, then-has+else-more-rows, else-has}
use Rattle.levels.proofs.next_level.Goals as goal

pub loop-i-init : goal.loop-i-init
loop-i-init c = grown-starts _ _ _ _ _ c.requires.rows_len

pub loop-i-preserved : goal.loop-i-preserved
loop-i-preserved c =
    let made = c.requires.indexed in
    let so_far = c.loop-i.invariant in
    let told = sym c.has.ensures in
    elim c.if-has.branch [
      | then-has+then-more-rows w ↦
          grown-is _ _ _ _ _ _ _ _ _ _ w.rows-is w.is_new-is
          (grown-more _ _ _ _ _ _ _ _ so_far (told ∙ w.if-has.true) made (omega arith) _ w.role_cell.ensures.0 _ w.proved_by.ensures)
      | then-has+else-more-rows w ↦
          grown-is _ _ _ _ _ _ _ _ _ _ w.rows-is w.is_new-is
          (grown-same _ _ _ _ _ _ _ _ so_far (told ∙ w.if-has.true) made (omega arith) _ w.role_cell.ensures.0 _ w.proved_by.ensures
          w.if-more-rows.false)
      | else-has w ↦
          grown-is _ _ _ _ _ _ _ _ _ _ w.rows-is w.is_new-is (grown-outside _ _ _ _ _ _ _ _ so_far (told ∙ w.if-has.false))
    ]
