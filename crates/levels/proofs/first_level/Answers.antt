-- A simple membership of the set names whoever stands in its cell, another credential of it is told, any other number changes
-- nothing.
use Rattle.std.proofs.Common.{sym, ◌∙◌}
use Rattle.table.proofs.Reading.{is-number, not-number}
use Rattle.levels.proofs.Rows.{first-is, first-named, first-other, first-outside, first-starts}
use Rattle.levels.proofs.first_level.Goals.{then-has+then-is, then-has+else-is, else-has}
use Rattle.levels.proofs.first_level.Goals as goal

pub loop-i-init : goal.loop-i-init
loop-i-init c = first-starts _ _ _ _ c.requires.rows_len c.requires.blank

pub loop-i-preserved : goal.loop-i-preserved
loop-i-preserved c =
    let so_far = c.loop-i.invariant in
    let told = sym c.has.ensures in
    elim c.if-has.branch [
      | then-has+then-is w ↦
          first-is _ _ _ _ _ _ _ _ w.rows-is w.others-is
          (first-named _ _ _ _ _ _ so_far _ w.credential.ensures (told ∙ w.if-has.true)
          (is-number w.is.ensures w.if-is.true) _ _ w.role_cell-cell.ensures.0 w.role_cell-cell.ensures.1
          w.asked_cell.ensures.0 _ w.with.ensures)
      | then-has+else-is w ↦
          first-is _ _ _ _ _ _ _ _ w.rows-is (w.others-is ∙ w.with-others.ensures)
          (first-other _ _ _ _ _ _ so_far _ w.credential.ensures (told ∙ w.if-has.true)
          (not-number w.is.ensures w.if-is.false))
      | else-has w ↦ first-is _ _ _ _ _ _ _ _ w.rows-is w.others-is (first-outside _ _ _ _ _ _ so_far (told ∙ w.if-has.false))
    ]
