-- A credential of the set has its role's row made, any other number changes nothing.
use Rattle.std.proofs.Common.{arith, sym, ◌∙◌}
use Rattle.relevance.proofs.RowMaking.{own-place, rows_more, rows-not}
use Rattle.relevance.proofs.make_arcs.Goals.{then-has, else-has}
use Rattle.relevance.proofs.make_arcs.Goals as goal

pub make-requires-clause-place_bound : goal.make-requires-clause-place_bound
make-requires-clause-place_bound c = own-place c.requires.indexed (omega arith) c.role_cell.ensures.0

pub loop-i-preserved : goal.loop-i-preserved
loop-i-preserved c =
    let m = c.loop-i.invariant in
    elim c.if-has.branch [
      | then-has w ↦
          rw w.arcs-is
          (rows_more m (omega arith) c.requires.well_formed c.requires.indexed w.role_cell.ensures.0 w.make.ensures.0
          w.make.ensures.1 w.make.auto.arcs)
      | else-has w ↦ rw w.arcs-is (rows-not m (omega arith) (sym c.has.ensures ∙ w.if-has.false))
    ]
