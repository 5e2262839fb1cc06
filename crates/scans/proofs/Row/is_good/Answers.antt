-- Row by row, the record is read and tested.
use Rattle.table.specs.Checks.{good_cell_to, good_credential_to, good_edge_to, good_mark}
use Rattle.scans.proofs.Row.is_good.Goals as goal

pub returns-in-Credentials : goal.returns-in-Credentials
unfolding good_credential_to
returns-in-Credentials c = rw (c.in-Credentials.is, ← c.credential.ensures, ← c.cells.ensures.same, ← c.automata.ensures.same) c.credential_ok.ensures

pub returns-in-Cells : goal.returns-in-Cells
unfolding good_cell_to
returns-in-Cells c = rw (c.in-Cells.is, ← c.cell.ensures, ← c.cells-in-Cells.ensures.same) c.cell_ok.ensures

pub returns-in-Edges : goal.returns-in-Edges
unfolding good_edge_to
returns-in-Edges c = rw (c.in-Edges.is, ← c.edge.ensures, ← c.automata-in-Edges.ensures.same) c.edge_ok.ensures

pub returns-in-Marks : goal.returns-in-Marks
unfolding good_mark
returns-in-Marks c = rw (c.in-Marks.is, ← c.automaton.ensures) c.mark_ok.ensures
