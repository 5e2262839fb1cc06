-- The rows of the first i credentials are made, and the index stays one of the table.
use Rattle.relevance.proofs.RowMaking.{RowMaking}
use Rattle.relevance.proofs.make_arcs.Given as goal

abbrev pub invariant-loop-i : goal.invariant-loop-i
invariant-loop-i l = RowMaking l.table l.index l.set l.i l.arcs
