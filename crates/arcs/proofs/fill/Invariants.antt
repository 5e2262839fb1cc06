-- The row has the arcs of the first k edges.
use Rattle.arcs.proofs.Making.{Making}
use Rattle.arcs.proofs.fill.Given as goal

abbrev pub invariant-loop-k : goal.invariant-loop-k
invariant-loop-k l = Making l.fn.table l.role l.fn.place l.k l.initial.arcs l.arcs
