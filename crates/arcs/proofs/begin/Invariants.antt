-- The first k accepting sets stand, and all other cells are 0.
use Rattle.arcs.proofs.Beginning.{Begun}
use Rattle.arcs.proofs.begin.Given as goal

abbrev pub invariant-loop-k : goal.invariant-loop-k
invariant-loop-k l = Begun l.fn.table l.initial.arcs l.k l.arcs
