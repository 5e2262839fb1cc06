-- None of the first l arcs leads nowhere, nor to the state.
use Rattle.placing.proofs.Looking.{Looking}
use Rattle.placing.proofs.find.Given as goal

abbrev pub invariant-loop-l : goal.invariant-loop-l
invariant-loop-l l = Looking l.fn.arcs l.fn.place l.fn.to l.l
