-- The first k sets have what the arc gives.
use Rattle.moves.proofs.Arcs.{Giving}
use Rattle.moves.proofs.by_arc.Given as goal

abbrev pub invariant-loop-k : goal.invariant-loop-k
invariant-loop-k l = Giving l.fn.arcs l.fn.at l.fn.states l.initial.sets l.to l.k l.sets
