-- The sets have moved along the first k edges.
use Rattle.automata.proofs.Together.{Moving}
use Rattle.automata.proofs.StateSets.by_edges.Given as goal

abbrev pub invariant-loop-k : goal.invariant-loop-k
invariant-loop-k l = Moving l.fn.table l.fn.role l.fn.self l.k l.next
