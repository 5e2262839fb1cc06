-- The sets of the first k automata are their starting sets.
use Rattle.automata.proofs.Together.{Started}
use Rattle.automata.proofs.StateSets.start.Given as goal

abbrev pub invariant-loop-k : goal.invariant-loop-k
invariant-loop-k l = Started l.fn.table l.k l.sets
