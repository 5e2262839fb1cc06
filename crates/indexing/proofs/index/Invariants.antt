-- The cells of the first i credentials are filled.
use Rattle.indexing.proofs.Indexing.{Filled}
use Rattle.indexing.proofs.index.Given as goal

abbrev pub invariant-loop-i : goal.invariant-loop-i
invariant-loop-i l = Filled l.table l.index l.i
