-- The first i credentials have been looked at, and what those at the places ask has been taken in, or was there.
use Rattle.relevance.specs.Relevance.{Round}
use Rattle.relevance.proofs.more_places.Given as goal

abbrev pub invariant-loop-i : goal.invariant-loop-i
invariant-loop-i l = Round l.table l.index l.i l.places l.more
