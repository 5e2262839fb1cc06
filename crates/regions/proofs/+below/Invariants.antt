-- At each call what is free, as a number, is less.
use Rattle.regions.proofs.+below.Given as goal

abbrev pub decreases-below : goal.decreases-below
decreases-below l = l.free
