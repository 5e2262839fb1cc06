-- The first i bits have been put into the numbers.
use Rattle.families.specs.Families.{Spread}
use Rattle.families.proofs.Lifting.{lowest}
use Rattle.families.proofs.spreading.spread.Given as goal

abbrev pub invariant-loop-i : goal.invariant-loop-i
invariant-loop-i l = Spread l.word (lowest l.low l.i) l.all
