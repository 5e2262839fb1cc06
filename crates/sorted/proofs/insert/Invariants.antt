-- All that is held from `place` on is greater than the number.
use Rattle.sorted.proofs.Placing.{Passed}
use Rattle.sorted.proofs.insert.Given as goal

abbrev pub invariant-loop-place : goal.invariant-loop-place
invariant-loop-place l = Passed l.numbers l.held l.number l.place

abbrev pub decreases-loop-place : goal.decreases-loop-place
decreases-loop-place l = l.place
