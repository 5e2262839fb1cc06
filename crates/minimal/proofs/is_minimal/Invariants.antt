-- Without any of the first i credentials that the set has, it is not admitted.
use Rattle.std.proofs.Common.{◌≡◌, false}
use Rattle.sets.specs.Logic.{any_below}
use Rattle.admission.specs.Admits.{admits}
use Rattle.minimal.proofs.Spare.{spare}
use Rattle.minimal.proofs.is_minimal.Given as goal

abbrev pub invariant-loop-i : goal.invariant-loop-i
invariant-loop-i l = any_below (spare (admits l.request.table.now l.request.query) l.set) l.i ≡ false
