-- The set includes the chosen ones, and is not admitted.
use Rattle.table.specs.Layout.{credentials}
use Rattle.admission.specs.Admits.{admits}
use Rattle.candidates.specs.Candidates.{Grown}
use Rattle.candidates.proofs.grown.Given as goal

abbrev pub invariant-loop-i : goal.invariant-loop-i
invariant-loop-i l =
    Grown (admits l.request.table.now l.request.query) (credentials l.request.table.now) l.chosen l.set
