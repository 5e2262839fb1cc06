-- What does not bear on a query may be left out: a set is admitted exactly where those of its credentials that bear on it are.
use mathlib.Core.Path.{◌≡◌, sym, ◌∙◌}
use mathlib.Core.List.{List}
use Prim.Native.Nat.{ℕ, ◌-◌}
use lib.Bits.{bit_and}
use Rattle.sets.proofs.Tests.{and_both, and_first, same_test}
use Rattle.sets.proofs.Members.{in_set-and, part-shown}
use Rattle.table.specs.Holding.{WellFormed}
use Rattle.table.specs.declared.Query.{Query}
use Rattle.admission.specs.Admits.{admits}
use Rattle.admission.proofs.Admitting.{admits-exact, admits-mono}
use Rattle.relevance.specs.Relevance.{Relevant}

module _ (t : List ℕ) (wf : WellFormed t) (q : Query) where
  pub relevant-admits : (R : ℕ) → Relevant t q R → (Y : ℕ) → admits t q (bit_and Y R) ≡ admits t q Y
  relevant-admits R relevant Y =
      same_test _ _ (admits-mono t wf q (bit_and Y R) Y (part-shown _ Y (λ s h. and_first _ _ (sym (in_set-and Y R s) ∙ h))))
      (λ h.
      let a = (admits-exact t wf q Y).0 h in
      let only = relevant.every a.forest a.derives in
      (admits-exact t wf q (bit_and Y R)).1
      record {
        forest = a.forest;
        derives = a.derives;
        uses_only = λ c named. in_set-and Y R (c - 1) ∙ and_both (a.uses_only c named) (only c named);
        complies = a.complies;
      })
