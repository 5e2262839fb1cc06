-- The Boolean `is_minimal` decides what the definition calls a minimal set, so that `minimal_sets` is the definition's list. Every
-- set within which a record is accepted includes a minimal one.
use mathlib.Core.Path.{◌≡◌}
use mathlib.Core.List.{List}
use mathlib.Core.Bool.{true}
use mathlib.Core.Logic.{◌↔◌}
use Prim.Native.Nat.{ℕ, ◌^◌, ◌<◌}
use native.Mathlib.Omega.{arith}
use Rattle.table.specs.Layout.{credentials}
use Rattle.table.specs.Holding.{WellFormed}
use Rattle.table.specs.Checks.{Valid}
use Rattle.table.specs.declared.Query.{Query}
use Rattle.sets.specs.Sets.{part}
use Rattle.sets.proofs.Members.{part-le, part-trans}
use Rattle.verifier.proofs.DemandTwo.{demand-two}
use Rattle.cuts.proofs.Least.{least-least, least-passes, least-shown, least-within}
use Rattle.sorted.proofs.Ascending.{one_list, those-numbers}
use Rattle.admission.specs.Admits.{admits}
use Rattle.admission.proofs.Admitting.{accepted-admits, accepted-fits, admits-accepted, admits-mono}
use Rattle.listing.specs.Minimal.{is_minimal, minimal_sets}
use Rattle.listing.specs.Demands.{Admitted, Minimal, MinimalSets, Used}

-- between the Boolean and the records that the verifier accepts
module _ (t : List ℕ) (wf : WellFormed t) (q : Query) (valid : Valid q) where
  pub used-admits : (S : ℕ) → Used t q S → admits t q S ≡ true
  used-admits S (rec, e) = accepted-admits t wf q rec S ((demand-two t q rec S wf.accepted valid).0 e)

  pub admits-admitted : (S : ℕ) → admits t q S ≡ true → Admitted t q S
  admits-admitted S there =
      let (rec, T, a, within) = admits-accepted t wf q S there in
      (T, (rec, (demand-two t q rec T wf.accepted valid).1 a), within)

  pub admitted-admits : (S : ℕ) → Admitted t q S → admits t q S ≡ true
  admitted-admits S (T, used, within) = admits-mono t wf q T S within (used-admits T used)

  -- what the list asks of the search is what the demands say
  pub admits-exactly : (S : ℕ) → (admits t q S ≡ true) ↔ Admitted t q S
  admits-exactly S = (admits-admitted S, admitted-admits S)

  pub used-fits : (S : ℕ) → Used t q S → S < 2 ^ credentials t
  used-fits S (rec, e) = accepted-fits t q rec S ((demand-two t q rec S wf.accepted valid).0 e)

  -- the used set within a minimal set is the set itself
  pub is-minimal-set : (S : ℕ) → is_minimal t q S ≡ true → Minimal t q S
  is-minimal-set S h =
      let (T, used, within) = admits-admitted S (least-passes (admits t q) S h) in
      let same = least-least (admits t q) S h T within (used-admits T used) in
      record {
        used = rw same at used;
        least = λ T used within. least-least (admits t q) S h T within (used-admits T used);
      }

  -- a lesser part that admits would include a used set, which is another part
  pub minimal-set-is : (S : ℕ) → Minimal t q S → is_minimal t q S ≡ true
  minimal-set-is S m =
      least-shown (admits t q) S (used-admits S m.used) (λ T less within there.
      let (U, used, inside) = admits-admitted T there in
      let same = m.least U used (part-trans U T S inside within) in
      omega (arith, part-le U T inside))

  -- where a record using only credentials of S is accepted, S includes a minimal set
  pub admitted-includes : (S : ℕ) → Admitted t q S → (M : ℕ) × Minimal t q M × (part M S ≡ true)
  admitted-includes S (T, used, within) =
      let (M, minimal, inside) = least-within (admits t q) T (used-admits T used) in
      (M, is-minimal-set M minimal, part-trans M T S inside within)

  pub minimal-sets : MinimalSets t q (minimal_sets t q)
  unfolding minimal_sets
  minimal-sets =
      let all = those-numbers (is_minimal t q) (2 ^ credentials t) in
      record {
        only = λ i l. is-minimal-set _ (all.only i l);
        every = λ S m. all.every S (used-fits S m.used) (minimal-set-is S m);
        ascending = all.ascending;
      }

-- the minimal sets have one list
pub one-minimal-list : (t : List ℕ) (q : Query) (xs ys : List ℕ) → MinimalSets t q xs → MinimalSets t q ys → xs ≡ ys
one-minimal-list t q xs ys m m' =
    one_list xs ys m.ascending m'.ascending (λ i l. m'.every _ (m.only i l)) (λ i l. m.every _ (m'.only i l))
