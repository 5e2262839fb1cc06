-- Credentials as the code goes through them, one by one. The code reads credential i + 1, and the definitions speak of suc i.
-- And the cells of a table that nobody has written yet.
use mathlib.Core.Path.{◌≡◌, refl, ap, ◌∙◌}
use mathlib.Core.List.{List}
use Prim.Native.Nat.{ℕ, zero, suc, ◌+◌, ◌<◌}
use native.Mathlib.Omega.{arith}
use native.Mathlib.Decide.{ℕ_discrete}
use native.Mathlib.Numerals.{add-one}
use lib.ListN.{replicate}
use Rattle.table.specs.Layout.{Numbered, credential, credentials}
use Rattle.table.specs.Holding.{WellFormed}
use Rattle.table.specs.declared.Credential.{Credential}
use Rattle.table.proofs.WellFormed.{wf-credential}
use Rattle.derivation.proofs.Asking.{chain-there}
use Rattle.members.specs.Members.{Blank, Whole}

-- what holds of all below i and of i holds of all below i + 1
pub below_next : (P : ℕ → Type 0) (i : ℕ) → ((k : ℕ) → k < i → P k) → P i → (k : ℕ) → k < i + 1 → P k
below_next P i before here k l = go (ℕ_discrete k i)
  where
    go : Dec (k ≡ i) → P k
    go (yes e) = rw e here
    go (no e) = before k (omega arith)

pub numbered : {n i : ℕ} → i < n → Numbered n (suc i)
numbered l = record { first = omega arith; last = omega arith }

module _ (t : List ℕ) (i : ℕ) (x : Credential) (read : x ≡ credential t (i + 1)) where
  pub as_read : x ≡ credential t (suc i)
  as_read = read ∙ ap (credential t) (add-one i)

  pub kind-read : x.kind ≡ (credential t (suc i)).kind
  kind-read = ap (λ (y : Credential). y.kind) as_read

-- a credential of the table, which the code has read as x
pub whole : (t : List ℕ) → WellFormed t → (i : ℕ) → Numbered (credentials t) i → (x : Credential) → x ≡ credential t i
    → Whole t x
whole t wf i there x read =
    let chained = chain-there t wf i there x read in
    record {
      kind = rw read (wf-credential t wf i there).kind;
      first = λ four. (chained four).0;
      chained = λ four. (chained four).1;
    }

-- zeros are blank
pub zeros : (n : ℕ) → Blank (replicate n 0)
zeros zero x = refl
zeros (suc n) zero = refl
zeros (suc n) (suc x) = zeros n x
