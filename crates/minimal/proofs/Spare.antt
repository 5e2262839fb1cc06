-- A set that is minimal by leaving out one credential at a time.
use mathlib.Core.Path.{◌≡◌, refl, sym, ◌∙◌}
use mathlib.Core.List.{List}
use mathlib.Core.Bool.{Bool, true, false}
use Prim.Native.Nat.{ℕ, ◌*◌, ◌%◌, ◌^◌, ◌<◌, ◌≤◌}
use native.Mathlib.Omega.{arith}
use lib.Bits.{bit_xor}
use Rattle.sets.specs.Logic.{◌and◌, any_below}
use Rattle.sets.specs.Sets.{in_set}
use Rattle.sets.proofs.Tests.{and_both, and_first, and_is, and-is-off, and_second, any-not, failed, false-true, passed, refuted}
use Rattle.sets.proofs.Members.{below-members, one_bit}
use Rattle.cuts.specs.Cuts.{Monotone, is_least}
use Rattle.cuts.proofs.Least.{least-by-one, least-without}
use Rattle.table.specs.Layout.{credentials}
use Rattle.table.specs.Holding.{WellFormed}
use Rattle.table.specs.declared.Query.{Query}
use Rattle.admission.specs.Admits.{admits}
use Rattle.admission.proofs.Admitting.{admits-mono}

module _ (t : List ℕ) (wf : WellFormed t) (q : Query) where
  pub admits-monotone : Monotone (admits t q) (credentials t)
  admits-monotone X Y few inside passes = admits-mono t wf q X Y inside passes

-- a credential that the set has, and without which it is admitted
abbrev pub spare : (ℕ → Bool) → ℕ → ℕ → Bool
spare p set i = in_set set i and p (bit_xor set (2 ^ i))

module _ (p : ℕ → Bool) (set i : ℕ) where
  pub spare-out : {has : Bool} → has ≡ in_set set i → has ≡ false → false ≡ spare p set i
  spare-out e h = sym (and-is-off _ (failed e h))

  pub spare-in : {has r : Bool} → i < 32 → has ≡ in_set set i → has ≡ true → r ≡ p (bit_xor set ((1 * 2 ^ i) % 2 ^ 32)) → r ≡ spare p set i
  spare-in few e h told = told ∙ rw (one_bit 32 i few) (sym (and_is (passed e h) refl))

  pub spare_more : {flag : Bool} → flag ≡ spare p set i → flag ≡ true → is_least p set ≡ false
  spare_more e h =
      let both = sym e ∙ h in
      refuted (is_least p set) (λ least.
      false-true (sym (least-without p set i least (and_first _ _ both)) ∙ and_second (in_set set i) _ both))

pub none-spare : (p : ℕ → Bool) (n : ℕ) → Monotone p n → (set : ℕ) → set < 2 ^ n → p set ≡ true → (i : ℕ) → n ≤ i
    → any_below (spare p set) i ≡ false → is_least p set ≡ true
none-spare p n mono set fits passes i all none =
    least-by-one p n mono set fits passes (λ c own.
    refuted (p (bit_xor set (2 ^ c))) (λ there.
    let l : c < i = omega (arith, below-members set n c fits own) in
    false-true (sym (any-not (spare p set) i c none l) ∙ and_both own there)))
