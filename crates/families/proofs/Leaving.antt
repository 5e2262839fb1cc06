-- The sets that a test leaves are put into a family one by one, in ascending order; none is left beyond `most`.
use mathlib.Core.Path.{◌≡◌, refl, sym, ap, ◌∙◌}
use mathlib.Core.Bool.{Bool, true, false}
use Prim.Native.Nat.{ℕ, ◌+◌, ◌<◌}
use native.Mathlib.Omega.{arith}
use native.Mathlib.Decide.{dec_lt, ℕ_discrete}
use native.Mathlib.Numerals.{add-one}
use lib.Dec.{eqb, ltb}
use borrow.Author.Tests.{eq-eqb, le-ltb, lt-ltb, ne_eqb}
use Rattle.sets.specs.Logic.{◌and◌, ◌or◌}
use Rattle.sets.specs.Sets.{part}
use Rattle.sets.proofs.Tests.{and_both, and_is, and-is-off, and_none, failed, or-false, or-second, passed, refuted}
use Rattle.sets.proofs.Members.{ltb_next, part-le}
use Rattle.families.specs.Families.{FamilyOf, all_sets, completes, in_family, leaves}
use Rattle.families.specs.declared.Family.{Family}

-- the family has just those sets below n that pass the test
pub record Taken (p : ℕ → Bool) (n : ℕ) (f : Family) : Type 0 where
  pub sets : FamilyOf (λ X. ltb X n and p X) f

module _ (p : ℕ → Bool) where
  pub taken_none : (f : Family) → FamilyOf (λ X. false) f → Taken p 0 f
  taken_none f none = record { sets = λ X l. none X l ∙ sym (and-is-off (p X) (le-ltb X 0 (omega arith))) }

  module _ {n : ℕ} {f : Family} (so_far : Taken p n f) {told : Bool} (is : told ≡ p n) where
    -- another set is as it was
    taken-other : (X : ℕ) → X < all_sets → (n ≡ X → ⊥) → in_family f X ≡ (ltb X (n + 1) and p X)
    taken-other X l other = so_far.sets X l ∙ rw (ltb_next X n other, add-one n)

    pub taken-one : {more : Family} → told ≡ true → FamilyOf (λ X. in_family f X or eqb n X) more → Taken p (n + 1) more
    taken-one {more} passes new = record { sets = λ X l. new X l ∙ go X l (ℕ_discrete n X) }
      where
        go : (X : ℕ) → X < all_sets → Dec (n ≡ X) → (in_family f X or eqb n X) ≡ (ltb X (n + 1) and p X)
        go X l (yes e) =
            or-second (in_family f X) (eq-eqb n X e)
            ∙ sym (and_both (lt-ltb X (n + 1) (omega arith)) (sym (ap p e) ∙ passed is passes))
        go X l (no e) = rw (ne_eqb n X e) (or-false (in_family f X) ∙ taken-other X l e)

    pub taken_not : told ≡ false → Taken p (n + 1) f
    taken_not out = record { sets = λ X l. go X l (ℕ_discrete n X) }
      where
        go : (X : ℕ) → X < all_sets → Dec (n ≡ X) → in_family f X ≡ (ltb X (n + 1) and p X)
        go X l (yes e) =
            let off = sym (ap p e) ∙ failed is out in
            so_far.sets X l ∙ and_none (ltb X n) off ∙ sym (and_none (ltb X (n + 1)) off)
        go X l (no e) = taken-other X l e

-- a set beyond `most` is no part of it
pub left-all : (f later : Family) (most n : ℕ) (left : Family) → Taken (leaves f later most) n left → most < n
    → FamilyOf (leaves f later most) left
unfolding leaves
left-all f later most n left so_far beyond X l = so_far.sets X l ∙ go (dec_lt X n)
  where
    go : Dec (X < n) → (ltb X n and part X most and completes f later X) ≡ (part X most and completes f later X)
    go (yes less) = and_is (lt-ltb X n less) refl
    go (no more) =
        and-is-off _ (le-ltb X n (omega arith))
        ∙ sym (and-is-off _ (refuted (part X most) (λ h. let few = part-le X most h in absurd (omega arith))))
