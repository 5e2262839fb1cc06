-- All pairs but one: the cell of its role without its principal.
use mathlib.Core.Path.{◌≡◌, refl, sym, ap, ◌∙◌}
use mathlib.Core.List.{List}
use mathlib.Core.Bool.{Bool, true, false, not}
use Prim.Native.Nat.{ℕ, ◌^◌, ◌<◌}
use native.Mathlib.Omega.{arith}
use native.Mathlib.Decide.{ℕ_discrete}
use lib.ListN.{get_or, length, set}
use lib.Seq.{get_or-set_other, get_or-set_same}
use lib.Bits.{bit_xor}
use lib.Dec.{eqb}
use borrow.Author.Tests.{eq-eqb, ne_eqb}
use Rattle.sets.specs.Logic.{◌and◌}
use Rattle.sets.specs.Sets.{in_set}
use Rattle.sets.proofs.Tests.{and_both, and-false, and-is-off, and_none, and-true}
use Rattle.sets.proofs.Without.{without_other, without-own}
use Rattle.table.specs.Limits.{most_credentials}
use Rattle.members.specs.Above.{pair_above}
use Rattle.members.specs.declared.above.Above.{Above}
use Rattle.failures.specs.Failures.{Spared}

-- a test with an exception, away from it and at it
and-not-off : (a b : Bool) → b ≡ false → (a and not b) ≡ a
and-not-off a b off = rw off (and-true a)

and-not-on : (a b : Bool) → b ≡ true → (a and not b) ≡ false
and-not-on a b on = rw on (and-false a)

-- every other pair is as it was, and the one is not there
spared : (all rest : Above) (person place : ℕ)
    → ((p r : ℕ) → (person ≡ p → place ≡ r → ⊥) → pair_above rest p r ≡ pair_above all p r)
    → pair_above rest person place ≡ false → Spared all person place rest
spared all rest person place same gone p r l = go (ℕ_discrete person p) (ℕ_discrete place r)
  where
    go : Dec (person ≡ p) → Dec (place ≡ r)
        → pair_above rest p r ≡ (pair_above all p r and not (eqb person p and eqb place r))
    go (yes e) (yes h) =
        ap (λ (x : ℕ). pair_above rest x r) (sym e) ∙ ap (pair_above rest person) (sym h) ∙ gone
        ∙ sym (and-not-on (pair_above all p r) _ (and_both (eq-eqb person p e) (eq-eqb place r h)))
    go (yes e) (no h) =
        same p r (λ one two. h two) ∙ sym (and-not-off (pair_above all p r) _ (and_none (eqb person p) (ne_eqb place r h)))
    go (no e) d =
        same p r (λ one two. e one) ∙ sym (and-not-off (pair_above all p r) _ (and-is-off (eqb place r) (ne_eqb person p e)))

-- a principal is taken from the cell of a place
module _ (cells : List ℕ) (person place : ℕ) (there : place < length cells)
    (inside : in_set (get_or cells place 0) person ≡ true) where
  left : ℕ
  left = bit_xor (get_or cells place 0) (2 ^ person)

  left_here : get_or (set cells place left) place 0 ≡ left
  left_here = get_or-set_same cells place left 0 there

  left-others : (p r : ℕ) → (person ≡ p → place ≡ r → ⊥) → in_set (get_or (set cells place left) r 0) p ≡ in_set (get_or cells r 0) p
  unfolding left
  left-others p r other = go (ℕ_discrete r place)
    where
      go : Dec (r ≡ place) → in_set (get_or (set cells place left) r 0) p ≡ in_set (get_or cells r 0) p
      go (yes e) = rw (e, left_here) (without_other (get_or cells place 0) person p (λ one. other one (sym e)))
      go (no e) = rw (get_or-set_other cells place r left 0 e)

  left-gone : in_set (get_or (set cells place left) place 0) person ≡ false
  unfolding left
  left-gone = rw left_here (without-own (get_or cells place 0) person inside)

module _ (all : Above) (person place : ℕ) where
  -- it was not there
  pub spared-none : in_set (get_or all.persons place 0) person ≡ false → Spared all person place all
  unfolding pair_above
  spared-none out = spared all all person place (λ p r other. refl) out

  -- it was, and is taken away
  pub spared-one : length all.persons ≡ most_credentials → place < most_credentials
      → in_set (get_or all.persons place 0) person ≡ true → (bit : ℕ) → bit ≡ 2 ^ person
      → Spared all person place (record { persons = set all.persons place (bit_xor (get_or all.persons place 0) bit) })
  unfolding pair_above left
  spared-one room few inside bit is =
      let there : place < length all.persons = omega arith in
      rw is
      (spared all (record { persons = set all.persons place (left all.persons person place there inside) }) person place
      (left-others all.persons person place there inside) (left-gone all.persons person place there inside))
