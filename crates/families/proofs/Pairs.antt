-- Two families word beside word: what is asked of each two words is asked of the list of such pairs.
use mathlib.Core.Path.{◌≡◌, refl, sym, ap, ◌∙◌}
use mathlib.Core.Bool.{Bool, true, false, not, ◌&&◌, ◌||◌}
use mathlib.Core.List.{List, [], ◌∷◌}
use Prim.Native.Nat.{ℕ, zero, suc, ◌*◌, ◌≤◌}
use mir.Syntax.{w32}
use mir.Val.{Fits}
use native.Mathlib.Omega.{arith}
use native.Mathlib.Numerals.{add-one}
use lib.ListN.{get_or, length, take}
use borrow.Author.Tests.{eqb-false, eqb-true, not-false, not-true}
use Rattle.std.specs.List.{list_all, list_any, zip}
use Rattle.std.proofs.lemmas.List.{take_all}
use Rattle.std.proofs.lemmas.List.Folds.{list_any_more}
use Rattle.std.proofs.lemmas.Slice.Zip.{get_or-zip, length-zip}
use Rattle.sets.specs.Logic.{◌or◌, any_below}
use Rattle.sets.specs.Sets.{meets, part}
use Rattle.sets.proofs.Tests.{any_same, any-shows, or-none, same_test, refuted, false-true}
use Rattle.families.specs.Families.{all_sets, family_words, is_part}
use Rattle.families.specs.declared.Family.{Family}
use Rattle.families.proofs.Words.{beyond, common, meets-here, meets-not, none_below, within_all, within-next, within-not, word}

-- one of the first n passes
any-listed : {A : Type 0} (p : A → Bool) (d : A) (xs : List A) (n : ℕ) → n ≤ length xs
    → list_any p (take n xs) ≡ any_below (λ i. p (get_or xs i d)) n
unfolding any_below ◌or◌
any-listed p d xs zero few = refl
any-listed p d xs (suc n) few =
    rw (← add-one n, list_any_more p xs n d few, any-listed p d xs n (omega arith))
    (go (any_below (λ i. p (get_or xs i d)) n) (p (get_or xs n d)))
  where
    go : (a b : Bool) → (a || b) ≡ (a or b)
    go true b = refl
    go false b = refl

-- all pass where none fails
not-all : {A : Type 0} (p : A → Bool) (xs : List A) → list_all p xs ≡ not (list_any (λ x. not (p x)) xs)
not-all p [] = refl
not-all p (x ∷ xs) = rw (not-all p xs) (go (p x) (list_any (λ x. not (p x)) xs))
  where
    go : (a b : Bool) → (a && not b) ≡ not (not a || b)
    go true b = refl
    go false b = refl

module _ (f g : Family) (own : length f.words ≡ family_words) (its : length g.words ≡ family_words) where
  any-pair : (t : ℕ × ℕ → Bool) → list_any t (zip f.words g.words) ≡ any_below (λ j. t (word f j, word g j)) family_words
  any-pair t =
      let size : length (zip f.words g.words) ≡ family_words = omega (arith, length-zip f.words g.words) in
      ap (list_any t) (sym (take_all family_words (zip f.words g.words) (omega arith)))
      ∙ any-listed t (0, 0) (zip f.words g.words) family_words (omega arith)
      ∙ any_same _ _ family_words (λ j l. ap t (get_or-zip f.words g.words j (0, 0) (omega arith) (omega arith)))

  -- some set is in both where some two words meet
  no-common : (n : ℕ) → any_below (λ j. meets (word f j) (word g j)) n ≡ false → any_below (common f g) (32 * n) ≡ false
  unfolding any_below meets
  no-common zero none = none_below (common f g)
  no-common (suc n) none =
      let (before, here) = or-none _ _ none in
      rw (← add-one n) (meets-not f g n (no-common n before) (eqb-true _ 0 (not-false _ here)))

  -- a set is only in the first where a word of the first is not a part of the other's
  none-beyond : (n : ℕ) → any_below (λ j. not (part (word f j) (word g j))) n ≡ false → any_below (beyond f g) (32 * n) ≡ false
  unfolding any_below part
  none-beyond zero none = none_below (beyond f g)
  none-beyond (suc n) none =
      let (before, here) = or-none _ _ none in
      rw (← add-one n) (within-next f g n (none-beyond n before) (eqb-true _ _ (not-false _ here)))

  module _ (fit : (j : ℕ) → Fits w32 (word f j)) where
    pub meets-pairs : list_any (λ p. meets p.0 p.1) (zip f.words g.words) ≡ any_below (common f g) all_sets
    unfolding meets
    meets-pairs = any-pair (λ p. meets p.0 p.1) ∙ same_test _ _ there (λ h. not-false _ (refuted _ (back h)))
      where
        there : any_below (λ j. meets (word f j) (word g j)) family_words ≡ true → any_below (common f g) all_sets ≡ true
        there h = let (j, l, some) = any-shows _ family_words h in meets-here f g j l (fit j) (eqb-false _ 0 (not-true _ some))

        back : any_below (common f g) all_sets ≡ true → not (any_below (λ j. meets (word f j) (word g j)) family_words) ≡ true → ⊥
        back h none = false-true (sym (no-common family_words (not-true _ none)) ∙ h)

    pub part-pairs : list_all (λ p. part p.0 p.1) (zip f.words g.words) ≡ is_part f g
    unfolding part
    part-pairs =
        not-all {A = ℕ × ℕ} (λ p. part p.0 p.1) (zip f.words g.words) ∙ ap not (any-pair (λ p. not (part p.0 p.1)))
        ∙ go (any_below outside family_words) refl
      where
        outside : ℕ → Bool
        outside j = not (part (word f j) (word g j))

        go : (b : Bool) → any_below outside family_words ≡ b → not b ≡ is_part f g
        go true some =
            let (j, l, other) = any-shows outside family_words some in
            within-not f g j l (fit j) (eqb-false _ (word f j) (not-true _ other))
        go false none = within_all f g family_words (none-beyond family_words none) refl
