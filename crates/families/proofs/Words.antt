-- The words of a family: each has thirty-two sets, one bit for each. What is told of a word is told of these sets.
use mathlib.Core.Path.{◌≡◌, refl, sym, ap, ◌∙◌}
use mathlib.Core.Bool.{Bool, true, false, not}
use Prim.Native.Nat.{ℕ, ◌+◌, ◌*◌, ◌/◌, ◌%◌, ◌^◌, ◌<◌, ◌≤◌}
use mir.Syntax.{w32}
use mir.Val.{Fits}
use native.Mathlib.Omega.{arith}
use native.Mathlib.Decide.{ℕ_discrete}
use lib.ListN.{get_or, get_or-replicate, length, length-set, replicate, set}
use lib.Seq.{get_or-set_other, get_or-set_same}
use lib.Bits.{bit_and, bit_or}
use lib.Dec.{eqb}
use borrow.Author.Tests.{eq-eqb, eqb-true, ne_eqb, not-false, not-true}
use Rattle.sets.specs.Logic.{◌and◌, ◌or◌, any_below}
use Rattle.sets.specs.Sets.{in_set, part}
use Rattle.sets.proofs.Tests.{and_both, and_first, and_is, and-is-off, and_none, and_second, any-not, any-on, any-reached}
use Rattle.sets.proofs.Tests.{any-all, any_same, or-false, or_off, same_test}
use Rattle.sets.proofs.Members.{below-members, in_set-and, in_set-or, in_set-pow, in_set-zero, meets-common, meets-some}
use Rattle.sets.proofs.Without.{part-fails}
use Rattle.families.specs.Families.{FamilyOf, Within, all_sets, family_words, in_family, is_part}
use Rattle.families.specs.declared.Family.{Family}

abbrev pub word : Family → ℕ → ℕ
word f j = get_or f.words j 0

-- set s of word j
pub in-word : (f : Family) (j s : ℕ) → s < 32 → in_family f (32 * j + s) ≡ in_set (word f j) s
unfolding in_family
in-word f j s l =
    let at : (32 * j + s) / 32 ≡ j = omega arith in
    let bit : (32 * j + s) % 32 ≡ s = omega arith in
    rw (at, bit)

-- what holds of each set of a word holds of a set there
by_word : (P : ℕ → Type 0) (X j : ℕ) → X / 32 ≡ j → ((s : ℕ) → s < 32 → P (32 * j + s)) → P X
by_word P X j e each = let same : X ≡ 32 * j + X % 32 = omega arith in rw same (each (X % 32) (omega arith))

-- families with the same words have the same sets
pub same-sets : (f g : Family) → ((j : ℕ) → j < family_words → word f j ≡ word g j) → FamilyOf (in_family g) f
unfolding in_family
same-sets f g same X l = rw (same (X / 32) (omega arith))

-- words of zeros
pub no-sets : FamilyOf (λ X. false) (record { words = replicate family_words 0 })
unfolding in_family
no-sets X l = rw (get_or-replicate {A = ℕ} family_words (X / 32) 0 0 (omega arith)) (in_set-zero (X % 32))

-- a word is written anew, and the others stay
abbrev pub put : Family → ℕ → ℕ → Family
put f j v = record { words = set f.words j v }

module _ (f : Family) (j v : ℕ) where
  other_word : (X : ℕ) → (X / 32 ≡ j → ⊥) → in_family (put f j v) X ≡ in_family f X
  unfolding in_family
  other_word X other = rw (get_or-set_other f.words j (X / 32) v 0 other)

  own-word : j < length f.words → (s : ℕ) → s < 32 → in_family (put f j v) (32 * j + s) ≡ in_set v s
  own-word there s l = in-word (put f j v) j s l ∙ ap (λ x. in_set x s) (get_or-set_same f.words j v 0 there)

  pub by-words : (p : ℕ → Bool) (X : ℕ) → j < length f.words → ((s : ℕ) → s < 32 → in_set v s ≡ p (32 * j + s))
      → ((X / 32 ≡ j → ⊥) → in_family f X ≡ p X) → in_family (put f j v) X ≡ p X
  by-words p X there own other = go (ℕ_discrete (X / 32) j)
    where
      go : Dec (X / 32 ≡ j) → in_family (put f j v) X ≡ p X
      go (yes e) = by_word (λ Y. in_family (put f j v) Y ≡ p Y) X j e (λ s l. own-word there s l ∙ own s l)
      go (no e) = other_word X e ∙ other e

-- a set more: its bit is put into its word
pub one_more : (f : Family) (one : ℕ) → one < all_sets → length f.words ≡ family_words → (v : ℕ)
    → v ≡ bit_or (word f (one / 32)) (2 ^ (one % 32)) → FamilyOf (λ X. in_family f X or eqb one X) (put f (one / 32) v)
one_more f one few room v is X l =
    by-words f (one / 32) v (λ X. in_family f X or eqb one X) X (omega arith)
    (λ s less.
    rw (is, in_set-or (word f (one / 32)) (2 ^ (one % 32)) s, in_set-pow (one % 32) s, bit s less, in-word f (one / 32) s less))
    (λ other. rw (ne_eqb one X (λ same. other (omega arith))) (sym (or-false (in_family f X))))
  where
    bit : (s : ℕ) → s < 32 → eqb (one % 32) s ≡ eqb one (32 * (one / 32) + s)
    bit s less =
        same_test _ _ (λ e. let h = eqb-true (one % 32) s e in eq-eqb one (32 * (one / 32) + s) (omega arith))
        (λ e. let h = eqb-true one (32 * (one / 32) + s) e in eq-eqb (one % 32) s (omega arith))

-- and where there was none it is the only one
pub only_one : (f g : Family) (one : ℕ) → FamilyOf (λ X. false) f → FamilyOf (λ X. in_family f X or eqb one X) g
    → FamilyOf (eqb one) g
only_one f g one none more X l = more X l ∙ sym (or_off (none X l))

-- the first `count` words are made, and their sets are just those that pass the test
pub record Made (p : ℕ → Bool) (count : ℕ) (f : Family) : Type 0 where
  pub room : length f.words ≡ family_words
  pub each : (X : ℕ) → X / 32 < count → in_family f X ≡ p X

pub made_none : (p : ℕ → Bool) (f : Family) → length f.words ≡ family_words → Made p 0 f
made_none p f room = record { room = room; each = λ X l. absurd (omega arith) }

pub made-next : (p : ℕ → Bool) (j : ℕ) (f : Family) (v : ℕ) → Made p j f → j < family_words
    → ((s : ℕ) → s < 32 → in_set v s ≡ p (32 * j + s)) → Made p (j + 1) (put f j v)
made-next p j f v so_far l own =
    record {
      room = length-set f.words j v ∙ so_far.room;
      each = λ X less. by-words f j v p X (omega (arith, so_far.room)) own (λ other. so_far.each X (omega arith));
    }

pub made_all : (p : ℕ → Bool) (j : ℕ) (f : Family) → Made p j f → family_words ≤ j → FamilyOf p f
made_all p j f so_far all X l = so_far.each X (omega arith)

-- no set before the first word passes a test, and where none of word j does and none of those before, none of those up to it does
pub none_below : (p : ℕ → Bool) → any_below p 0 ≡ false
unfolding any_below
none_below p = refl

word_on : (p : ℕ → Bool) (j : ℕ) → any_below p (32 * j) ≡ false → ((s : ℕ) → s < 32 → p (32 * j + s) ≡ false)
    → any_below p (32 * (j + 1)) ≡ false
word_on p j before none =
    any-on p (32 * j) (32 * (j + 1)) before (λ X low high. by_word (λ Y. p Y ≡ false) X j (omega arith) none)

-- two families, word by word
module _ (f g : Family) where
  pub or_word : (j s : ℕ) → s < 32
      → in_set (bit_or (word f j) (word g j)) s ≡ (in_family f (32 * j + s) or in_family g (32 * j + s))
  or_word j s l = in_set-or (word f j) (word g j) s ∙ rw (in-word f j s l, in-word g j s l)

  -- the family whose words have the sets of both has the sets of both
  pub either-word : (both : Family) → ((j : ℕ) → j < family_words → word both j ≡ bit_or (word f j) (word g j))
      → FamilyOf (λ X. in_family f X or in_family g X) both
  either-word both each X l =
      by_word (λ Y. in_family both Y ≡ (in_family f Y or in_family g Y)) X (X / 32) refl
      (λ s less. in-word both (X / 32) s less ∙ ap (λ x. in_set x s) (each (X / 32) (omega arith)) ∙ or_word (X / 32) s less)

  and_word : (j s : ℕ) → s < 32
      → in_set (bit_and (word f j) (word g j)) s ≡ (in_family f (32 * j + s) and in_family g (32 * j + s))
  and_word j s l = in_set-and (word f j) (word g j) s ∙ rw (in-word f j s l, in-word g j s l)

  -- a set in both
  abbrev pub common : ℕ → Bool
  common X = in_family f X and in_family g X

  pub meets-not : (j : ℕ) → any_below common (32 * j) ≡ false → bit_and (word f j) (word g j) ≡ 0
      → any_below common (32 * (j + 1)) ≡ false
  meets-not j before none =
      word_on common j before (λ s l. sym (and_word j s l) ∙ ap (λ x. in_set x s) none ∙ in_set-zero s)

  pub meets-here : (j : ℕ) → j < family_words → Fits w32 (word f j) → (bit_and (word f j) (word g j) ≡ 0 → ⊥)
      → any_below common all_sets ≡ true
  meets-here j l few some =
      let (s, one, two) = meets-common (word f j) (word g j) (meets-some (word f j) (word g j) some) in
      let less = below-members (word f j) 32 s few.fits one in
      any-reached common all_sets (32 * j + s) (omega arith) (and_both (in-word f j s less ∙ one) (in-word g j s less ∙ two))

  -- a set that is only in the first
  abbrev pub beyond : ℕ → Bool
  beyond X = in_family f X and not (in_family g X)

  pub within-next : (j : ℕ) → any_below beyond (32 * j) ≡ false → bit_and (word f j) (word g j) ≡ word f j
      → any_below beyond (32 * (j + 1)) ≡ false
  within-next j before same =
      word_on beyond j before (λ s l. rw (in-word f j s l, in-word g j s l) (go s (in_set (word f j) s) refl))
    where
      go : (s : ℕ) (b : Bool) → in_set (word f j) s ≡ b → (b and not (in_set (word g j) s)) ≡ false
      go s true e =
          and_none true (ap not (and_second _ _ (sym (in_set-and (word f j) (word g j) s) ∙ ap (λ x. in_set x s) same ∙ e)))
      go s false e = and-is-off (not (in_set (word g j) s)) refl

  pub within_all : (j : ℕ) → any_below beyond (32 * j) ≡ false → j ≡ family_words → true ≡ is_part f g
  unfolding is_part
  within_all j none all = sym (ap not (any-all beyond (32 * j) all_sets (omega arith) none))

  pub within-not : (j : ℕ) → j < family_words → Fits w32 (word f j) → (bit_and (word f j) (word g j) ≡ word f j → ⊥)
      → false ≡ is_part f g
  unfolding is_part part
  within-not j l few other =
      let (s, one, none) = part-fails (word f j) (word g j) 32 few.fits (ne_eqb _ (word f j) other) in
      let less = below-members (word f j) 32 s few.fits one in
      sym (ap not (any-reached beyond all_sets (32 * j + s) (omega arith)
      (and_both (in-word f j s less ∙ one) (ap not (in-word g j s less ∙ none)))))

  pub part-within : is_part f g ≡ true → Within f g
  unfolding is_part
  part-within none X l h =
      not-false (in_family g X) (sym (and_is h refl) ∙ any-not beyond all_sets X (not-true (any_below beyond all_sets) none) l)

-- what a family has in common with itself
pub itself : (f : Family) → any_below (common f f) all_sets ≡ any_below (in_family f) all_sets
itself f =
    any_same (common f f) (in_family f) all_sets
    (λ X l. same_test _ _ (and_first (in_family f X) (in_family f X)) (λ h. and_both h h))
