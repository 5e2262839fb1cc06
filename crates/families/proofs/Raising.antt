-- A set put into all sets of a family, word by word: its high bits say to which word a word goes, and its low bits are put into
-- the numbers of the word.
use mathlib.Core.Path.{◌≡◌, refl, sym, ap, ap₂, ◌∙◌}
use mathlib.Core.Bool.{Bool, false}
use Prim.Native.Nat.{ℕ, zero, suc, ◌+◌, ◌*◌, ◌/◌, ◌%◌, ◌<◌}
use native.Mathlib.Omega.{arith}
use lib.ListN.{length, length-set, replicate}
use lib.Bits.{bit_or, or_block, or_lt}
use lib.Dec.{eqb}
use borrow.Author.Tests.{eq-eqb, eqb-true, ne_eqb}
use Rattle.sets.specs.Logic.{◌and◌, ◌or◌, any_below}
use Rattle.sets.specs.Sets.{in_set}
use Rattle.sets.proofs.Tests.{and_none, any_none, any_same, or_assoc, or-false, same_test}
use Rattle.sets.proofs.Members.{in_set-or}
use Rattle.families.specs.Families.{FamilyOf, Spread, all_sets, family_words, in_family, raises, spreads, word_sets}
use Rattle.families.specs.declared.Family.{Family}
use Rattle.families.proofs.Words.{by-words, in-word, no-sets, none_below, put, word}

-- what passes below n + m passes below n, or among the m from there on
any-apart : (p : ℕ → Bool) (n m : ℕ) → any_below p (n + m) ≡ (any_below p n or any_below (λ k. p (n + k)) m)
unfolding any_below
any-apart p n zero = let e : n + 0 ≡ n = omega arith in rw e (sym (or-false (any_below p n)))
any-apart p n (suc m) =
    let e : n + suc m ≡ suc (n + m) = omega arith in
    rw (e, any-apart p n m) (or_assoc (any_below p n) (any_below (λ k. p (n + k)) m) (p (n + m)))

any_word : (p : ℕ → Bool) (j : ℕ) → any_below p (32 * (j + 1)) ≡ (any_below p (32 * j) or any_below (λ b. p (32 * j + b)) word_sets)
any_word p j = let e : 32 * (j + 1) ≡ 32 * j + word_sets = omega arith in ap (any_below p) e ∙ any-apart p (32 * j) word_sets

-- Y together with number b of word j
module _ (Y j : ℕ) where
  abbrev pub goes_to : ℕ
  goes_to = bit_or (Y / 32) j

  pub goes-inside : Y < all_sets → j < family_words → goes_to < family_words
  goes-inside few l = or_lt 3 (Y / 32) j (omega arith) l

  union-is : (b : ℕ) → b < word_sets → bit_or Y (32 * j + b) ≡ 32 * goes_to + bit_or (Y % 32) b
  union-is b l =
      let own : Y ≡ Y / 32 * 32 + Y % 32 = omega arith in
      let there : 32 * j + b ≡ j * 32 + b = omega arith in
      ap (λ (x : ℕ). bit_or x (32 * j + b)) own ∙ ap (bit_or (Y / 32 * 32 + Y % 32)) there
      ∙ or_block 5 (Y / 32) j (Y % 32) b (omega arith) l ∙ omega arith

  union-here : (s b : ℕ) → b < word_sets → eqb (bit_or Y (32 * j + b)) (32 * goes_to + s) ≡ eqb (bit_or (Y % 32) b) s
  union-here s b l =
      rw (union-is b l)
      (same_test _ _ (λ e. let h = eqb-true _ (32 * goes_to + s) e in eq-eqb (bit_or (Y % 32) b) s (omega arith))
      (λ e. eq-eqb _ _ (ap (λ (x : ℕ). 32 * goes_to + x) (eqb-true (bit_or (Y % 32) b) s e))))

  union-elsewhere : (X b : ℕ) → b < word_sets → (X / 32 ≡ goes_to → ⊥) → eqb (bit_or Y (32 * j + b)) X ≡ false
  union-elsewhere X b l other =
      let less = or_lt 5 (Y % 32) b (omega arith) l in
      ne_eqb _ X (λ e. other (omega (arith, sym (union-is b l) ∙ e)))

-- the first j words are done: their sets together with Y are there
abbrev pub unions : Family → ℕ → ℕ → ℕ → Bool
unions g Y X = λ Z. in_family g Z and eqb (bit_or Y Z) X

pub record RaisedTo (g : Family) (Y j : ℕ) (f : Family) : Type 0 where
  pub room : length f.words ≡ family_words
  pub sets : FamilyOf (λ X. any_below (unions g Y X) (32 * j)) f

module _ (g : Family) (Y : ℕ) where
  pub raised-none : RaisedTo g Y 0 (record { words = replicate family_words 0 })
  raised-none = record { room = refl; sets = λ X l. no-sets X l ∙ sym (none_below (unions g Y X)) }

  module _ (j : ℕ) where
    here : (s : ℕ) → any_below (λ b. unions g Y (32 * goes_to Y j + s) (32 * j + b)) word_sets ≡ spreads (word g j) (Y % 32) s
    unfolding spreads
    here s = any_same _ _ word_sets (λ b l. rw (in-word g j b l, union-here Y j s b l))

    elsewhere : (X : ℕ) → (X / 32 ≡ goes_to Y j → ⊥) → any_below (λ b. unions g Y X (32 * j + b)) word_sets ≡ false
    elsewhere X other =
        any_none _ word_sets (λ b l. and_none (in_family g (32 * j + b)) (union-elsewhere Y j X b l other))

    pub raised-next : (f : Family) (v : ℕ) → Y < all_sets → j < family_words → RaisedTo g Y j f → Spread (word g j) (Y % 32) v
        → RaisedTo g Y (j + 1) (put f (goes_to Y j) (bit_or (word f (goes_to Y j)) v))
    raised-next f v few l so_far is =
        record {
          room = length-set f.words at new ∙ so_far.room;
          sets = λ X less. by-words f at new made X there own (other X less);
        }
      where
        at : ℕ
        at = goes_to Y j

        new : ℕ
        new = bit_or (word f at) v

        made : ℕ → Bool
        made X = any_below (unions g Y X) (32 * (j + 1))

        small : at < family_words
        small = goes-inside Y j few l

        there : at < length f.words
        there = omega (arith, small, so_far.room)

        own : (s : ℕ) → s < word_sets → in_set new s ≡ made (32 * at + s)
        own s less =
            in_set-or (word f at) v s
            ∙ ap₂ (λ a b. a or b) (sym (in-word f at s less) ∙ so_far.sets (32 * at + s) (omega (arith, small)))
            (is s less ∙ sym (here s)) ∙ sym (any_word (unions g Y (32 * at + s)) j)

        other : (X : ℕ) → X < all_sets → (X / 32 ≡ at → ⊥) → in_family f X ≡ made X
        other X less out =
            so_far.sets X less ∙ sym (or-false _) ∙ ap (λ b. any_below (unions g Y X) (32 * j) or b) (sym (elsewhere X out))
            ∙ sym (any_word (unions g Y X) j)

  pub raised_all : (j : ℕ) (f : Family) → RaisedTo g Y j f → j ≡ family_words → FamilyOf (raises g Y) f
  unfolding raises
  raised_all j f so_far all X l = so_far.sets X l ∙ ap (λ (n : ℕ). any_below (unions g Y X) (32 * n)) all
