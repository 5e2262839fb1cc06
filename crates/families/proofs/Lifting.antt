-- A word as a set of numbers below 32: what is in a word that is shifted, and what is there once bits are put into all of its
-- numbers, one bit after the other.
use mathlib.Core.Path.{◌≡◌, refl, sym, ap, ◌∙◌}
use mathlib.Core.Bool.{Bool, true, false, not}
use mathlib.Core.List.{[], ◌∷◌}
use Prim.Native.Nat.{ℕ, zero, suc, ◌+◌, ◌-◌, ◌*◌, ◌%◌, ◌^◌, ◌<◌, ◌≤◌}
use native.Mathlib.Omega.{arith}
use native.Mathlib.Decide.{dec_lt}
use lib.Bits.{bit_and, bit_or, bit_xor, and_mask, and_shifted, or_add_and, or_disjoint, or_zero_l}
use lib.Dec.{eqb, ltb}
use lib.ListN.{get_or}
use lib.Pow.{pow-lt, shl-shr, shr-shr}
use borrow.Author.Tests.{eq-eqb, eqb-true, lt-ltb, not-true}
use Rattle.sets.specs.Logic.{◌and◌, ◌or◌, pick}
use Rattle.sets.specs.Sets.{in_set, part, set_of}
use Rattle.sets.proofs.Tests.{and_both, and_first, and_is, and_second, and-true, any-reached, any-shows, false-true}
use Rattle.sets.proofs.Tests.{or-either, or-first, or-second, refuted, same_test}
use Rattle.sets.proofs.Members.{below-members, in_set-and, in_set-or, in_set-zero, one-among, own-bit, part-le, part-or-right}
use Rattle.sets.proofs.Members.{same-members, set_more, set-not, set_of-members}
use Rattle.sets.proofs.Without.{all-has, in_set-xor, one-is}
use Rattle.families.specs.Families.{Spread, spreads, word_bits, word_sets}

-- the numbers that have a bit, bit by bit
pub having_each : (i : ℕ) → i < word_bits
    → get_or (0xAAAAAAAA ∷ 0xCCCCCCCC ∷ 0xF0F0F0F0 ∷ 0xFF00FF00 ∷ 0xFFFF0000 ∷ []) i 0 ≡ set_of (λ x. in_set x i) word_sets
unfolding set_of in_set pick
having_each zero l = refl
having_each (suc zero) l = refl
having_each (suc (suc zero)) l = refl
having_each (suc (suc (suc zero))) l = refl
having_each (suc (suc (suc (suc zero)))) l = refl
having_each (suc (suc (suc (suc (suc i))))) l = absurd (omega arith)

-- a number is in a word that is shifted where the one that stands so much lower was in it; what is shifted out is gone
module _ (y s : ℕ) where
  pub shifted-on : (b : ℕ) → in_set (y * 2 ^ s) (s + b) ≡ in_set y b
  unfolding in_set
  shifted-on b = rw (← shr-shr (y * 2 ^ s) s b, shl-shr y s)

  shifted-low : (x : ℕ) → x < s → in_set (y * 2 ^ s) x ≡ false
  shifted-low x l =
      sym (and-true (in_set (y * 2 ^ s) x))
      ∙ rw (← own-bit x, ← in_set-and (y * 2 ^ s) (2 ^ x) x, and_shifted y s (2 ^ x) (pow-lt {i = x} {j = s} l)) (in_set-zero x)

  pub shifted_back : (x : ℕ) → in_set (y * 2 ^ s) x ≡ true → (s ≤ x) × (in_set y (x - s) ≡ true)
  shifted_back x h = go (dec_lt x s)
    where
      go : Dec (x < s) → (s ≤ x) × (in_set y (x - s) ≡ true)
      go (yes low) = absurd (false-true (sym (shifted-low x low) ∙ h))
      go (no high) =
          let e : s + (x - s) ≡ x = omega arith in
          (omega arith, sym (shifted-on (x - s)) ∙ ap (in_set (y * 2 ^ s)) e ∙ h)

pub inside-width : (y n x : ℕ) → x < n → in_set (y % 2 ^ n) x ≡ in_set y x
inside-width y n x l = rw (← and_mask y n, in_set-and y (2 ^ n - 1) x, all-has n x l) (and-true (in_set y x))

-- a bit that a number has, and one that it lacks
with-bit : (i b : ℕ) → in_set b i ≡ true → bit_or (2 ^ i) b ≡ b
unfolding part
with-bit i b h = omega (arith, or_add_and (2 ^ i) b, eqb-true (bit_and (2 ^ i) b) (2 ^ i) (one-among i b h))

new-bit : (i b : ℕ) → in_set b i ≡ false → bit_or (2 ^ i) b ≡ 2 ^ i + b
new-bit i b out = or_disjoint (2 ^ i) b (same-members (bit_and (2 ^ i) b) 0 (λ s. none s ∙ sym (in_set-zero s)))
  where
    none : (s : ℕ) → in_set (bit_and (2 ^ i) b) s ≡ false
    none s = refuted _ (λ m.
        let both = sym (in_set-and (2 ^ i) b s) ∙ m in
        false-true (sym out ∙ ap (in_set b) (one-is i s (and_first _ _ both)) ∙ and_second (in_set (2 ^ i) s) _ both))

-- some number of the word gives x, exactly where one can be named
module _ (word low : ℕ) where
  pub spreads-shows : (x : ℕ) → spreads word low x ≡ true → (b : ℕ) × (b < word_sets) × (in_set word b ≡ true) × (bit_or low b ≡ x)
  unfolding spreads
  spreads-shows x h =
      let (b, l, both) = any-shows _ word_sets h in
      (b, l, and_first _ _ both, eqb-true (bit_or low b) x (and_second (in_set word b) _ both))

  pub spreads-reached : (x b : ℕ) → b < word_sets → in_set word b ≡ true → bit_or low b ≡ x → spreads word low x ≡ true
  unfolding spreads
  spreads-reached x b l m e =
      any-reached (λ b. in_set word b and eqb (bit_or low b) x) word_sets b l (and_both m (eq-eqb (bit_or low b) x e))

-- one bit: the numbers that have it stay, and the others move up
module _ (word i having : ℕ) (is : having ≡ set_of (λ x. in_set x i) word_sets) where
  abbrev own : ℕ
  own = bit_and word having

  has-bit : (x : ℕ) → x < word_sets → in_set own x ≡ (in_set word x and in_set x i)
  has-bit x l =
      in_set-and word having x ∙ rw (is, set_of-members (λ x. in_set x i) word_sets x) (ap (λ b. in_set word x and b)
      (and_is (lt-ltb x word_sets l) refl))

  lacks-bit : (x : ℕ) → x < word_sets → in_set (bit_xor word own) x ≡ (in_set word x and not (in_set x i))
  unfolding pick ◌and◌
  lacks-bit x l = in_set-xor word own x ∙ rw (has-bit x l) (go (in_set word x) (in_set x i))
    where
      go : (a b : Bool) → pick (a and b) (not a) a ≡ (a and not b)
      go true true = refl
      go true false = refl
      go false b = refl

  abbrev lift : ℕ
  lift = bit_or own ((bit_xor word own * 2 ^ 2 ^ i) % 2 ^ word_sets)

  lift-members : (x : ℕ) → x < word_sets
      → in_set lift x ≡ ((in_set word x and in_set x i) or in_set (bit_xor word own * 2 ^ 2 ^ i) x)
  lift-members x l =
      in_set-or own _ x ∙ rw (has-bit x l, inside-width (bit_xor word own * 2 ^ 2 ^ i) word_sets x l)

  pub lifted-spread : Spread word (2 ^ i) lift
  lifted-spread x l = lift-members x l ∙ same_test _ _ (or-either stays moves) back
    where
      stays : (in_set word x and in_set x i) ≡ true → spreads word (2 ^ i) x ≡ true
      stays h = spreads-reached word (2 ^ i) x x l (and_first _ _ h) (with-bit i x (and_second (in_set word x) _ h))

      moves : in_set (bit_xor word own * 2 ^ 2 ^ i) x ≡ true → spreads word (2 ^ i) x ≡ true
      moves h =
          let (low, m) = shifted_back (bit_xor word own) (2 ^ i) x h in
          let both = sym (lacks-bit (x - 2 ^ i) (omega arith)) ∙ m in
          let e = new-bit i (x - 2 ^ i) (not-true _ (and_second (in_set word (x - 2 ^ i)) _ both)) in
          spreads-reached word (2 ^ i) x (x - 2 ^ i) (omega arith) (and_first _ _ both) (omega (arith, e))

      back : spreads word (2 ^ i) x ≡ true → ((in_set word x and in_set x i) or in_set (bit_xor word own * 2 ^ 2 ^ i) x) ≡ true
      back h = let (b, less, m, e) = spreads-shows word (2 ^ i) x h in go b less m e (in_set b i) refl
        where
          go : (b : ℕ) → b < word_sets → in_set word b ≡ true → bit_or (2 ^ i) b ≡ x → (has : Bool) → in_set b i ≡ has
              → ((in_set word x and in_set x i) or in_set (bit_xor word own * 2 ^ 2 ^ i) x) ≡ true
          go b less m e true has =
              let same : b ≡ x = sym (with-bit i b has) ∙ e in
              or-first _ (rw (← same) (and_both m has))
          go b less m e false out =
              let same : 2 ^ i + b ≡ x = sym (new-bit i b out) ∙ e in
              or-second _ (rw (← same)
              (shifted-on (bit_xor word own) (2 ^ i) b ∙ lacks-bit b less ∙ and_both m (ap not out)))

-- bit by bit: the first i bits of `low` are in all numbers
abbrev pub lowest : ℕ → ℕ → ℕ
lowest low i = set_of (in_set low) i

pub spread_none : (word low : ℕ) → Spread word (lowest low 0) word
unfolding set_of
spread_none word low x l =
    same_test _ _ (λ m. spreads-reached word 0 x x l m (or_zero_l x))
    (λ h. let (b, less, m, e) = spreads-shows word 0 x h in ap (in_set word) (sym e) ∙ m)

or-after : (a b c : ℕ) → bit_or (bit_or a b) c ≡ bit_or b (bit_or a c)
unfolding ◌or◌
or-after a b c =
    same-members _ _ (λ s. rw (in_set-or (bit_or a b) c s, in_set-or a b s, in_set-or b (bit_or a c) s, in_set-or a c s)
    (go (in_set a s) (in_set b s) (in_set c s)))
  where
    go : (x y z : Bool) → ((x or y) or z) ≡ (y or (x or z))
    go true true z = refl
    go true false z = refl
    go false true z = refl
    go false false z = refl

module _ (word low i : ℕ) (all : ℕ) (so_far : Spread word (lowest low i) all) where
  pub spread-not : in_set low i ≡ false → Spread word (lowest low (i + 1)) all
  spread-not out = rw (← set-not (in_set low) (lowest low i) i refl out) so_far

  pub spread-more : (more : ℕ) → in_set low i ≡ true → Spread all (2 ^ i) more → Spread word (lowest low (i + 1)) more
  spread-more more has lifted x l = lifted x l ∙ same_test _ _ on back
    where
      joined : (b : ℕ) → bit_or (lowest low (i + 1)) b ≡ bit_or (2 ^ i) (bit_or (lowest low i) b)
      joined b = rw (← set_more (in_set low) (lowest low i) i refl has) (or-after (lowest low i) (2 ^ i) b)

      on : spreads all (2 ^ i) x ≡ true → spreads word (lowest low (i + 1)) x ≡ true
      on h =
          let (b, less, there, e) = spreads-shows all (2 ^ i) x h in
          let (d, few, own, same) = spreads-shows word (lowest low i) b (sym (so_far b less) ∙ there) in
          spreads-reached word (lowest low (i + 1)) x d few own (joined d ∙ ap (bit_or (2 ^ i)) same ∙ e)

      back : spreads word (lowest low (i + 1)) x ≡ true → spreads all (2 ^ i) x ≡ true
      back h =
          let (d, few, own, e) = spreads-shows word (lowest low (i + 1)) x h in
          let b = bit_or (lowest low i) d in
          let same : bit_or (2 ^ i) b ≡ x = sym (joined d) ∙ e in
          let less : b < word_sets = omega (arith, part-le b (bit_or (2 ^ i) b) (part-or-right (2 ^ i) b)) in
          spreads-reached all (2 ^ i) x b less (so_far b less ∙ spreads-reached word (lowest low i) b d few own refl) same

lowest-all : (low n : ℕ) → low < 2 ^ n → lowest low n ≡ low
lowest-all low n few =
    same-members _ _ (λ s. set_of-members (in_set low) n s
    ∙ same_test _ _ (and_second (ltb s n) _) (λ m. and_both (lt-ltb s n (below-members low n s few m)) m))

pub spread-all : (word low i r : ℕ) → low < word_sets → i ≡ word_bits → Spread word (lowest low i) r → Spread word low r
spread-all word low i r few all is = rw (all, lowest-all low word_bits few) at is
