-- A set that is not admitted, grown credential by credential, and what lies outside of it.
use mathlib.Core.Path.{◌≡◌, refl, sym, ap, ◌∙◌}
use mathlib.Core.List.{List, [], ◌∷◌}
use mathlib.Core.Bool.{Bool, true, false, not, ◌||◌}
use mathlib.Core.Logic.{⊎_elim}
use Prim.Native.Nat.{ℕ, zero, suc, ◌-◌, ◌*◌, ◌%◌, ◌^◌, ◌<◌, ◌≤◌}
use native.Mathlib.Omega.{arith}
use lib.ListN.{get_or, length, take}
use lib.Bits.{bit_and, bit_or, bit_xor, or_lt}
use lib.Dec.{eqb, ltb}
use borrow.Author.Tests.{eqb-true, le-ltb, lt-ltb}
use lib.Pow.{pow-lt, pow_pos}
use Rattle.std.specs.List.{list_any}
use Rattle.std.proofs.Math.Seq.{take-suc}
use Rattle.std.proofs.lemmas.Bool.{cases_lt}
use Rattle.std.proofs.lemmas.List.{take_all}
use Rattle.std.proofs.lemmas.List.Folds.{list_any-append}
use Rattle.sets.specs.Logic.{◌and◌, ◌or◌, any_below}
use Rattle.sets.specs.Sets.{in_set, part}
use Rattle.sets.proofs.Tests.{and-false, false-true, or-false}
use Rattle.sets.proofs.Members.{in_set-and, in_set-or, in_set-pow, one_bit, part-or-left, part-refl, part-trans, same-members}
use Rattle.sets.proofs.Without.{outside-members}
use Rattle.cuts.specs.Cuts.{Cuts, is_least, meets_all}
use Rattle.cuts.proofs.Meeting.{unmet-fails}
use Rattle.sorted.specs.Sorted.{Inserted}
use Rattle.candidates.specs.Candidates.{Bears, Grown, InsertedIfLeast, has_listed}

-- the code's `(1 << n) - 1`
abbrev pub all_of : ℕ → ℕ
all_of n = (1 * 2 ^ n) % 2 ^ 32 - 1

pub all-some : (n : ℕ) → n < 32 → 1 ≤ (1 * 2 ^ n) % 2 ^ 32
all-some n few = rw (one_bit 32 n few) (omega (arith, pow_pos n))

pub all-is : (n : ℕ) → n < 32 → all_of n ≡ 2 ^ n - 1
all-is n few = rw (one_bit 32 n few)

pub outside-is : (n set : ℕ) → n < 32 → set < 2 ^ n → (c : ℕ)
    → in_set (bit_xor (all_of n) set) c ≡ (ltb c n and not (in_set set c))
outside-is n set few fits c = rw (all-is n few) (outside-members set n c fits)

module _ {p : ℕ → Bool} {n set : ℕ} where
  pub grown-same : set < 2 ^ n → p set ≡ false → Grown p n set set
  grown-same fits fails = record { from = part-refl set; fits = fits; fails = fails }

  pub grown-on : {more most : ℕ} → Grown p n set more → Grown p n more most → Grown p n set most
  grown-on g h = record { from = part-trans _ _ _ g.from h.from; fits = h.fits; fails = h.fails }

module _ (n set i : ℕ) (fits : set < 2 ^ n) (l : i < n) where
  more-fits : bit_or set (2 ^ i) < 2 ^ n
  more-fits = or_lt n set (2 ^ i) fits (pow-lt {i = i} {j = n} l)

  pub grown-more : {p : ℕ → Bool} {more : ℕ} → more ≡ bit_or set (2 ^ i) → p more ≡ false → Grown p n set more
  grown-more e fails = record { from = rw e (part-or-left set (2 ^ i)); fits = rw e more-fits; fails = fails }

  -- the cuts tell that it is not admitted
  pub grown-unmet : {p : ℕ → Bool} {more : ℕ} {cuts : List ℕ} {count : ℕ} → Cuts p n cuts count → more ≡ bit_or set (2 ^ i)
      → meets_all cuts count more ≡ false → Grown p n set more
  grown-unmet {more} known e h = grown-more e (unmet-fails known more (rw e more-fits) h)

-- a credential outside of `usable` makes no difference
beyond-same : (set i usable : ℕ) → in_set usable i ≡ false → bit_and (bit_or set (2 ^ i)) usable ≡ bit_and set usable
unfolding ◌or◌
beyond-same set i usable out = same-members _ _ (λ s. go s (eqb i s) refl)
  where
    go : (s : ℕ) (b : Bool) → eqb i s ≡ b → in_set (bit_and (bit_or set (2 ^ i)) usable) s ≡ in_set (bit_and set usable) s
    go s true e =
        let off = rw (eqb-true i s e) at out in
        rw (in_set-and (bit_or set (2 ^ i)) usable s, in_set-and set usable s, off) (and-false _ ∙ sym (and-false _))
    go s false e =
        rw (in_set-and (bit_or set (2 ^ i)) usable s, in_set-and set usable s, in_set-or set (2 ^ i) s, in_set-pow i s, e)
        (ap (λ b. b and in_set usable s) (or-false (in_set set s)))

pub beyond-fails : {p : ℕ → Bool} (set i usable : ℕ) {more : ℕ} → Bears p usable → in_set usable i ≡ false → p set ≡ false
    → more ≡ bit_or set (2 ^ i) → p more ≡ false
beyond-fails {p} set i usable bears out fails e =
    ap p e ∙ sym (bears (bit_or set (2 ^ i))) ∙ ap p (beyond-same set i usable out) ∙ bears set ∙ fails

-- one of the first so many sets found is a part of the set, as far as the buffer has cells for them
one-more : (a b : Bool) → (a || (b || false)) ≡ (a or (true and b))
unfolding ◌or◌ ◌and◌
one-more true b = refl
one-more false true = refl
one-more false false = refl

none-more : (a b : Bool) → a ≡ (a or (false and b))
unfolding ◌and◌
none-more a b = sym (or-false a)

any-taken : (p : ℕ → Bool) (xs : List ℕ) (n : ℕ)
    → list_any p (take n xs) ≡ any_below (λ i. ltb i (length xs) and p (get_or xs i 0)) n
unfolding any_below
any-taken p xs zero = refl
any-taken p xs (suc n) =
    ⊎_elim
    (λ l. rw (take-suc xs n 0 l, list_any-append p (take n xs) (get_or xs n 0 ∷ []), any-taken p xs n, lt-ltb n (length xs) l)
    (one-more _ _))
    (λ l. ap (list_any p) (take_all (suc n) xs (omega arith) ∙ sym (take_all n xs l)) ∙ any-taken p xs n
    ∙ rw (le-ltb n (length xs) l) (none-more _ _))
    (cases_lt n (length xs))

pub listed-taken : (sets : List ℕ) (found set : ℕ) → list_any (λ s. part s set) (take found sets) ≡ has_listed sets found set
unfolding has_listed
listed-taken sets found set = any-taken (λ s. part s set) sets found

-- a set is kept where it is least
module _ {p : ℕ → Bool} {set : ℕ} {sets : List ℕ} {found : ℕ} where
  pub kept-not : is_least p set ≡ false → InsertedIfLeast p set sets found sets found
  kept-not h = record { least = λ e. absurd (false-true (sym h ∙ e)); other = λ e. (refl, refl) }

  pub kept-least : {sets' : List ℕ} {found' : ℕ} → is_least p set ≡ true → Inserted sets found set sets' found'
      → InsertedIfLeast p set sets found sets' found'
  kept-least h there = record { least = λ e. there; other = λ e. absurd (false-true (sym e ∙ h)) }
