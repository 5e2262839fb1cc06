-- What the calls on an array of cuts count on: which sets have just one member, and how a set's highest member is found.
use mathlib.Core.Path.{◌≡◌, refl, sym, ap, ◌∙◌}
use mathlib.Core.List.{List}
use mathlib.Core.Bool.{Bool, true, false}
use Prim.Native.Nat.{ℕ, ◌+◌, ◌-◌, ◌*◌, ◌^◌, ◌<◌, ◌≤◌}
use native.Mathlib.Omega.{arith}
use native.Mathlib.Numerals.{add-one}
use native.Mathlib.Decide.{dec_lt}
use lib.Bits.{bit_and}
use lib.Pow.{pow_mono}
use Rattle.sets.specs.Logic.{◌and◌, any_below}
use Rattle.sets.specs.Sets.{in_set, part}
use Rattle.sets.proofs.Tests.{and_both, and_first, and-is-off, and_second}
use Rattle.sets.proofs.Tests.{refuted, same_test}
use Rattle.sets.proofs.Members.{fewer-below, in_set-zero, one_only, one-shown, own-bit}
use Rattle.cuts.specs.Cuts.{is_sole}

-- c is the one member of x
abbrev pub only : ℕ → ℕ → Bool
only x c = in_set x c and part x (2 ^ c)

pub none_only : (x c : ℕ) → x ≡ 0 → in_set 0 c ≡ only x c
none_only x c e = in_set-zero c ∙ sym (and-is-off _ (ap (λ y. in_set y c) e ∙ in_set-zero c))

pub several-only : (x c : ℕ) → (bit_and x (x - 1) ≡ 0 → ⊥) → in_set 0 c ≡ only x c
several-only x c several =
    in_set-zero c ∙ sym (refuted (only x c) (λ h. several (one-shown x c (and_first _ _ h) (and_second _ _ h))))

pub single-only : (x c : ℕ) → bit_and x (x - 1) ≡ 0 → in_set x c ≡ only x c
single-only x c none = same_test (in_set x c) (only x c) (λ h. and_both h (one_only x c none h)) (λ h. and_first _ _ h)

-- in no cut is anyone the only chosen one
pub sole_none : (cuts : List ℕ) (chosen c : ℕ) → in_set 0 c ≡ is_sole cuts 0 chosen c
unfolding is_sole any_below
sole_none cuts chosen c = in_set-zero c

-- the highest power of two that is not above a set is its highest member
module _ (x i : ℕ) (low : 2 ^ i ≤ x) where
  pub highest-in : x < 2 * 2 ^ i → in_set x i ≡ true
  highest-in high = go (in_set x i) refl
    where
      go : (b : Bool) → in_set x i ≡ b → in_set x i ≡ true
      go true e = e
      go false out = absurd (omega (arith, fewer-below x i (rw (add-one i) (omega arith)) out))

  pub highest_below : (n : ℕ) → x < 2 ^ n → i < n
  highest_below n few = go (dec_lt i n)
    where
      go : Dec (i < n) → i < n
      go (yes l) = l
      go (no more) = absurd (omega (arith, pow_mono {i = n} {j = i} (omega arith)))

-- a set that has nothing above 0, and is not empty
pub zero_left : (x i : ℕ) → i ≡ 0 → (x ≡ 0 → ⊥) → x < 2 ^ (i + 1) → in_set x 0 ≡ true
zero_left x i e some few =
    let less : x < 2 ^ 1 = rw e at few in
    let one : x ≡ 1 = omega arith in
    rw one (own-bit 0)
