-- A number as a set: what is in an empty set, a union, an intersection, a set of one and a set by a test, for any number
-- of states; two sets with the same members are one number.
use mathlib.Core.Path.{◌≡◌, refl, sym, ap, ◌∙◌}
use mathlib.Core.Bool.{Bool, true, false, not}
use Prim.Native.Nat.{ℕ, zero, suc, ◌+◌, ◌-◌, ◌*◌, ◌/◌, ◌%◌, ◌^◌, ◌<◌, ◌≤◌}
use native.Mathlib.Omega.{arith}
use native.Mathlib.Nat.{div-eq_of_lt, div-one, div-div-eq-div-mul, mod-eq_of_lt, mod_self, one-mul, pow-suc, pow-succ'}
use native.Mathlib.Decide.{dec_lt, ℕ_discrete}
use native.Mathlib.Numerals.{add-one}
use lib.Arith.{bin_ind}
use lib.Bits.{bit_and, bit_or, and_le_r, and_mask, and_mod, and_self, and_shr, and_step, or_lt, or_shr, or_mod}
use lib.Pow.{pow-lt, pow_mono}
use lib.Dec.{eqb, ltb, eqb-zero-suc, eqb-suc-zero, eqb-suc-suc}
use borrow.Author.Tests.{ne_eqb, eq-eqb, eqb-true, eqb-false, not-true, ltb-true, ltb-false, lt-ltb, le-ltb}
use Rattle.sets.specs.Logic.{◌and◌, ◌or◌, pick}
use Rattle.sets.proofs.Tests.{and-false, and_first, and_is, and-is-off, and_second, and-true, false-true}
use Rattle.sets.proofs.Tests.{or-either, or-false, or-first, or-second}
use Rattle.sets.specs.Sets.{in_set, meets, part, set_of}

-- state 0 is the lowest digit, and the states after it are the other digits
member-first : (x : ℕ) → in_set x 0 ≡ eqb (x % 2) 1
unfolding in_set
member-first x = rw (div-one x)

pub member-next : (x s : ℕ) → in_set x (suc s) ≡ in_set (x / 2) s
unfolding in_set
member-next x s = rw (pow-succ' 2 s, ← div-div-eq-div-mul x 2 (2 ^ s))

pub in_set-zero : (s : ℕ) → in_set 0 s ≡ false
in_set-zero zero = member-first 0
in_set-zero (suc s) = member-next 0 s ∙ in_set-zero s

-- digit by digit
or-digit : (a b : ℕ) → a < 2 → b < 2 → eqb (bit_or a b) 1 ≡ (eqb a 1 or eqb b 1)
unfolding ◌or◌
or-digit zero b h l = refl
or-digit (suc zero) zero h l = refl
or-digit (suc zero) (suc zero) h l = refl
or-digit (suc zero) (suc (suc b)) h l = absurd (omega arith)
or-digit (suc (suc a)) b h l = absurd (omega arith)

and-digit : (a b : ℕ) → a < 2 → b < 2 → eqb (bit_and a b) 1 ≡ (eqb a 1 and eqb b 1)
unfolding ◌and◌
and-digit zero b h l = refl
and-digit (suc zero) zero h l = refl
and-digit (suc zero) (suc zero) h l = refl
and-digit (suc zero) (suc (suc b)) h l = absurd (omega arith)
and-digit (suc (suc a)) b h l = absurd (omega arith)

pub in_set-or : (x y s : ℕ) → in_set (bit_or x y) s ≡ (in_set x s or in_set y s)
unfolding in_set
in_set-or x y s =
    rw (or_shr x y s, or_mod (x / 2 ^ s) (y / 2 ^ s) 1)
    (or-digit (x / 2 ^ s % 2) (y / 2 ^ s % 2) (omega arith) (omega arith))

pub in_set-and : (x y s : ℕ) → in_set (bit_and x y) s ≡ (in_set x s and in_set y s)
unfolding in_set
in_set-and x y s =
    rw (and_shr x y s, and_mod (x / 2 ^ s) (y / 2 ^ s) 1)
    (and-digit (x / 2 ^ s % 2) (y / 2 ^ s % 2) (omega arith) (omega arith))

pub in_set-pow : (t s : ℕ) → in_set (2 ^ t) s ≡ eqb t s
in_set-pow zero zero = member-first 1
in_set-pow zero (suc s) = member-next 1 s ∙ in_set-zero s ∙ sym (eqb-zero-suc s)
in_set-pow (suc t) zero =
    let even : 2 ^ suc t % 2 ≡ 0 = omega (arith, pow-suc 2 t) in
    member-first (2 ^ suc t) ∙ rw (even, eqb-suc-zero t)
in_set-pow (suc t) (suc s) =
    let half : 2 ^ suc t / 2 ≡ 2 ^ t = omega (arith, pow-suc 2 t) in
    member-next (2 ^ suc t) s ∙ rw (half, eqb-suc-suc t s) (in_set-pow t s)

pub odd : (x : ℕ) → in_set x 0 ≡ true → x % 2 ≡ 1
odd x e = eqb-true (x % 2) 1 (sym (member-first x) ∙ e)

pub even : (x : ℕ) → in_set x 0 ≡ false → x % 2 ≡ 0
even x e = let n = eqb-false (x % 2) 1 (sym (member-first x) ∙ e) in omega arith

-- two sets are one number where state 0 and all states after it are alike
alike : (x y : ℕ) → in_set x 0 ≡ in_set y 0 → x / 2 ≡ y / 2 → x ≡ y
alike x y first rest = go (in_set y 0) refl
  where
    go : (b : Bool) → in_set y 0 ≡ b → x ≡ y
    go true e = omega (arith, odd x (first ∙ e), odd y e)
    go false e = omega (arith, even x (first ∙ e), even y e)

same_rest : (x y : ℕ) → ((s : ℕ) → in_set x s ≡ in_set y s) → (s : ℕ) → in_set (x / 2) s ≡ in_set (y / 2) s
same_rest x y same s = sym (member-next x s) ∙ same (suc s) ∙ member-next y s

no-members : (y : ℕ) → ((s : ℕ) → in_set 0 s ≡ in_set y s) → 0 ≡ y
no-members =
    bin_ind (λ (y : ℕ). ((s : ℕ) → in_set 0 s ≡ in_set y s) → 0 ≡ y) (λ same. refl)
    (λ y ih same. alike 0 y (same 0) (ih (same_rest 0 y same)))

pub same-members : (x y : ℕ) → ((s : ℕ) → in_set x s ≡ in_set y s) → x ≡ y
same-members =
    bin_ind (λ (x : ℕ). (y : ℕ) → ((s : ℕ) → in_set x s ≡ in_set y s) → x ≡ y) no-members
    (λ x ih y same. alike x y (same 0) (ih (y / 2) (same_rest x y same)))

-- a number that is not 0 has a member: state 0, or one of the states after it
abbrev HasMember : ℕ → Type 0
HasMember x = (x ≡ 0 → ⊥) → (s : ℕ) × (in_set x s ≡ true)

first-or-later : (x : ℕ) (b : Bool) → in_set x 0 ≡ b → HasMember (x / 2) → HasMember x
first-or-later x true e later h = (0, e)
first-or-later x false e later h =
    let (s, inside) = later (λ z. h (omega (arith, even x e))) in
    (suc s, member-next x s ∙ inside)

some-member : (x : ℕ) → HasMember x
some-member = bin_ind HasMember (λ h. absurd (h refl)) (λ x later. first-or-later x (in_set x 0) refl later)

-- sets that meet have a state in both
pub meets-common : (x y : ℕ) → meets x y ≡ true → (s : ℕ) × (in_set x s ≡ true) × (in_set y s ≡ true)
unfolding meets
meets-common x y h =
    let (s, inside) = some-member (bit_and x y) (eqb-false (bit_and x y) 0 (not-true _ h)) in
    let both = sym (in_set-and x y s) ∙ inside in
    (s, and_first _ _ both, and_second _ _ both)

-- whether they meet, as the code asks
pub meets-not : (x y : ℕ) → bit_and x y ≡ 0 → meets x y ≡ false
unfolding meets
meets-not x y e = ap not (eq-eqb (bit_and x y) 0 e)

pub meets-some : (x y : ℕ) → (bit_and x y ≡ 0 → ⊥) → meets x y ≡ true
unfolding meets
meets-some x y h = ap not (ne_eqb (bit_and x y) 0 h)

-- a set that takes in one state more where a test passes
pub in_set-pick : (b : Bool) (x t s : ℕ) → in_set (pick b (bit_or x (2 ^ t)) x) s ≡ (in_set x s or (b and eqb t s))
unfolding pick ◌and◌
in_set-pick true x t s = rw (in_set-or x (2 ^ t) s, in_set-pow t s)
in_set-pick false x t s = sym (or-false (in_set x s))

-- one number more below, other than k, leaves it where it was
pub ltb_next : (k n : ℕ) → (n ≡ k → ⊥) → ltb k n ≡ ltb k (suc n)
ltb_next k n h = go (ltb k n) refl
  where
    go : (b : Bool) → ltb k n ≡ b → ltb k n ≡ ltb k (suc n)
    go true e = e ∙ sym (lt-ltb k (suc n) (omega (arith, ltb-true k n e)))
    go false e = e ∙ sym (le-ltb k (suc n) (omega (arith, ltb-false k n e)))

-- a set by a test has just those below n that pass
pub set_of-members : (p : ℕ → Bool) (n k : ℕ) → in_set (set_of p n) k ≡ (ltb k n and p k)
unfolding set_of ◌and◌ ◌or◌
set_of-members p zero k = in_set-zero k ∙ rw (le-ltb k 0 (omega arith))
set_of-members p (suc n) k = in_set-pick (p n) (set_of p n) n k ∙ rw (set_of-members p n k) (go (ℕ_discrete n k))
  where
    go : Dec (n ≡ k) → ((ltb k n and p k) or (p n and eqb n k)) ≡ (ltb k (suc n) and p k)
    go (yes e) = rw (← e, le-ltb n n (omega arith), eq-eqb n n refl, lt-ltb n (suc n) (omega arith), and-true)
    go (no e) = rw (ne_eqb n k e, and-false, or-false, ltb_next k n e)

-- and with one number looked at more
module _ (p : ℕ → Bool) (found i : ℕ) (so_far : found ≡ set_of p i) where
  pub set_more : p i ≡ true → bit_or found (2 ^ i) ≡ set_of p (i + 1)
  unfolding set_of pick
  set_more on = rw (add-one i, on, so_far)

  pub set-not : p i ≡ false → found ≡ set_of p (i + 1)
  unfolding set_of pick
  set-not off = rw (add-one i, off) so_far

-- a part, by its members
pub part-member : (x y s : ℕ) → part x y ≡ true → in_set x s ≡ true → in_set y s ≡ true
unfolding part
part-member x y s h l =
    and_second (in_set x s) (in_set y s) (sym (in_set-and x y s) ∙ ap (λ z. in_set z s) (eqb-true (bit_and x y) x h) ∙ l)

pub part-shown : (x y : ℕ) → ((s : ℕ) → in_set x s ≡ true → in_set y s ≡ true) → part x y ≡ true
unfolding part
part-shown x y all = eq-eqb (bit_and x y) x (same-members (bit_and x y) x (λ s. in_set-and x y s ∙ go s (in_set x s) refl))
  where
    go : (s : ℕ) (b : Bool) → in_set x s ≡ b → (in_set x s and in_set y s) ≡ in_set x s
    go s true e = and_is e (all s e) ∙ sym e
    go s false e = and-is-off (in_set y s) e ∙ sym e

-- the set of one member
pub own-bit : (i : ℕ) → in_set (2 ^ i) i ≡ true
own-bit i = in_set-pow i i ∙ eq-eqb i i refl

pub one-among : (i most : ℕ) → in_set most i ≡ true → part (2 ^ i) most ≡ true
one-among i most h = part-shown (2 ^ i) most (λ s one. rw (← eqb-true i s (sym (in_set-pow i s) ∙ one)) h)

pub part-refl : (x : ℕ) → part x x ≡ true
part-refl x = part-shown x x (λ s h. h)

pub part-zero : (x : ℕ) → part 0 x ≡ true
part-zero x = part-shown 0 x (λ s h. absurd (false-true (sym (in_set-zero s) ∙ h)))

pub part-trans : (x y z : ℕ) → part x y ≡ true → part y z ≡ true → part x z ≡ true
part-trans x y z h l = part-shown x z (λ s m. part-member y z s l (part-member x y s h m))

-- a part is no greater number, and two sets that are parts of each other are one number
pub part-le : (x y : ℕ) → part x y ≡ true → x ≤ y
unfolding part
part-le x y h = let e = eqb-true (bit_and x y) x h in let l = and_le_r x y in omega arith

pub part-antisym : (x y : ℕ) → part x y ≡ true → part y x ≡ true → x ≡ y
part-antisym x y h l = let a = part-le x y h in let b = part-le y x l in omega arith

pub part-or : (x y z : ℕ) → part x z ≡ true → part y z ≡ true → part (bit_or x y) z ≡ true
part-or x y z h l =
    part-shown (bit_or x y) z (λ s m. or-either (part-member x z s h) (part-member y z s l) (sym (in_set-or x y s) ∙ m))

pub part-or-left : (x y : ℕ) → part x (bit_or x y) ≡ true
part-or-left x y = part-shown x (bit_or x y) (λ s m. in_set-or x y s ∙ or-first (in_set y s) m)

pub part-or-right : (x y : ℕ) → part y (bit_or x y) ≡ true
part-or-right x y = part-shown y (bit_or x y) (λ s m. in_set-or x y s ∙ or-second (in_set x s) m)

-- a set by a test on the numbers below n is less than 2^n
set_of-fits : (p : ℕ → Bool) (n : ℕ) → set_of p n < 2 ^ n
unfolding set_of pick
set_of-fits p zero = omega arith
set_of-fits p (suc n) = go (p n) (let h = set_of-fits p n in let l = pow-lt {i = n} {j = suc n} (omega arith) in omega arith)
  where
    go : (b : Bool) → set_of p n < 2 ^ suc n → pick b (bit_or (set_of p n) (2 ^ n)) (set_of p n) < 2 ^ suc n
    go true fewer = or_lt (suc n) (set_of p n) (2 ^ n) fewer (pow-lt {i = n} {j = suc n} (omega arith))
    go false fewer = fewer

-- a set is less than 2^n exactly where all its members are below n: it is then a part of the set of all those
pub members-below : (x n : ℕ) → ((s : ℕ) → in_set x s ≡ true → s < n) → x < 2 ^ n
unfolding ◌and◌
members-below x n all =
    let everything = set_of (λ s. true) n in
    let among = part-shown x everything (λ s h. set_of-members (λ s. true) n s ∙ rw (lt-ltb s n (all s h))) in
    let l = part-le x everything among in
    let h = set_of-fits (λ s. true) n in
    omega arith

-- no state beyond is in it
in_set-beyond : (x n s : ℕ) → x < 2 ^ n → n ≤ s → in_set x s ≡ false
unfolding in_set
in_set-beyond x n s few beyond =
    let wide = pow_mono {i = n} {j = s} beyond in
    let none : x / 2 ^ s ≡ 0 = div-eq_of_lt (omega arith) in
    rw none

pub below-members : (x n s : ℕ) → x < 2 ^ n → in_set x s ≡ true → s < n
below-members x n s few h = go (dec_lt s n)
  where
    go : Dec (s < n) → s < n
    go (yes less) = less
    go (no more) = absurd (false-true (sym (in_set-beyond x n s few (omega arith)) ∙ h))

-- a member less below the bound, where the last is not in it
pub fewer-below : (x n : ℕ) → x < 2 ^ (n + 1) → in_set x n ≡ false → x < 2 ^ n
fewer-below x n few out =
    members-below x n (λ s h. go s (below-members x (n + 1) s few h) h (ℕ_discrete s n))
  where
    go : (s : ℕ) → s < n + 1 → in_set x s ≡ true → Dec (s ≡ n) → s < n
    go s l h (yes e) = absurd (false-true (sym out ∙ sym (ap (in_set x) e) ∙ h))
    go s l h (no e) = omega arith

-- a set has just one member where it and the number before it have none in common
abbrev IsOne : ℕ → Type 0
IsOne x = (x ≡ 0 → ⊥) → bit_and x (x - 1) ≡ 0 → (k : ℕ) × (x ≡ 2 ^ k)

first_alone : (x : ℕ) (b : Bool) → in_set x 0 ≡ b → IsOne (x / 2) → IsOne x
first_alone x true e later some none =
    let one = odd x e in
    let halves : (x - 1) / 2 ≡ x / 2 = omega arith in
    let both : bit_and (x / 2) ((x - 1) / 2) ≡ x / 2 = ap (bit_and (x / 2)) halves ∙ and_self (x / 2) in
    (0, omega (arith, and_step x (x - 1)))
first_alone x false e later some none =
    let zero = even x e in
    let halves : (x - 1) / 2 ≡ x / 2 - 1 = omega arith in
    let both = ap (bit_and (x / 2)) halves in
    let (k, same) = later (λ z. some (omega arith)) (omega (arith, and_step x (x - 1))) in
    (suc k, omega (arith, pow-suc 2 k))

one-member : (x : ℕ) → IsOne x
one-member = bin_ind IsOne (λ some none. absurd (some refl)) (λ x later. first_alone x (in_set x 0) refl later)

pub one_only : (x c : ℕ) → bit_and x (x - 1) ≡ 0 → in_set x c ≡ true → part x (2 ^ c) ≡ true
one_only x c none h =
    let (k, e) = one-member x (λ z. false-true (sym (ap (λ y. in_set y c) z ∙ in_set-zero c) ∙ h)) none in
    let same : k ≡ c = eqb-true k c (sym (in_set-pow k c) ∙ sym (ap (λ y. in_set y c) e) ∙ h) in
    rw (e, same) (part-refl (2 ^ c))

pub one-shown : (x c : ℕ) → in_set x c ≡ true → part x (2 ^ c) ≡ true → bit_and x (x - 1) ≡ 0
one-shown x c h l =
    let e : x ≡ 2 ^ c = part-antisym x (2 ^ c) l (one-among c x h) in
    rw e (and_mask (2 ^ c) c ∙ mod_self (2 ^ c))

-- one bit, as the code makes it: nothing is shifted out of a number's width
pub one_bit : (width k : ℕ) → k < width → (1 * 2 ^ k) % 2 ^ width ≡ 2 ^ k
one_bit width k l = rw (one-mul (2 ^ k), mod-eq_of_lt (pow-lt {i = k} {j = width} l))
