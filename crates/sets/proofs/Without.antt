-- A set from which one of its members is taken: x without k is the number `bit_xor x (2 ^ k)`. And what is outside of a set.
use mathlib.Core.Path.{◌≡◌, refl, sym, ap, ◌∙◌}
use mathlib.Core.Bool.{Bool, true, false, not}
use Prim.Native.Nat.{ℕ, zero, suc, ◌-◌, ◌/◌, ◌%◌, ◌^◌, ◌<◌}
use native.Mathlib.Omega.{arith}
use native.Mathlib.Decide.{ℕ_discrete}
use native.Mathlib.Nat.{mod-eq_of_lt}
use lib.Bits.{bit_and, bit_or, bit_xor, and_mask, xor_shr, xor_mod}
use lib.Pow.{ones_lt, pow-lt}
use lib.Dec.{eqb, ltb}
use borrow.Author.Tests.{eq-eqb, eqb-true, lt-ltb, ltb-true, ne_eqb, not-true}
use Rattle.sets.specs.Logic.{◌and◌, ◌or◌, any_below, pick}
use Rattle.sets.specs.Sets.{in_set, meets, part}
use Rattle.sets.proofs.Tests.{and_both, and-false, and_first, and_second, and-true, any-not, any-or-none, false-true}
use Rattle.sets.proofs.Tests.{or-either, or-first, or-second, same_test}
use Rattle.sets.proofs.Members.{below-members, in_set-and, in_set-or, in_set-pow, in_set-zero, meets-common, own-bit}
use Rattle.sets.proofs.Members.{part-member, part-shown, same-members}

-- digit by digit, as for the other laws of membership
xor-digit : (a b : ℕ) → a < 2 → b < 2 → eqb (bit_xor a b) 1 ≡ pick (eqb b 1) (not (eqb a 1)) (eqb a 1)
unfolding pick
xor-digit zero zero h l = refl
xor-digit zero (suc zero) h l = refl
xor-digit (suc zero) zero h l = refl
xor-digit (suc zero) (suc zero) h l = refl
xor-digit zero (suc (suc b)) h l = absurd (omega arith)
xor-digit (suc zero) (suc (suc b)) h l = absurd (omega arith)
xor-digit (suc (suc a)) b h l = absurd (omega arith)

pub in_set-xor : (x y s : ℕ) → in_set (bit_xor x y) s ≡ pick (in_set y s) (not (in_set x s)) (in_set x s)
unfolding in_set
in_set-xor x y s =
    rw (xor_shr x y s, xor_mod (x / 2 ^ s) (y / 2 ^ s) 1)
    (xor-digit (x / 2 ^ s % 2) (y / 2 ^ s % 2) (omega arith) (omega arith))

-- it has the others, and no longer its own
pub without_other : (x k s : ℕ) → (k ≡ s → ⊥) → in_set (bit_xor x (2 ^ k)) s ≡ in_set x s
unfolding pick
without_other x k s h = in_set-xor x (2 ^ k) s ∙ rw (in_set-pow k s, ne_eqb k s h)

pub without-own : (x k : ℕ) → in_set x k ≡ true → in_set (bit_xor x (2 ^ k)) k ≡ false
unfolding pick
without-own x k h = in_set-xor x (2 ^ k) k ∙ rw (own-bit k, h)

module _ (x k : ℕ) (h : in_set x k ≡ true) where
  -- a member of it is another one, and was there before
  pub without-member : (s : ℕ) → in_set (bit_xor x (2 ^ k)) s ≡ true → (k ≡ s → ⊥) × (in_set x s ≡ true)
  without-member s m =
      let other : k ≡ s → ⊥ = λ e. false-true (sym (without-own x k h) ∙ ap (in_set (bit_xor x (2 ^ k))) e ∙ m) in
      (other, sym (without_other x k s other) ∙ m)

  pub without-part : part (bit_xor x (2 ^ k)) x ≡ true
  without-part = part-shown (bit_xor x (2 ^ k)) x (λ s m. (without-member s m).1)

  -- and with k again it is the set as it was
  pub without_back : bit_or (bit_xor x (2 ^ k)) (2 ^ k) ≡ x
  without_back =
      same-members (bit_or (bit_xor x (2 ^ k)) (2 ^ k)) x
      (λ s. in_set-or (bit_xor x (2 ^ k)) (2 ^ k) s ∙ go s (ℕ_discrete k s))
    where
      go : (s : ℕ) → Dec (k ≡ s) → (in_set (bit_xor x (2 ^ k)) s or in_set (2 ^ k) s) ≡ in_set x s
      go s (yes e) = or-second _ (ap (in_set (2 ^ k)) (sym e) ∙ own-bit k) ∙ sym h ∙ ap (in_set x) e
      go s (no e) =
          same_test _ _ (or-either (λ m. (without-member s m).1) (λ m. absurd (e (eqb-true k s (sym (in_set-pow k s) ∙ m)))))
          (λ m. or-first _ (without_other x k s e ∙ m))

pub part_without : (M x k : ℕ) → part M x ≡ true → in_set M k ≡ false → part M (bit_xor x (2 ^ k)) ≡ true
part_without M x k h out =
    part-shown M (bit_xor x (2 ^ k)) (λ s m.
    without_other x k s (λ e. false-true (sym out ∙ ap (in_set M) e ∙ m)) ∙ part-member M x s h m)

-- what is in the set of one member, and what is in a set with one member more
pub one-is : (k s : ℕ) → in_set (2 ^ k) s ≡ true → k ≡ s
one-is k s m = eqb-true k s (sym (in_set-pow k s) ∙ m)

pub with-own : (x k : ℕ) → in_set (bit_or x (2 ^ k)) k ≡ true
with-own x k = in_set-or x (2 ^ k) k ∙ or-second (in_set x k) (own-bit k)

pub with-member : {A : Type 0} (x k s : ℕ) → (in_set x s ≡ true → A) → (k ≡ s → A) → in_set (bit_or x (2 ^ k)) s ≡ true → A
with-member x k s old new m = or-either old (λ one. new (one-is k s one)) (sym (in_set-or x (2 ^ k) s) ∙ m)

-- sets with a member in common meet
pub common-meets : (x y s : ℕ) → in_set x s ≡ true → in_set y s ≡ true → meets x y ≡ true
unfolding meets
common-meets x y s h l =
    let both = in_set-and x y s ∙ and_both h l in
    ap not (ne_eqb (bit_and x y) 0 (λ e. false-true (sym (in_set-zero s) ∙ ap (λ (z : ℕ). in_set z s) (sym e) ∙ both)))

pub meets-mono : (x y z : ℕ) → part x y ≡ true → meets x z ≡ true → meets y z ≡ true
meets-mono x y z h m =
    let (s, inside, there) = meets-common x z m in
    common-meets y z s (part-member x y s h inside) there

-- a set that is no part of another has a member that the other has not
pub part-fails : (x y n : ℕ) → x < 2 ^ n → part x y ≡ false → (s : ℕ) × (in_set x s ≡ true) × (in_set y s ≡ false)
part-fails x y n few h =
    any-or-none (λ s. in_set x s and not (in_set y s)) n
    (λ s l there. (s, and_first _ _ there, not-true _ (and_second (in_set x s) _ there)))
    (λ none. absurd (false-true (sym h ∙ part-shown x y (λ s m. go none s m (in_set y s) refl))))
  where
    go : any_below (λ s. in_set x s and not (in_set y s)) n ≡ false → (s : ℕ) → in_set x s ≡ true
        → (b : Bool) → in_set y s ≡ b → in_set y s ≡ true
    go none s m true e = e
    go none s m false e =
        absurd (false-true (sym (any-not (λ s. in_set x s and not (in_set y s)) n s none (below-members x n s few m))
        ∙ and_both m (ap not e)))

pub and-part : (x y : ℕ) → part (bit_and x y) y ≡ true
and-part x y = part-shown (bit_and x y) y (λ s m. and_second (in_set x s) _ (sym (in_set-and x y s) ∙ m))

-- all members below n, and those of them outside of a set
pub part-all : (x n : ℕ) → x < 2 ^ n → part x (2 ^ n - 1) ≡ true
unfolding part
part-all x n l = eq-eqb (bit_and x (2 ^ n - 1)) x (and_mask x n ∙ mod-eq_of_lt l)

pub all-below : (n s : ℕ) → in_set (2 ^ n - 1) s ≡ true → s < n
all-below n s h = below-members (2 ^ n - 1) n s (ones_lt n) h

pub all-has : (n s : ℕ) → s < n → in_set (2 ^ n - 1) s ≡ true
all-has n s l = part-member (2 ^ s) (2 ^ n - 1) s (part-all (2 ^ s) n (pow-lt {i = s} {j = n} l)) (own-bit s)

pub all-members : (n s : ℕ) → in_set (2 ^ n - 1) s ≡ ltb s n
all-members n s = same_test _ _ (λ m. lt-ltb s n (all-below n s m)) (λ l. all-has n s (ltb-true s n l))

pub outside-members : (x n s : ℕ) → x < 2 ^ n → in_set (bit_xor (2 ^ n - 1) x) s ≡ (ltb s n and not (in_set x s))
unfolding pick
outside-members x n s few = in_set-xor (2 ^ n - 1) x s ∙ rw (all-members n s) (go (in_set x s) refl)
  where
    go : (b : Bool) → in_set x s ≡ b → pick b (not (ltb s n)) (ltb s n) ≡ (ltb s n and not b)
    go true e = ap not (lt-ltb s n (below-members x n s few e)) ∙ sym (and-false (ltb s n))
    go false e = sym (and-true (ltb s n))
