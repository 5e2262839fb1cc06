-- Laws of sets and of tests that the making of an arc needs: a set that meets one with a state more, and a test that passes at
-- one place more. They say nothing of arcs.
use mathlib.Core.Path.{◌≡◌, refl, sym, ap, ◌∙◌}
use mathlib.Core.Bool.{Bool, true, false}
use Prim.Native.Nat.{ℕ, ◌^◌, ◌<◌}
use native.Mathlib.Decide.{ℕ_discrete}
use lib.Bits.{bit_or}
use Rattle.sets.specs.Logic.{◌and◌, ◌or◌, any_below, pick}
use Rattle.sets.specs.Sets.{in_set, meets}
use Rattle.sets.proofs.Tests.{any-reached, any-shows, or-either, or-first, or-second, same_test}
use Rattle.sets.proofs.Members.{in_set-zero, meets-common, part-member, part-or-left}
use Rattle.sets.proofs.Without.{common-meets, with-member, with-own}

-- a set meets another with one state more
pub meets-more : (x y s : ℕ) → meets x (bit_or y (2 ^ s)) ≡ (meets x y or in_set x s)
meets-more x y s = same_test _ _ there back
  where
    there : meets x (bit_or y (2 ^ s)) ≡ true → (meets x y or in_set x s) ≡ true
    there met =
        let (u, own, other) = meets-common x (bit_or y (2 ^ s)) met in
        with-member y s u
        (λ old. or-first (in_set x s) (common-meets x y u own old))
        (λ same. or-second (meets x y) (rw same own))
        other

    back : (meets x y or in_set x s) ≡ true → meets x (bit_or y (2 ^ s)) ≡ true
    back = or-either
        (λ old.
        let (u, own, other) = meets-common x y old in
        common-meets x (bit_or y (2 ^ s)) u own (part-member y _ u (part-or-left y (2 ^ s)) other))
        (λ new. common-meets x (bit_or y (2 ^ s)) s new (with-own y s))

-- what is in a set that is there only where a test passes
pub in_set-given : (b : Bool) (to s : ℕ) → in_set (pick b to 0) s ≡ (b and in_set to s)
unfolding pick ◌and◌
in_set-given true to s = refl
in_set-given false to s = in_set-zero s

-- one test among many passes where another does, too
pub any-changed : (p q : ℕ → Bool) (n l : ℕ) (b : Bool) → l < n → ((m : ℕ) → (m ≡ l → ⊥) → q m ≡ p m) → q l ≡ (p l or b)
    → any_below q n ≡ (any_below p n or b)
any-changed p q n l b less others own = same_test _ _ there back
  where
    split : (m : ℕ) → m < n → q m ≡ true → Dec (m ≡ l) → (any_below p n or b) ≡ true
    split m below is (yes same) =
        or-either
        (λ old. or-first b (any-reached p n l less old))
        (λ new. or-second (any_below p n) new)
        (sym own ∙ ap q (sym same) ∙ is)
    split m below is (no apart) = or-first b (any-reached p n m below (sym (others m apart) ∙ is))

    there : any_below q n ≡ true → (any_below p n or b) ≡ true
    there some = let (m, below, is) = any-shows q n some in split m below is (ℕ_discrete m l)

    kept : (m : ℕ) → m < n → p m ≡ true → Dec (m ≡ l) → any_below q n ≡ true
    kept m below is (yes same) = any-reached q n l less (own ∙ or-first b (ap p (sym same) ∙ is))
    kept m below is (no apart) = any-reached q n m below (others m apart ∙ is)

    back : (any_below p n or b) ≡ true → any_below q n ≡ true
    back = or-either
        (λ some. let (m, below, is) = any-shows p n some in kept m below is (ℕ_discrete m l))
        (λ new. any-reached q n l less (own ∙ or-second (p l) new))
