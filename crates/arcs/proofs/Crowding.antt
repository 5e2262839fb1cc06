-- Of n states there are no more than n masks: n + 1 numbers, each the mask of one of them, are not all different.
use mathlib.Core.Path.{◌≡◌, sym, ◌∙◌}
use Prim.Native.Nat.{ℕ, zero, suc, ◌^◌, ◌<◌}
use native.Mathlib.Omega.{arith}
use native.Mathlib.Decide.{ℕ_discrete}
use lib.Dec.{eqb}
use borrow.Author.Tests.{eq-eqb, ne_eqb}
use Rattle.sets.specs.Logic.{pick}
use Rattle.arcs.specs.Filling.{MaskOf}

-- the first n numbers are masks of states below `most`, each of another one
pub record Different (n most : ℕ) (v : ℕ → ℕ) : Type 0 where
  pub one : (i : ℕ) → i < n → MaskOf most (v i)
  pub apart : (i j : ℕ) → i < n → j < n → v i ≡ v j → i ≡ j

-- where the last state's mask stands, the last number stands in its place
abbrev instead : ℕ → (ℕ → ℕ) → ℕ → ℕ
instead n v i = pick (eqb (v i) (2 ^ n)) (v (suc n)) (v i)

module _ (n : ℕ) (v : ℕ → ℕ) (d : Different (suc (suc n)) (suc n) v) where
  moved-there : (i : ℕ) → v i ≡ 2 ^ n → instead n v i ≡ v (suc n)
  unfolding pick
  moved-there i last = rw (eq-eqb (v i) (2 ^ n) last)

  stays : (i : ℕ) → (v i ≡ 2 ^ n → ⊥) → instead n v i ≡ v i
  unfolding pick
  stays i other = rw (ne_eqb (v i) (2 ^ n) other)

  -- a mask that is not the last state's is that of a state before it
  before_last : (x : ℕ) → MaskOf (suc n) x → (x ≡ 2 ^ n → ⊥) → MaskOf n x
  before_last x (s, (less, is)) other = (s, (go (ℕ_discrete s n), is))
    where
      go : Dec (s ≡ n) → s < n
      go (yes same) = absurd (other (rw (sym same) is))
      go (no apart) = omega (arith, less)

  one_less : (i : ℕ) → i < suc n → Dec (v i ≡ 2 ^ n) → MaskOf n (instead n v i)
  one_less i less (yes last) =
      rw (moved-there i last)
      (before_last (v (suc n)) (d.one (suc n) (omega arith)) (λ too.
      let same = d.apart i (suc n) (omega arith) (omega arith) (last ∙ sym too) in omega (arith, same, less)))
  one_less i less (no other) = rw (stays i other) (before_last (v i) (d.one i (omega arith)) other)

  still-apart : (i j : ℕ) → i < suc n → j < suc n → Dec (v i ≡ 2 ^ n) → Dec (v j ≡ 2 ^ n) → instead n v i ≡ instead n v j → i ≡ j
  still-apart i j less few (yes one) (yes two) same = d.apart i j (omega arith) (omega arith) (one ∙ sym two)
  still-apart i j less few (yes one) (no two) same =
      let met = d.apart (suc n) j (omega arith) (omega arith) (sym (moved-there i one) ∙ same ∙ stays j two) in
      absurd (omega (arith, met, few))
  still-apart i j less few (no one) (yes two) same =
      let met = d.apart i (suc n) (omega arith) (omega arith) (sym (stays i one) ∙ same ∙ moved-there j two) in
      absurd (omega (arith, met, less))
  still-apart i j less few (no one) (no two) same =
      d.apart i j (omega arith) (omega arith) (sym (stays i one) ∙ same ∙ stays j two)

  fewer : Different (suc n) n (instead n v)
  fewer =
      record {
        one = λ i less. one_less i less (ℕ_discrete (v i) (2 ^ n));
        apart = λ i j less few. still-apart i j less few (ℕ_discrete (v i) (2 ^ n)) (ℕ_discrete (v j) (2 ^ n));
      }

pub too_many : (n : ℕ) (v : ℕ → ℕ) → Different (suc n) n v → ⊥
too_many zero v d = let (s, (less, is)) = d.one 0 (omega arith) in omega (arith, less)
too_many (suc n) v d = too_many n (instead n v) (fewer n v d)
