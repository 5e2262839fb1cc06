-- Least sets of a test: they pass, and no other part of them does. Every set that passes includes one. Where the test is monotone
-- it is enough to leave out one member at a time.
use mathlib.Core.Path.{◌≡◌, sym, ap, ◌∙◌}
use mathlib.Core.Bool.{Bool, true, false, not}
use Prim.Native.Nat.{ℕ, zero, suc, ◌^◌, ◌<◌}
use native.Mathlib.Omega.{arith}
use native.Mathlib.Decide.{ℕ_discrete}
use lib.Bits.{bit_xor}
use borrow.Author.Tests.{not-true}
use Rattle.sets.specs.Logic.{◌and◌, any_below}
use Rattle.sets.specs.Sets.{in_set, part}
use Rattle.sets.proofs.Tests.{and_both, and_first, and_second, any_none, any-not, any-or-none, false-true, refuted}
use Rattle.sets.proofs.Members.{part-antisym, part-le, part-refl, part-trans}
use Rattle.sets.proofs.Without.{part-fails, part_without, without-own, without-part}
use Rattle.cuts.specs.Cuts.{Monotone, is_least}

module _ (p : ℕ → Bool) where
  pub least-passes : (M : ℕ) → is_least p M ≡ true → p M ≡ true
  unfolding is_least
  least-passes M h = and_first _ _ h

  pub least-least : (M : ℕ) → is_least p M ≡ true → (T : ℕ) → part T M ≡ true → p T ≡ true → T ≡ M
  unfolding is_least
  least-least M h T inside passes = go (ℕ_discrete T M)
    where
      none : any_below (λ T. part T M and p T) M ≡ false
      none = not-true _ (and_second (p M) _ h)

      go : Dec (T ≡ M) → T ≡ M
      go (yes e) = e
      go (no e) =
          absurd (false-true
          (sym (any-not (λ T. part T M and p T) M T none (omega (arith, part-le T M inside))) ∙ and_both inside passes))

  least-none : (M : ℕ) → p M ≡ true → any_below (λ T. part T M and p T) M ≡ false → is_least p M ≡ true
  unfolding is_least
  least-none M passes none = and_both passes (ap not none)

  pub least-shown : (M : ℕ) → p M ≡ true → ((T : ℕ) → T < M → part T M ≡ true → p T ≡ true → ⊥) → is_least p M ≡ true
  least-shown M passes least =
      least-none M passes
      (any_none (λ T. part T M and p T) M (λ T l. refuted _ (λ h. least T l (and_first _ _ h) (and_second (part T M) _ h))))

  -- a set that passes includes a least one: itself, or one that a lesser part includes
  within : (n S : ℕ) → S < n → p S ≡ true → (M : ℕ) × (is_least p M ≡ true) × (part M S ≡ true)
  within zero S l passes = absurd (omega arith)
  within (suc n) S l passes =
      any-or-none (λ T. part T S and p T) S
      (λ T less there.
      let (M, least, inside) = within n T (omega arith) (and_second (part T S) _ there) in
      (M, least, part-trans M T S inside (and_first _ _ there)))
      (λ none. (S, least-none S passes none, part-refl S))

  pub least-within : (S : ℕ) → p S ≡ true → (M : ℕ) × (is_least p M ≡ true) × (part M S ≡ true)
  least-within S passes = within (suc S) S (omega arith) passes

  -- what does not pass is not least
  pub least-not : (S : ℕ) → p S ≡ false → is_least p S ≡ false
  least-not S fails = refuted (is_least p S) (λ h. false-true (sym fails ∙ least-passes S h))

  -- without any one of its members a least set does not pass
  pub least-without : (S c : ℕ) → is_least p S ≡ true → in_set S c ≡ true → p (bit_xor S (2 ^ c)) ≡ false
  least-without S c h inside =
      refuted (p (bit_xor S (2 ^ c))) (λ passes.
      let same = least-least S h (bit_xor S (2 ^ c)) (without-part S c inside) passes in
      false-true (sym (without-own S c inside) ∙ ap (λ (x : ℕ). in_set x c) same ∙ inside))

-- and for a monotone test that is all
pub least-by-one : (p : ℕ → Bool) (n : ℕ) → Monotone p n → (S : ℕ) → S < 2 ^ n → p S ≡ true
    → ((c : ℕ) → in_set S c ≡ true → p (bit_xor S (2 ^ c)) ≡ false) → is_least p S ≡ true
least-by-one p n mono S few passes each = least-shown p S passes lesser
  where
    lesser : (T : ℕ) → T < S → part T S ≡ true → p T ≡ true → ⊥
    lesser T l inside there =
        let more : part S T ≡ false =
        refuted (part S T) (λ h. let same = part-antisym T S inside h in omega arith) in
        let (c, own, out) = part-fails S T n few more in
        let less = part-le (bit_xor S (2 ^ c)) S (without-part S c own) in
        false-true (sym (each c own)
        ∙ mono T (bit_xor S (2 ^ c)) (omega arith) (part_without T S c inside out) there)
