-- The list f 1, f 2, up to f n: how long it is, what stands at each place, and that a list of that length with the same
-- at each place is that list. So it is with the sets of all eight automata, which are such a list.
use mathlib.Core.Path.{◌≡◌, refl, sym, ap, ◌∙◌}
use mathlib.Core.List.{List, []}
use mathlib.Core.Logic.{⊎_elim}
use Prim.Native.Nat.{ℕ, zero, suc, ◌<◌}
use native.Mathlib.Omega.{arith}
use native.Mathlib.Nat.{eq-or-lt_of_le}
use lib.ListN.{length, get_or, length-append, get_or-append, get_or-eq_default}
use lib.Seq.{get_or_at, ext_get_or}
use Rattle.table.specs.Limits.{most_automata}
use Rattle.automata.specs.Together.{each, together}

module _ (f : ℕ → ℕ) where
  pub each-length : (n : ℕ) → length (each f n) ≡ n
  unfolding each
  each-length zero = refl
  each-length (suc n) = simp length-append (omega (arith, each-length n))

  pub each_at : (n k : ℕ) → k < n → get_or (each f n) k 0 ≡ f (suc k)
  unfolding each
  each_at zero k h = absurd (omega arith)
  each_at (suc n) k h =
      ⊎_elim
      (λ same. let last : k ≡ n = omega arith in rw last (get_or_at (each f n) (f (suc n)) [] 0 n (each-length n)))
      (λ less. get_or-append (each f n) _ 0 k (omega (arith, each-length n)) ∙ each_at n k (omega arith))
      (eq-or-lt_of_le h)

  pub each-ext : (n : ℕ) (l : List ℕ) → length l ≡ n → ((k : ℕ) → k < n → get_or l k 0 ≡ f (suc k)) → l ≡ each f n
  each-ext n l len at =
      ext_get_or 0 l (each f n) (len ∙ sym (each-length n))
      (λ k h. let less : k < n = omega arith in at k less ∙ sym (each_at n k less))

  pub together_at : (k : ℕ) → k < most_automata → get_or (together f).sets k 0 ≡ f (suc k)
  unfolding together
  together_at k less = each_at most_automata k less

  -- beyond the eight there is no set
  pub together-beyond : (k : ℕ) → (k < most_automata → ⊥) → get_or (together f).sets k 0 ≡ 0
  unfolding together
  together-beyond k beyond = get_or-eq_default (each f most_automata) 0 (omega (arith, each-length most_automata))

  pub together-is : (l : List ℕ) → length l ≡ most_automata → ((k : ℕ) → k < most_automata → get_or l k 0 ≡ f (suc k))
      → record { sets = l } ≡ together f
  unfolding together
  together-is l size at = ap (λ (x : List ℕ). record { sets = x }) (each-ext most_automata l size at)

pub together-same : (f g : ℕ → ℕ) → ((k : ℕ) → k < most_automata → f (suc k) ≡ g (suc k)) → together f ≡ together g
unfolding together
together-same f g same =
    together-is g (each f most_automata) (each-length f most_automata) (λ k less. each_at f most_automata k less ∙ same k less)
