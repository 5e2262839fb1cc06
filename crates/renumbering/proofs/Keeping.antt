-- The kept credentials are renumbered: each new number is one of as many as are kept, and leads back.
use mathlib.Core.Path.{◌≡◌, refl, ap, ◌∙◌}
use mathlib.Core.List.{List, [], ◌∷◌, ◌++◌}
use mathlib.Core.Bool.{Bool, true}
use Prim.Native.Nat.{ℕ, suc, ◌-◌, ◌<◌}
use native.Mathlib.Omega.{arith}
use native.Mathlib.Numerals.{sub-one}
use lib.ListN.{get_or, length, length-append, get_or-append}
use lib.Seq.{get_or_at}
use Rattle.sets.proofs.Tests.{and_both, and_first, and_second}
use Rattle.sorted.specs.Sorted.{those}
use Rattle.sorted.proofs.Lists.{those-begin, those-takes}
use Rattle.sorted.proofs.Ascending.{one_place, those-numbers}
use Rattle.table.specs.Checks.{within}
use Rattle.table.proofs.Fields.{range-within, within-range}
use Rattle.agreement.specs.Agrees.{KeepsOrder, Renumbers}
use Rattle.renumbering.specs.Kept.{is_kept, kept_count, new_number, old_number}

module _ (p : ℕ → Bool) (n : ℕ) where
  -- a number that passes stands behind those before it
  stands-behind : (i : ℕ) → i < n → p i ≡ true
      → (length (those p i) < length (those p n)) × (get_or (those p n) (length (those p i)) 0 ≡ i)
  stands-behind i less passes =
      let (rest, e) = those-begin p (suc i) n less in
      let taken = those-takes p i passes in
      let one = length-append (those p i) (i ∷ []) in
      let both = length-append (those p i ++ (i ∷ [])) rest in
      let whole : those p n ≡ (those p i ++ (i ∷ [])) ++ rest = e ∙ ap (λ (l : List ℕ). l ++ rest) taken in
      let fits : length (those p i) < length (those p i ++ (i ∷ [])) = omega arith in (
        rw whole (omega arith),
        rw whole (get_or-append (those p i ++ (i ∷ [])) rest 0 (length (those p i)) fits ∙ get_or_at (those p i) i [] 0 _ refl),
      )

  pub kept-renumbers : Renumbers n (kept_count p n) (is_kept p n) (within 1 (kept_count p n)) (new_number p) (old_number p n)
  unfolding new_number old_number
  kept-renumbers =
      record {
        onward = record {
          numbered = λ c own. within-range n c (and_first _ _ own);
          there = λ c own.
              let range = within-range n c (and_first _ _ own) in
              let stands = stands-behind (c - 1) (omega arith) (and_second _ _ own) in
              range-within _ _ (record { first = omega arith; last = omega (arith, stands.0) });
          back = λ c own.
              let range = within-range n c (and_first _ _ own) in
              let stands = stands-behind (c - 1) (omega arith) (and_second _ _ own) in
              rw (sub-one (suc (length (those p (c - 1)))), stands.1) (omega arith);
        };
        backward = record {
          numbered = λ c own. within-range (kept_count p n) c own;
          there = λ c own.
              let range = within-range (kept_count p n) c own in
              let all = those-numbers p n in
              let below = all.below (c - 1) (omega arith) in
              and_both (range-within n _ (record { first = omega arith; last = omega arith }))
              (rw (sub-one (suc (get_or (those p n) (c - 1) 0))) (all.only (c - 1) (omega arith)));
          back = λ c own.
              let range = within-range (kept_count p n) c own in
              let all = those-numbers p n in
              let below = all.below (c - 1) (omega arith) in
              let passes = all.only (c - 1) (omega arith) in
              let stands = stands-behind (get_or (those p n) (c - 1) 0) below passes in
              let place = one_place (those p n) all.ascending _ (c - 1) stands.0 (omega arith) stands.1 in
              rw (sub-one (suc (get_or (those p n) (c - 1) 0)), place) (omega arith);
        };
      }

-- and in the same order
pub kept-in-order : (p : ℕ → Bool) (n : ℕ) → KeepsOrder (is_kept p n) (new_number p)
unfolding new_number
kept-in-order p n c d own own' less =
    let range = within-range n c (and_first _ _ own) in
    let behind = stands-behind p (d - 1) (c - 1) (omega arith) (and_second _ _ own) in
    omega (arith, behind.0)
