-- A family's sets are gone through in ascending order: from one to the next, and what is gathered or sought on the way.
use mathlib.Core.Path.{◌≡◌, refl, sym, ap, ◌∙◌}
use mathlib.Core.Bool.{Bool, true, false}
use Prim.Native.Nat.{ℕ, ◌+◌, ◌-◌, ◌*◌, ◌/◌, ◌%◌, ◌^◌, ◌<◌, ◌≤◌}
use native.Mathlib.Omega.{arith}
use native.Mathlib.Decide.{dec_lt}
use native.Mathlib.Nat.{div-div-eq-div-mul}
use native.Mathlib.Numerals.{add-one}
use lib.Pow.{pow-add}
use borrow.Author.Tests.{eq-eqb, ne_eqb}
use Rattle.sets.specs.Logic.{◌and◌, ◌or◌, any_below}
use Rattle.sets.specs.Sets.{in_set}
use Rattle.sets.proofs.Tests.{and_both, and_first, and_is, and_none, any_next, any-reached, any-shows}
use Rattle.sets.proofs.Tests.{false-true, same_test}
use Rattle.sets.proofs.Members.{in_set-zero}
use Rattle.families.specs.Families.{FamilyOf, all_sets, in_family}
use Rattle.families.specs.Next.{Next}
use Rattle.families.specs.declared.Family.{Family}
use Rattle.families.proofs.Words.{word}

-- no set from `from` on is in f, up to `set`
pub record PassedOver (f : Family) (from set : ℕ) : Type 0 where
  pub later : from ≤ set
  pub most : set ≤ all_sets
  pub none : (X : ℕ) → from ≤ X → X < set → in_family f X ≡ false

pub passed_none : (f : Family) (from : ℕ) → from ≤ all_sets → PassedOver f from from
passed_none f from few = record { later = omega arith; most = few; none = λ X low high. absurd (omega arith) }

-- `rest` is what the word of `set` has from its bit on
module _ (f : Family) (from set rest : ℕ) (so_far : PassedOver f from set) (less : set < all_sets)
    (is : rest ≡ word f (set / 32) / 2 ^ (set % 32)) where
  on-to : (next : ℕ) → set ≤ next → next ≤ all_sets → ((X : ℕ) → set ≤ X → X < next → in_family f X ≡ false)
      → PassedOver f from next
  on-to next low high none =
      record {
        later = omega (arith, so_far.later);
        most = high;
        none = λ X above below. go X above below (dec_lt X set);
      }
    where
      go : (X : ℕ) → from ≤ X → X < next → Dec (X < set) → in_family f X ≡ false
      go X above below (yes l) = so_far.none X above l
      go X above below (no l) = none X (omega arith) below

  -- it is the next
  pub next_here : rest % 2 ≡ 1 → Next f from set
  unfolding in_family in_set
  next_here e =
      record { later = so_far.later; most = so_far.most; none = so_far.none; here = λ l. rw (← is) (eq-eqb (rest % 2) 1 e) }

  -- it is not in f
  pub passed-one : (rest % 2 ≡ 1 → ⊥) → PassedOver f from (set + 1)
  unfolding in_family in_set
  passed-one out =
      on-to (set + 1) (omega arith) (omega arith)
      (λ X low high. let e : X ≡ set = omega arith in rw (e, ← is) (ne_eqb (rest % 2) 1 out))

  -- nor are the others of its word
  pub passed-word : rest ≡ 0 → PassedOver f from ((set / 32 + 1) * 32)
  unfolding in_family in_set
  passed-word zero =
      on-to ((set / 32 + 1) * 32) (omega arith) (omega arith)
      (λ X low high.
      let own : X / 32 ≡ set / 32 = omega arith in
      let bit : X % 32 ≡ set % 32 + (X % 32 - set % 32) = omega arith in
      let gone : word f (set / 32) / 2 ^ (set % 32) ≡ 0 = sym is ∙ zero in
      rw (own, bit, pow-add, ← div-div-eq-div-mul, gone) (in_set-zero (X % 32 - set % 32)))

pub next-none : (f : Family) (from set : ℕ) → PassedOver f from set → all_sets ≤ set → Next f from set
next-none f from set so_far all =
    record { later = so_far.later; most = so_far.most; none = so_far.none; here = λ l. absurd (omega arith) }

-- What is sought among the sets of f is not between one and the next.
any-through : (f : Family) (q : ℕ → Bool) (from next : ℕ) → Next f from next
    → any_below (λ Y. in_family f Y and q Y) next ≡ any_below (λ Y. in_family f Y and q Y) from
any-through f q from next step = same_test _ _ back on
  where
    p : ℕ → Bool
    p Y = in_family f Y and q Y

    back : any_below p next ≡ true → any_below p from ≡ true
    back h = let (Y, l, passes) = any-shows p next h in go Y l passes (dec_lt Y from)
      where
        go : (Y : ℕ) → Y < next → p Y ≡ true → Dec (Y < from) → any_below p from ≡ true
        go Y l passes (yes less) = any-reached p from Y less passes
        go Y l passes (no more) =
            absurd (false-true (sym (step.none Y (omega arith) l) ∙ and_first (in_family f Y) (q Y) passes))

    on : any_below p from ≡ true → any_below p next ≡ true
    on h = let (Y, l, passes) = any-shows p from h in any-reached p next Y (omega (arith, step.later)) passes

any-one-more : (p : ℕ → Bool) (n : ℕ) → any_below p (n + 1) ≡ (any_below p n or p n)
unfolding any_below
any-one-more p n = rw (add-one n)

-- For each set Y of f before `at` the sets X are gathered that pass q Y.
pub record Gathered (q : ℕ → ℕ → Bool) (f : Family) (at : ℕ) (all : Family) : Type 0 where
  pub sets : FamilyOf (λ X. any_below (λ Y. in_family f Y and q Y X) at) all

module _ (q : ℕ → ℕ → Bool) (f : Family) where
  pub gathered_none : (all : Family) → FamilyOf (λ X. false) all → Gathered q f 0 all
  unfolding any_below
  gathered_none all none = record { sets = none }

  pub gathered_next : (at next : ℕ) (all more : Family) → Gathered q f at all → Next f at next → next < all_sets
      → FamilyOf (λ X. in_family all X or q next X) more → Gathered q f (next + 1) more
  gathered_next at next all more so_far step less new =
      record {
        sets = λ X l.
            let p = λ (Y : ℕ). in_family f Y and q Y X in
            let here : p next ≡ q next X = and_is (step.here less) refl in
            new X l ∙ rw (so_far.sets X l, ← any-through f (λ Y. q Y X) at next step) (ap (λ b. any_below p next or b) (sym here))
            ∙ sym (any-one-more p next);
      }

  pub gathered-all : (at : ℕ) (all : Family) → Gathered q f at all → Next f at all_sets
      → FamilyOf (λ X. any_below (λ Y. in_family f Y and q Y X) all_sets) all
  gathered-all at all so_far end X l = so_far.sets X l ∙ sym (any-through f (λ Y. q Y X) at all_sets end)

-- No set of f before `at` passes q.
pub record Sought (q : ℕ → Bool) (f : Family) (at : ℕ) : Type 0 where
  pub none : any_below (λ Y. in_family f Y and q Y) at ≡ false

module _ (q : ℕ → Bool) (f : Family) where
  pub sought-none : Sought q f 0
  unfolding any_below
  sought-none = record { none = refl }

  pub sought-next : (at next : ℕ) → Sought q f at → Next f at next → q next ≡ false → Sought q f (next + 1)
  sought-next at next so_far step out =
      record {
        none = any_next (λ Y. in_family f Y and q Y) next (any-through f q at next step ∙ so_far.none) (and_none (in_family f next) out);
      }

  pub sought-here : (at next : ℕ) → Next f at next → next < all_sets → q next ≡ true
      → any_below (λ Y. in_family f Y and q Y) all_sets ≡ true
  sought-here at next step less passes =
      any-reached (λ Y. in_family f Y and q Y) all_sets next less (and_both (step.here less) passes)

  pub sought-all : (at : ℕ) → Sought q f at → Next f at all_sets → any_below (λ Y. in_family f Y and q Y) all_sets ≡ false
  sought-all at so_far end = any-through f q at all_sets end ∙ so_far.none

-- what is added by a family of those that pass the test
pub or-made : (p : ℕ → Bool) (f g more : Family) → FamilyOf p g → FamilyOf (λ X. in_family f X or in_family g X) more
    → FamilyOf (λ X. in_family f X or p X) more
or-made p f g more own both X l = both X l ∙ ap (λ b. in_family f X or b) (own X l)
