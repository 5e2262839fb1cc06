-- How the sets of a family are gone through, in ascending order.
use Rattle.std.specs.Prelude.{ℕ, ◌<◌, ◌≤◌, ◌≡◌, true, false}
use Rattle.families.specs.Families.{all_sets, in_family}
use Rattle.families.specs.declared.Family.{Family}

-- `next` is the first set of f that is not below `from`, or 256
pub record Next (f : Family) (from next : ℕ) : Type 0 where
  pub later : from ≤ next
  pub most : next ≤ all_sets
  pub none : (X : ℕ) → from ≤ X → X < next → in_family f X ≡ false
  pub here : next < all_sets → in_family f next ≡ true
