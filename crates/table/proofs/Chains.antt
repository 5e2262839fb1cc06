-- Walking a chain: `met` cells have been met from cell `first` on, and j is the next cell, or 0.
use mathlib.Core.Path.{◌≡◌, refl}
use mathlib.Core.List.{List, [], ◌∷◌}
use mathlib.Core.Bool.{true}
use Prim.Native.Nat.{ℕ, zero, suc, ◌+◌, ◌-◌, ◌≤◌, ◌<◌}
use native.Mathlib.Omega.{arith}
use native.Mathlib.Decide.{ℕ_discrete}
use lib.ListN.{length}
use borrow.Author.Tests.{ne_eqb}
use Rattle.sets.specs.Logic.{pick}
use Rattle.table.specs.Limits.{most_parts, least_parts}
use Rattle.table.specs.Layout.{cell, cells, cells_from, chain}
use Rattle.table.specs.Checks.{chain_ok}
use Rattle.table.proofs.Fields.{within-bounds}

-- a chain that is ok has 2 to 4 cells
pub record ChainRange (t : List ℕ) (first : ℕ) : Type 0 where
  pub least : least_parts ≤ length (chain t first)
  pub most : length (chain t first) ≤ most_parts

pub chain-range : (t : List ℕ) (first : ℕ) → chain_ok t first ≡ true → ChainRange t first
unfolding chain_ok
chain-range t first ok =
    let (least, most) = within-bounds least_parts most_parts _ ok in
    record { least = least; most = most }

pub record Walked (t : List ℕ) (first met j : ℕ) : Type 0 where
  pub few : met ≤ most_parts
  pub inside : j ≤ cells t
  pub whole : met + length (cells_from (cell t) (suc most_parts - met) j) ≡ length (chain t first)

pub walk-starts : (t : List ℕ) (first : ℕ) → first ≤ cells t → Walked t first 0 first
walk-starts t first h = record { few = omega arith; inside = h; whole = omega arith }

-- cell j leads its chain where it is not 0, and 0 is the end
pub step_from : (t : List ℕ) (most j : ℕ) → (j ≡ 0 → ⊥) → cells_from (cell t) (suc most) j ≡ j ∷ cells_from (cell t) most (cell t j).next
unfolding cells_from pick
step_from t most j h = rw (ne_eqb j 0 h)

pub stop-at : (t : List ℕ) (most j : ℕ) → j ≡ 0 → cells_from (cell t) most j ≡ []
unfolding cells_from pick
stop-at t zero j h = refl
stop-at t (suc most) j h = rw h

module _ (t : List ℕ) (first met j : ℕ) (walked : Walked t first met j) where
  -- cell j and those after it
  cells_left : (most : ℕ) → suc most_parts - met ≡ suc most → (j ≡ 0 → ⊥)
      → met + suc (length (cells_from (cell t) most (cell t j).next)) ≡ length (chain t first)
  cells_left most e h = rw (e, step_from t most j h) at walked.whole

  -- there is one cell more
  pub walk_more : (j ≡ 0 → ⊥) → met + 1 ≤ length (chain t first)
  walk_more h = omega (arith, cells_left (most_parts - met) (omega (arith, walked.few)) h)

  pub walk-goes-on : (cell t j).next ≤ cells t → (j ≡ 0 → ⊥) → met + 1 ≤ most_parts → Walked t first (met + 1) (cell t j).next
  walk-goes-on inside h few =
      let l = cells_left (suc most_parts - (met + 1)) (omega arith) h in
      record { few = few; inside = inside; whole = omega arith }

  -- the chain has ended with `met` cells
  pub walk_ends : j ≡ 0 → length (chain t first) ≡ met
  walk_ends e = let z = rw (stop-at t (suc most_parts - met) j e) at walked.whole in omega arith

-- where the chain from cell j ends before the limit `most`, a greater limit gives the same chain
abbrev Settled : List ℕ → ℕ → ℕ → ℕ → Type 0
Settled t most big j = length (cells_from (cell t) most j) < most → cells_from (cell t) big j ≡ cells_from (cell t) most j

settled-step : (t : List ℕ) (most big j : ℕ) → Dec (j ≡ 0) → Settled t most big (cell t j).next
    → Settled t (suc most) (suc big) j
settled-step t most big j (yes z) later h = rw (stop-at t (suc big) j z, stop-at t (suc most) j z)
settled-step t most big j (no nz) later h =
    let shorter = rw (step_from t most j nz) at h in
    rw (step_from t big j nz, step_from t most j nz, later (omega arith))

pub cells-settled : (t : List ℕ) (most big j : ℕ) → most ≤ big → Settled t most big j
cells-settled t zero big j le = λ h. absurd (omega arith)
cells-settled t (suc most) zero j le = absurd (omega arith)
cells-settled t (suc most) (suc big) j le =
    settled-step t most big j (ℕ_discrete j 0) (cells-settled t most big (cell t j).next (omega arith))
