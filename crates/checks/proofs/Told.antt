-- What a row tells, by what was found of its records.
use mathlib.Core.Path.{◌≡◌}
use mathlib.Core.Bool.{Bool}
use Prim.Native.Nat.{ℕ}
use native.Mathlib.Omega.{arith}
use borrow.Author.Tests.{ne_eqb}
use Rattle.std.specs.Prelude.{Option, Some, None, Ok, Err}
use Rattle.table.specs.Outcome.{demand, demand_each}
use Rattle.table.specs.Outcome.Outcome.{accepted}
use Rattle.table.specs.Checks.{number_of, outcome_of, told}
use Rattle.table.specs.declared.Reason.{Reason}
use Rattle.scans.specs.Rows.{FoundBad}
use Rattle.checks.specs.Told.{table_told}

module _ (ok : ℕ → Bool) (n : ℕ) {found : Option ℕ} (bad : FoundBad ok n found) (r : Reason) where
  pub row-passes : found ≡ None → table_told (Ok tt) ≡ demand_each ok n (number_of r)
  unfolding outcome_of demand
  row-passes none = (rw none at bad) (number_of r)

  pub row-stops : {position : ℕ} → found ≡ Some position
      → table_told (Err (record { reason = r; position = position })) ≡ demand_each ok n (number_of r)
  unfolding outcome_of told demand
  row-stops {position} some =
      let (first, tells) = rw some at bad in
      rw (ne_eqb position 0 (λ e. omega arith)) at (tells (number_of r))

-- a row without records passes
pub row-empty : (ok : ℕ → Bool) (n number : ℕ) → n ≡ 0 → accepted 0 ≡ demand_each ok n number
unfolding demand_each
row-empty ok n number none = rw none
