-- The rows of checks that ask every record of one kind by itself, as one row: how many records there are, and what each must be.
-- `table_outcome` has these rows written out.
use Rattle.std.specs.Prelude.{ℕ, ◌≤◌, List, Bool, ◌≡◌, eqb, Option, Some, None}
use Rattle.table.specs.Outcome.{Outcome, demand, demand_each}
use Rattle.table.specs.Layout.{automata, cells, credentials, edges}
use Rattle.table.specs.Checks.{good_cell, good_credential, good_edge, good_mark}
use Rattle.scans.specs.declared.Row.{Row}
use Rattle.scans.specs.declared.Row.TheVariants as row

abbrev pub records : List ℕ → Row → ℕ
records t row.Credentials = credentials t
records t row.Cells = cells t
records t row.Edges = edges t
records t row.Marks = automata t

abbrev pub good : List ℕ → Row → ℕ → Bool
good t row.Credentials = good_credential t
good t row.Cells = good_cell t
good t row.Edges = good_edge t
good t row.Marks = good_mark t

unfoldable pub row_outcome : List ℕ → Row → ℕ → Outcome
row_outcome t r number = demand_each (good t r) (records t r) number

-- the first of the records 1 to n that is not ok, or 0 where every one is: what a row tells of them, whatever its number
abbrev pub FirstBad : (ℕ → Bool) → ℕ → ℕ → Type 0
FirstBad ok n first = (number : ℕ) → demand (eqb first 0) number first ≡ demand_each ok n number

-- the same as an answer: no record, or the first that is not ok
abbrev pub FoundBad : (ℕ → Bool) → ℕ → Option ℕ → Type 0
FoundBad ok n None = FirstBad ok n 0
FoundBad ok n (Some i) = (1 ≤ i) × FirstBad ok n i
