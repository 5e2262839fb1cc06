-- The loop has passed the records up to i.
use Rattle.std.proofs.Common.{◌≡◌, ℕ}
use Rattle.table.specs.Outcome.{demand_each}
use Rattle.table.specs.Outcome.Outcome.{accepted}
use Rattle.scans.specs.Rows.{good}
use Rattle.scans.proofs.first_bad.Given as goal

abbrev pub invariant-loop-i : goal.invariant-loop-i
invariant-loop-i l = (number : ℕ) → demand_each (good l.table l.row) l.i number ≡ accepted 0
