-- The outer loop has passed the chains of the credentials up to i, the inner one has met some cells of credential i + 1's.
use Rattle.std.proofs.Common.{◌≡◌, ℕ, ◌+◌, ◌-◌}
use Rattle.table.specs.Outcome.{demand_each}
use Rattle.table.specs.Outcome.Outcome.{accepted}
use Rattle.table.specs.Checks.{chain_ok, good_chain}
use Rattle.table.proofs.Chains.{Walked}
use Rattle.scans.proofs.first_bad_chain.Given as goal

abbrev pub invariant-loop-j : goal.invariant-loop-j
invariant-loop-j l =
    record { whole : good_chain l.table (l.i + 1) ≡ chain_ok l.table l.initial.j; walked : Walked l.table l.initial.j l.met l.j }

abbrev pub decreases-loop-j : goal.decreases-loop-j
decreases-loop-j l = 5 - l.met

abbrev pub invariant-loop-i : goal.invariant-loop-i
invariant-loop-i l = (number : ℕ) → demand_each (good_chain l.table) l.i number ≡ accepted 0
