-- The roles of the cells so far are gathered, and j is the next cell.
use Rattle.std.proofs.Common.{length, ◌-◌}
use Rattle.few.specs.Listed.{listed}
use Rattle.table.proofs.Parts.{Gathered}
use Rattle.table.proofs.layout.chain.Given as goal

abbrev pub invariant-loop-j : goal.invariant-loop-j
invariant-loop-j l = Gathered l.table l.first (listed l.roles) l.j

abbrev pub decreases-loop-j : goal.decreases-loop-j
decreases-loop-j l = 5 - length (listed l.roles)
