-- How the code holds a branch: the goals above a node, by the list that has them.
use Rattle.std.specs.Prelude.{List, reverse}
use Rattle.few.specs.Listed.{listed}
use Rattle.table.specs.declared.Goal.{Goal}
use Rattle.branches.specs.declared.Branch.{Branch}

-- the goals above, the nearest first
unfoldable pub above : Branch → List Goal
above b = reverse (listed b.goals)
