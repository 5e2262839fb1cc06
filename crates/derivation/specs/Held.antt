-- How the code holds what a credential asks: a list of goals, or none where it does not apply.
use Rattle.std.specs.Prelude.{List, Some, None}
use Rattle.std.specs.Prelude.{Option as Held}
use Rattle.std.proofs.Math.Option.{Option, none, some}
use Rattle.few.specs.Listed.{listed}
use Rattle.few.specs.declared.Few.{Few}
use Rattle.table.specs.Limits.{most_parts}
use Rattle.table.specs.Layout.{principal, role}
use Rattle.table.specs.declared.Goal.{Goal}
use Rattle.derivation.specs.Rules.{goal}

abbrev pub no_goal : Goal
no_goal = goal (principal 0) (role 0 0)

-- the goals that a credential asks, or that it does not apply
unfoldable pub given : Held (Few Goal most_parts) → Option (List Goal)
given (Some goals) = some (listed goals)
given None = none
