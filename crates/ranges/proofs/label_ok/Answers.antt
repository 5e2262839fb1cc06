-- `ranges::label_ok` meets its contract: label by label.
use Rattle.std.proofs.Common.{rules}
use mathlib.Core.Path.{sym}
use Rattle.sets.specs.Logic.{◌and◌, pick}
use Rattle.table.specs.declared.Label.TheVariants.{EveryRole, OtherRoles, RolesOfOwner, ThisRole}
use Rattle.table.specs.Checks.{label_to}
use Rattle.table.proofs.Meanings.{label-none}
use Rattle.ranges.proofs.label_ok.Goals as goal

pub returns-in-Ok-ThisRole : goal.returns-in-Ok-ThisRole
unfolding label_to pick
returns-in-Ok-ThisRole c = search rules

pub returns-then-role-eq0 : goal.returns-then-role-eq0
unfolding label_to pick ◌and◌
returns-then-role-eq0 c = search rules

pub returns-else-role-eq0 : goal.returns-else-role-eq0
unfolding label_to pick ◌and◌
returns-else-role-eq0 c = search rules

pub returns-then-is_principal : goal.returns-then-is_principal
unfolding label_to pick ◌and◌
returns-then-is_principal c = search rules

pub returns-else-is_principal : goal.returns-else-is_principal
unfolding label_to pick ◌and◌
returns-else-is_principal c = search rules

pub returns-in-Err : goal.returns-in-Err
returns-in-Err c =
    let none = c.in-Err.ensures in sym (label-none _ _ (none ThisRole) (none EveryRole) (none OtherRoles) (none RolesOfOwner))
