-- `edges::matches` meets its contract: label by label.
use Rattle.std.proofs.Common.{rules}
use Rattle.sets.specs.Logic.{◌and◌, pick}
use Rattle.table.specs.Layout.{same_role}
use Rattle.table.specs.declared.Label.TheVariants.{EveryRole, OtherRoles, RolesOfOwner, ThisRole}
use Rattle.edges.specs.Edges.{matches}
use Rattle.edges.proofs.Labels.{label-none}
use Rattle.edges.proofs.matches.Goals as goal
use mathlib.Core.Path.{sym}

pub returns-in-Ok-ThisRole : goal.returns-in-Ok-ThisRole
unfolding matches pick same_role ◌and◌
returns-in-Ok-ThisRole c = search rules

pub returns-in-Ok-EveryRole : goal.returns-in-Ok-EveryRole
unfolding matches pick
returns-in-Ok-EveryRole c = search rules

pub returns-in-Ok-OtherRoles : goal.returns-in-Ok-OtherRoles
unfolding matches pick same_role ◌and◌
returns-in-Ok-OtherRoles c = search rules

pub returns-in-Ok-RolesOfOwner : goal.returns-in-Ok-RolesOfOwner
unfolding matches pick
returns-in-Ok-RolesOfOwner c = search rules

pub returns-in-Err : goal.returns-in-Err
returns-in-Err c =
    let none = c.in-Err.ensures in sym (label-none _ _ (none ThisRole) (none EveryRole) (none OtherRoles) (none RolesOfOwner))
