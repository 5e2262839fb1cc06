-- `ranges::meaning_ok` meets its contract: kind by kind.
use Rattle.std.proofs.Common.{rules}
use mathlib.Core.Path.{sym}
use Rattle.sets.specs.Logic.{◌and◌, pick}
use Rattle.table.specs.declared.Kind.TheVariants.{IntersectionContainment, LinkingContainment, SimpleContainment, SimpleMembership}
use Rattle.table.specs.Checks.{meaning_to}
use Rattle.table.proofs.Meanings.{kind-none}
use Rattle.ranges.proofs.meaning_ok.Goals as goal

pub returns-then-is_principal : goal.returns-then-is_principal
unfolding meaning_to pick ◌and◌
returns-then-is_principal c = search rules

pub returns-else-is_principal : goal.returns-else-is_principal
unfolding meaning_to pick ◌and◌
returns-else-is_principal c = search rules

pub returns-then-is_principal-2 : goal.returns-then-is_principal-2
unfolding meaning_to pick ◌and◌
returns-then-is_principal-2 c = search rules

pub returns-else-is_principal-2 : goal.returns-else-is_principal-2
unfolding meaning_to pick ◌and◌
returns-else-is_principal-2 c = search rules

pub returns-then-is_name : goal.returns-then-is_name
unfolding meaning_to pick ◌and◌
returns-then-is_name c = search rules

pub returns-else-is_name : goal.returns-else-is_name
unfolding meaning_to pick ◌and◌
returns-else-is_name c = search rules

pub returns-then-within : goal.returns-then-within
unfolding meaning_to pick ◌and◌
returns-then-within c = search rules

pub returns-else-within : goal.returns-else-within
unfolding meaning_to pick ◌and◌
returns-else-within c = search rules

pub returns-in-Err : goal.returns-in-Err
returns-in-Err c =
    let none = c.in-Err.ensures in
    sym (kind-none _ _ _ _ (none SimpleMembership) (none SimpleContainment) (none LinkingContainment) (none IntersectionContainment))
