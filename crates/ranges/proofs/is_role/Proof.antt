-- `ranges::is_role` meets its contract: the owner is tested, then the name. Assumes nothing.
use mathlib.Core.Path.{◌∙◌}
use borrow.Author.Rules.{rules}
use Rattle.sets.proofs.Tests.{flag_off, flag-on}
use Rattle.table.specs.Checks.{is_name, is_role_to}
use Rattle.ranges.proofs.is_role.Statement.{statement}
use Rattle.ranges.proofs.is_role.Tie as tie

is-principal-requires : tie.Need-is_principal-requires
is-principal-requires c κs = search rules

is-name-requires : tie.Need-is_name-requires
is-name-requires c κs = search rules

returns : tie.Need-returns-then-is_principal
unfolding is_role_to
returns c =
    let is-principal = c.is_principal in
    c.is_name.ensures ∙ flag-on is-principal.ensures c.if-is_principal.true

returns-2 : tie.Need-returns-else-is_principal
unfolding is_role_to
returns-2 c = flag_off (is_name _) c.is_principal.ensures c.if-is_principal.false

pub is_role_spec : {M : Type 1} → statement M
is_role_spec = tie.close (tie.spec is-principal-requires is-name-requires returns returns-2)
