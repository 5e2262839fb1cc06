-- `ranges::is_principal` meets its contract: by that of `within`. Assumes nothing.
use borrow.Author.Rules.{rules}
use Rattle.table.specs.Checks.{is_principal_to}
use Rattle.ranges.proofs.is_principal.Statement.{statement}
use Rattle.ranges.proofs.is_principal.Tie as tie

cast-within : tie.Need-overflow_cast-within
cast-within c = search rules

within-requires : tie.Need-within-requires
within-requires c κs = search rules

returns : tie.Need-returns
unfolding is_principal_to
returns c = c.within.ensures

pub is_principal_spec : {M : Type 1} → statement M
is_principal_spec = tie.close (tie.spec cast-within within-requires returns)
