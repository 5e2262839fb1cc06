-- `ranges::is_name` meets its contract: by that of `within`. Assumes nothing.
use borrow.Author.Rules.{rules}
use Rattle.table.specs.Checks.{is_name_to}
use Rattle.ranges.proofs.is_name.Statement.{statement}
use Rattle.ranges.proofs.is_name.Tie as tie

cast-within : tie.Need-overflow_cast-within
cast-within c = search rules

within-requires : tie.Need-within-requires
within-requires c κs = search rules

returns : tie.Need-returns
unfolding is_name_to
returns c = c.within.ensures

pub is_name_spec : {M : Type 1} → statement M
is_name_spec = tie.close (tie.spec cast-within within-requires returns)
