-- `ranges::within` meets its contract: each test decides its part. Assumes nothing.
use borrow.Author.Rules.{rules}
use borrow.Author.Tests.{le-leb, lt-leb}
use Rattle.sets.proofs.Tests.{and-off, and-on}
use Rattle.table.specs.Checks.{within}
use Rattle.ranges.proofs.within.Statement.{statement}
use Rattle.ranges.proofs.within.Tie as tie

wide-requires : tie.Need-wide-x-requires
wide-requires c κs = search rules

returns : tie.Need-returns-then-low-x
unfolding within
returns c = rw (← c.wide-x.ensures.0) (and-on (le-leb _ _ c.if-low-x.true))

returns-2 : tie.Need-returns-else-low-x
unfolding within
returns-2 c = rw (← c.wide-x.ensures.0) (and-off _ (lt-leb _ _ c.if-low-x.false))

pub within_spec : {M : Type 1} → statement M
within_spec = tie.close (tie.spec wide-requires returns returns-2)
