-- Count by count, up to the first that is over its limit.
use Rattle.std.proofs.Common.{arith}
use Rattle.std.proofs.lemmas.Bool.Decides.{nat_tests}
use Rattle.sets.specs.Logic.{◌and◌}
use Rattle.table.specs.Checks.{counts_ok}
use Rattle.scans.proofs.counts_ok.Goals as goal

pub returns-then-table-le-MOST_AUTOMATA : goal.returns-then-table-le-MOST_AUTOMATA
unfolding counts_ok ◌and◌
returns-then-table-le-MOST_AUTOMATA c = grind (arith, nat_tests)

pub returns-else-table-le-MOST_AUTOMATA : goal.returns-else-table-le-MOST_AUTOMATA
unfolding counts_ok ◌and◌
returns-else-table-le-MOST_AUTOMATA c = grind (arith, nat_tests)
