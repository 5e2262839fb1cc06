-- Of those below j the best so far has the least number.
use Rattle.std.proofs.Common.{◌<◌, MatchOption, unwrap_or}
use Rattle.table.specs.Layout.{credentials}
use Rattle.choice.proofs.Linking.{NamedTo}
use Rattle.choice.proofs.middles.least_named.Given as goal

abbrev pub invariant-loop-j : goal.invariant-loop-j
invariant-loop-j l =
    record {
      there : MatchOption l.best (Unit {0}) (λ b. b < credentials l.table);
      named : NamedTo l.table l.places l.j (unwrap_or l.best (credentials l.table));
    }
