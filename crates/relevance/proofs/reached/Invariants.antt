-- The rounds begin with the query's role and lose nothing; each has more places than the one before.
use Rattle.std.proofs.Common.{◌≡◌, ◌<◌, ◌-◌, ◌^◌, true, get_or}
use Rattle.sets.specs.Sets.{in_set}
use Rattle.table.specs.Layout.{credentials}
use Rattle.members.specs.Members.{goal_role}
use Rattle.relevance.specs.Relevance.{Round}
use Rattle.relevance.proofs.reached.Given as goal

abbrev pub invariant-loop-places : goal.invariant-loop-places
invariant-loop-places l =
    record {
      fits : l.places < 2 ^ 32;
      starts : in_set l.places (get_or l.index goal_role 0) ≡ true;
      round : Round l.table l.index (credentials l.table) l.before l.places;
    }

abbrev pub decreases-loop-places : goal.decreases-loop-places
decreases-loop-places l = 2 ^ 32 - l.before
