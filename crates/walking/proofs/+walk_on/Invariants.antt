-- The measures are twice the levels, and one more. The records of the children passed stand one after the other, and what they have
-- met together is known.
use Rattle.std.proofs.Common.{◌*◌, ◌+◌, ◌≤◌, drop}
use Rattle.families.specs.Families.{in_family}
use Rattle.search.specs.Grounds.{RememberedOn}
use Rattle.walking.specs.Walked.{goals_at}
use Rattle.walking.proofs.Children.{Passed}
use Rattle.walking.proofs.+walk_on.Given as goal

abbrev pub decreases-walk : goal.decreases-walk
decreases-walk l = 2 * l.spot.levels

abbrev pub decreases-walk_asked : goal.decreases-walk_asked
decreases-walk_asked l = 2 * l.spot.levels + 1

abbrev pub invariant-walk_asked-loop-k : goal.invariant-walk_asked-loop-k
invariant-walk_asked-loop-k l =
    let g = l.ground in record {
      room : l.next ≤ l.most;
      passed : Passed g.table.now g.terms.allowed g.terms.constraints g.terms.owed l.spot.levels l.spot.above l.spot.states
          (in_family l.wanted) (goals_at g.table.now l.asked) (goals_at g.table.now (drop l.k l.asked)) l.from l.most
          l.initial.rec l.rec l.next l.met;
      remembered : RememberedOn g l.memory;
    }
