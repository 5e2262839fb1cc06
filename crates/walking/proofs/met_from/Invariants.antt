-- What the goals from k on can meet together is found.
use Rattle.std.proofs.Common.{drop}
use Rattle.search.specs.Failing.{FoundBelow}
use Rattle.search.specs.Grounds.{RememberedOn}
use Rattle.walking.specs.Walked.{goals_at, later_test}
use Rattle.walking.proofs.met_from.Given as goal

abbrev pub invariant-loop-k : goal.invariant-loop-k
invariant-loop-k l =
    let g = l.ground in record {
      found : FoundBelow g.terms.owed (later_test g.table.now g.terms.allowed g.terms.constraints g.terms.owed
          l.spot.levels l.spot.states (goals_at g.table.now (drop l.k l.later))) l.spot.above l.met;
      remembered : RememberedOn g l.memory;
    }
