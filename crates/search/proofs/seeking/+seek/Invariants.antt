-- Each call has fewer levels left, or is a step on the way from a goal to the goals of a credential. Each loop knows what the
-- credentials or middles that it has tried can meet, and which pairs block all else; or, over the goals of a credential, that none of
-- them failed, or what the later ones can meet together.
use Rattle.std.proofs.Common.{◌≡◌, false, ◌+◌, ◌*◌, drop, length}
use Rattle.sets.specs.Logic.{any_below}
use Rattle.table.specs.Limits.{most_parts}
use Rattle.search.specs.Search.{proves_at}
use Rattle.search.specs.Failing.{Judged}
use Rattle.search.specs.Grounds.{LaterJudgedOn, RememberedOn, shared_on}
use Rattle.search.proofs.Placing.{part_missed}
use Rattle.search.proofs.Below.{linked_test, tried_test}
use Rattle.search.proofs.seeking.+seek.Given as goal

abbrev pub decreases-goal_search : goal.decreases-goal_search
decreases-goal_search l = 7 * l.spot.levels

abbrev pub decreases-asked_search : goal.decreases-asked_search
decreases-asked_search l = 7 * l.spot.levels + 1

abbrev pub decreases-shared_search : goal.decreases-shared_search
decreases-shared_search l = 7 * l.spot.levels + 2

abbrev pub decreases-link_search : goal.decreases-link_search
decreases-link_search l = 7 * l.spot.levels + 3

abbrev pub decreases-parts_search : goal.decreases-parts_search
decreases-parts_search l = 7 * l.spot.levels + 3

abbrev pub decreases-linked_search : goal.decreases-linked_search
decreases-linked_search l = 7 * l.spot.levels + 4

abbrev pub decreases-credential_search : goal.decreases-credential_search
decreases-credential_search l = 7 * l.spot.levels + 5

abbrev pub decreases-definers_search : goal.decreases-definers_search
decreases-definers_search l = 7 * l.spot.levels + 6

abbrev pub invariant-definers_search-loop-i : goal.invariant-definers_search-loop-i
invariant-definers_search-loop-i l =
    let g = l.ground in record {
      judged : Judged g.terms.owed (tried_test g.table.now g.terms.allowed g.terms.constraints g.terms.owed
          l.below.levels l.below.states l.person l.place l.i) l.below.above l.found l.blocking;
      remembered : RememberedOn g l.memory;
    }

abbrev pub invariant-linked_search-loop-j : goal.invariant-linked_search-loop-j
invariant-linked_search-loop-j l =
    let g = l.ground in record {
      judged : Judged g.terms.owed (linked_test g.table.now g.index.now g.terms.allowed g.terms.constraints g.terms.owed
          l.spot.levels l.spot.states l.person l.i l.j) l.spot.above l.found l.blocking;
      remembered : RememberedOn g l.memory;
    }

abbrev pub invariant-parts_search-loop-k : goal.invariant-parts_search-loop-k
invariant-parts_search-loop-k l =
    let g = l.ground in record {
      none-missed : any_below (part_missed g.index.now
          (λ p r. proves_at g.table.now g.terms.allowed g.terms.constraints g.terms.owed l.spot.levels l.spot.above l.spot.states p r 0)
          l.person l.i) l.k ≡ false;
      remembered : RememberedOn g l.memory;
    }

abbrev pub invariant-shared_search-loop-k : goal.invariant-shared_search-loop-k
invariant-shared_search-loop-k l =
    let g = l.ground in record {
      room : length l.each ≡ most_parts;
      judged : Judged g.terms.owed (shared_on g l.spot (drop l.k l.asked)) l.spot.above l.found l.blocking;
      later : LaterJudgedOn g l.spot l.asked l.k l.each l.blocking;
      remembered : RememberedOn g l.memory;
    }
