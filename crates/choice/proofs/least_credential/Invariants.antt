-- None of the first i credentials proves the goal.
use Rattle.std.proofs.Common.{◌≡◌, false}
use Rattle.sets.specs.Logic.{any_below}
use Rattle.search.specs.Search.{goal_at, proves_with}
use Rattle.search.specs.Grounds.{RememberedOn}
use Rattle.choice.specs.Choice.{suits_on, word_on}
use Rattle.choice.proofs.least_credential.Given as goal

abbrev pub invariant-loop-i : goal.invariant-loop-i
invariant-loop-i l =
    let g = l.ground in record {
      none : any_below (proves_with g.table.now g.terms.allowed (suits_on g l.wanted l.spot) (word_on g l.wanted l.spot)
          (goal_at g.table.now l.person l.place)) l.i ≡ false;
      remembered : RememberedOn g l.memory;
    }
