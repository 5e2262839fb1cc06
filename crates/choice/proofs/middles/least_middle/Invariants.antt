-- Every middle with which the credential proves its goal is among those that are left.
use Rattle.std.proofs.Common.{suc}
use Rattle.search.specs.Search.{goal_at}
use Rattle.search.specs.Grounds.{RememberedOn}
use Rattle.choice.specs.Choice.{leads, suits_on, word_on}
use Rattle.choice.proofs.Linking.{MiddlesLeft}
use Rattle.choice.proofs.middles.least_middle.Given as goal

abbrev pub invariant-loop-left : goal.invariant-loop-left
invariant-loop-left l =
    let g = l.ground in record {
      middles : MiddlesLeft g.table.now (leads g.table.now (suits_on g l.wanted l.spot) (word_on g l.wanted l.spot)
          (goal_at g.table.now l.person l.i) (suc l.i)) l.left;
      remembered : RememberedOn g l.memory;
    }

abbrev pub decreases-loop-left : goal.decreases-loop-left
decreases-loop-left l = l.left
