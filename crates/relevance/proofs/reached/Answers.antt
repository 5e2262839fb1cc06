-- Where a round has brought nothing in, all is there; where it has, there are more places than before.
use Rattle.std.proofs.Common.{arith}
use Rattle.sets.proofs.Members.{part-member}
use Rattle.relevance.proofs.Reaching.{round-first, round-less, with-has}
use Rattle.relevance.proofs.reached.Goals as goal

pub loop-places-init : goal.loop-places-init
loop-places-init c =
    record {
      fits = c.with-places.type_inv;
      starts = with-has 0 _ _ c.with-places.ensures c.goal_role.ensures.0;
      round = round-first _ _ _;
    }

pub loop-places-smaller : goal.loop-places-smaller
loop-places-smaller c = round-less _ _ _ _ _ _ c.loop-places.invariant.round c.loop-places-test.true (omega arith)

pub loop-places-preserved : goal.loop-places-preserved
loop-places-preserved c =
    let more = c.more_places-more.ensures in
    record {
      fits = c.more_places-more.type_inv;
      starts = part-member _ _ _ more.grows c.loop-places.invariant.starts;
      round = more;
    }

pub returns : goal.returns
returns c =
    let kept = c.loop-places.invariant in
    (kept.starts, rw (← c.loop-places-test.false) at kept.round)
