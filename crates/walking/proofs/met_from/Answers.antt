-- One goal more, before those that are found.
use Rattle.std.proofs.Common.{◌≡◌, ◌+◌, ◌-◌, length, arith, rules}
use Rattle.table.specs.Limits.{most_credentials}
use Rattle.search.proofs.Judging.{judged-told}
use Rattle.walking.proofs.Later.{child-there, later-next, later-none}
use Rattle.walking.proofs.met_from.Goals as goal

pub loop-k-init : goal.loop-k-init
loop-k-init c =
    record {
      found = later-none _ _ _ _ _ _ c.args.later.now c.only-met.ensures;
      remembered = c.requires.remembered;
    }

pub goal_search-answer-requires-clause-stands : goal.goal_search-answer-requires-clause-stands
goal_search-answer-requires-clause-stands c = c.requires.children.stands _ (omega arith)

pub loop-k-preserved : goal.loop-k-preserved
loop-k-preserved c =
    let (one, now-remembered) = c.goal_search-answer.ensures in
    let next : c.loop-k.k - 1 + 1 ≡ c.loop-k.k = omega arith in
    let wide : length c.args.spot.above.persons ≡ most_credentials = search rules in
    record {
      found = later-next _ _ _ _ _ _ c.args.later.now (c.loop-k.k - 1) (omega arith) (child-there c.requires.children _ (omega arith))
          c.joined-met.ensures (judged-told wide one) (rw next c.loop-k.invariant.found);
      remembered = now-remembered;
    }

pub returns : goal.returns
returns c =
    let none : c.loop-k.k ≡ 0 = omega arith in
    (rw none at c.loop-k.invariant.found, c.loop-k.invariant.remembered)
