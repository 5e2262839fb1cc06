-- Both goals are asked, one after the other, and what they meet together is held to what is wanted.
use Rattle.std.proofs.Common.{◌≡◌, length, rules}
use Rattle.table.specs.Limits.{most_credentials}
use Rattle.search.proofs.Judging.{judged-told}
use Rattle.choice.proofs.Linking.{first-stands, leads-none, leads-told, second-stands}
use Rattle.choice.proofs.middles.leads_on.Goals as goal

pub goal_search-one-requires-clause-stands : goal.goal_search-one-requires-clause-stands
goal_search-one-requires-clause-stands c =
    let pre = c.requires in
    first-stands pre.searchable pre.tried.0 pre.tried.1 pre.j_bound.0 pre.j_bound.1 c.asked_cell-first.ensures.0

pub returns-then-is_none : goal.returns-then-is_none
returns-then-is_none c =
    let pre = c.requires in
    let wide : length c.args.spot.above.persons ≡ most_credentials = search rules in
    let (judged, remembered) = c.goal_search-one.ensures in (
      leads-none pre.searchable pre.tried.0 pre.tried.1 pre.j_bound.0 pre.j_bound.1 _ _ _ pre.wanted
          c.asked_cell-first.ensures.0 (judged-told wide judged) c.is_none.ensures c.if-is_none.true,
      remembered,
    )

pub goal_search-two-requires-clause-stands : goal.goal_search-two-requires-clause-stands
goal_search-two-requires-clause-stands c =
    let pre = c.requires in
    second-stands pre.searchable pre.tried.0 pre.tried.1 pre.j_bound.0 pre.j_bound.1 c.link_cell-second.ensures.0

pub returns : goal.returns
returns c =
    let pre = c.requires in
    let wide : length c.args.spot.above.persons ≡ most_credentials = search rules in
    let (judged, remembered) = c.goal_search-two.ensures in (
      leads-told pre.searchable pre.tried.0 pre.tried.1 pre.j_bound.0 pre.j_bound.1 _ _ _ pre.wanted
          c.asked_cell-first.ensures.0 (judged-told wide c.goal_search-one.ensures.0)
          c.link_cell-second.ensures.0 _ (judged-told wide judged) c.joined.ensures c.meets.ensures,
      remembered,
    )
