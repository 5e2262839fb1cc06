-- One that does not lead on is left out; the credential proves its goal, so that the last one that is left leads on.
use Rattle.std.proofs.Common.{◌<◌, arith, sym, ◌∙◌}
use Rattle.sets.proofs.Members.{one_bit}
use Rattle.search.proofs.Placing.{below-most, row_fits}
use Rattle.choice.proofs.Linking.{least-leads, left-first, left_less, left-next, left-some, only-leads, some-leads, some-least}
use Rattle.choice.proofs.middles.least_middle.Goals as goal

pub listed_middles-left-requires-clause-rows_len : goal.listed_middles-left-requires-clause-rows_len
listed_middles-left-requires-clause-rows_len c =
    (c.requires.searchable.members.room, row_fits c.requires.searchable.members c.row_of-row.ensures)

pub loop-left-init : goal.loop-left-init
loop-left-init c =
    let pre = c.requires in
    record {
      middles =
          left-first pre.searchable pre.tried.0 pre.tried.1 _ _ _ _ _ _ _ c.row_of-row.ensures
          c.listed_middles-left.ensures;
      remembered = pre.remembered;
    }

pub overflow_sub-left : goal.overflow_sub-left
overflow_sub-left c =
    let some = some-leads _ _ _ _ _ c.requires.tried.1 c.requires.i_value in
    some-least _ (left-some _ _ _ c.loop-left.invariant.middles some)

pub least_named-j-requires-clause-places_bound : goal.least_named-j-requires-clause-places_bound
least_named-j-requires-clause-places_bound c =
    let some = some-leads _ _ _ _ _ c.requires.tried.1 c.requires.i_value in
    let left = c.loop-left.invariant.middles in
    (left.few, left-some _ _ _ left some)

pub leads_on-requires-clause-j_bound : goal.leads_on-requires-clause-j_bound
leads_on-requires-clause-j_bound c =
    let named = c.least_named-j.ensures in
    (named.there, c.loop-left.invariant.middles.people _ named.member)

pub returns-then-leads_on : goal.returns-then-leads_on
returns-then-leads_on c =
    let (leading, remembered) = c.leads_on.ensures in
    (least-leads _ _ _ c.loop-left.invariant.middles _ c.least_named-j.ensures (sym leading ∙ c.if-leads_on.true), remembered)

pub overflow_shl-left : goal.overflow_shl-left
overflow_shl-left c = omega (arith, below-most c.requires.searchable.well_formed _ c.least_named-j.ensures.there)

pub loop-left-smaller : goal.loop-left-smaller
loop-left-smaller c =
    let near : c.least_named-j.result < 32 =
    omega (arith, below-most c.requires.searchable.well_formed _ c.least_named-j.ensures.there) in
    left_less _ _ _ c.loop-left.invariant.middles _ c.least_named-j.ensures _ (one_bit 32 _ near)

pub loop-left-preserved : goal.loop-left-preserved
loop-left-preserved c =
    let near : c.least_named-j.result < 32 =
    omega (arith, below-most c.requires.searchable.well_formed _ c.least_named-j.ensures.there) in
    let (leading, remembered) = c.leads_on.ensures in
    record {
      middles =
          left-next _ _ _ c.loop-left.invariant.middles _ c.least_named-j.ensures (sym leading ∙ c.if-leads_on.false) _
          (one_bit 32 _ near);
      remembered = remembered;
    }

pub least_named-requires-clause-places_bound : goal.least_named-requires-clause-places_bound
least_named-requires-clause-places_bound c =
    let some = some-leads _ _ _ _ _ c.requires.tried.1 c.requires.i_value in
    let left = c.loop-left.invariant.middles in
    (left.few, left-some _ _ _ left some)

pub returns : goal.returns
returns c =
    let some = some-leads _ _ _ _ _ c.requires.tried.1 c.requires.i_value in
    let left = c.loop-left.invariant in
    (only-leads _ _ _ left.middles _ c.least_named.ensures some c.loop-left-test.false, left.remembered)
