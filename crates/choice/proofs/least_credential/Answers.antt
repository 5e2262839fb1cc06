-- A credential that may be used is tried, and is the least where it proves the goal; the last needs no search.
use Rattle.std.proofs.Common.{◌≡◌, ◌<◌, arith, length, refl, rules}
use Rattle.sets.specs.Logic.{any_below}
use Rattle.table.specs.Limits.{most_credentials}
use Rattle.table.specs.Layout.{credentials}
use Rattle.search.proofs.Judging.{judged-told}
use Rattle.choice.proofs.Candidates.{chosen-here, chosen_last, next-failed, next-skipped, passes-here, tried-at}
use Rattle.choice.proofs.Wanting.{own-wanted}
use Rattle.choice.proofs.least_credential.Goals.{then-may_use+else-meets, else-may_use}
use Rattle.choice.proofs.least_credential.Goals as goal

pub last_usable-last-requires-clause-n_nonzero : goal.last_usable-last-requires-clause-n_nonzero
last_usable-last-requires-clause-n_nonzero c =
    let n = c.credentials.ensures in
    (omega (arith, n.same, c.requires.stands.1), n.few)

pub loop-i-init : goal.loop-i-init
unfolding any_below
loop-i-init c = record { none = refl; remembered = c.requires.remembered }

pub credential_search-answer-requires-clause-tried : goal.credential_search-answer-requires-clause-tried
credential_search-answer-requires-clause-tried c = tried-at c.requires.stands.0 _ (omega (arith, c.last_usable-last.ensures.few))

pub returns-then-meets : goal.returns-then-meets
returns-then-meets c =
    let pre = c.requires in
    let there : c.loop-i.i < credentials c.args.ground.now.table.now = omega (arith, c.last_usable-last.ensures.few) in
    let wide : length c.args.spot.above.persons ≡ most_credentials = search rules in
    let (judged, remembered) = c.credential_search-answer.ensures in
    let proved = own-wanted _ _ _ _ _ _ _ _ pre.wanted (judged-told wide judged) c.meets.ensures in (
      chosen-here pre.searchable.indexed pre.stands.0 pre.stands.1 _ _ _ _ there c.loop-i.invariant.none
          (passes-here pre.searchable.indexed pre.stands.0 pre.stands.1 _ _ _ _ there c.may_use.ensures c.if-may_use.true proved
          c.if-meets.true),
      remembered,
    )

pub loop-i-preserved : goal.loop-i-preserved
loop-i-preserved c =
    let pre = c.requires in
    let there : c.loop-i.i < credentials c.args.ground.now.table.now = omega (arith, c.last_usable-last.ensures.few) in
    let wide : length c.args.spot.above.persons ≡ most_credentials = search rules in
    let so_far = c.loop-i.invariant in
    elim c.if-may_use.branch [
      | then-may_use+else-meets w ↦
          let (judged, remembered) = w.credential_search-answer.ensures in
          let proved = own-wanted _ _ _ _ _ _ _ _ pre.wanted (judged-told wide judged) w.meets.ensures in
          record {
            none =
                next-failed pre.searchable.indexed pre.stands.0 pre.stands.1 _ _ _ _ there c.may_use.ensures w.if-may_use.true
                proved so_far.none w.if-meets.false;
            remembered = rw w.memory-is remembered;
          }
      | else-may_use w ↦
          record {
            none =
                next-skipped pre.searchable.indexed pre.stands.0 pre.stands.1 _ _ _ _ there c.may_use.ensures so_far.none
                w.if-may_use.false;
            remembered = rw w.memory-is so_far.remembered;
          }
    ]

pub returns : goal.returns
returns c =
    let pre = c.requires in
    let so_far = c.loop-i.invariant in (
      chosen_last pre.searchable.indexed pre.stands.0 pre.stands.1 _ _ _ _ _ _ c.credentials.ensures.same
          c.last_usable-last.ensures (omega arith) so_far.none pre.table_value,
      so_far.remembered,
    )
