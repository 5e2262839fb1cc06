-- What each call asks, and what is known at each return: the steps of the search (proofs/Below.antt, Trying.antt and Answering.antt).
use Rattle.std.proofs.Common.{◌≡◌, ◌∙◌, ◌-◌, ◌<◌, ap, ℕ, suc, Bool, List, get_or, length, length-set, refl, sym, arith, rules}
use Rattle.sets.specs.Logic.{◌and◌}
use Rattle.sets.specs.Sets.{in_set}
use Rattle.sets.proofs.Tests.{failed, passed}
use Rattle.sets.proofs.Members.{meets-common, part-le}
use Rattle.table.specs.declared.Kind.TheVariants.{SimpleMembership, SimpleContainment, LinkingContainment, IntersectionContainment}
use Rattle.table.specs.Layout.{credential, credentials}
use Rattle.table.proofs.Reading as table
use Rattle.table.specs.Limits.{most_automata, most_credentials}
use Rattle.members.specs.Members.{asked_cell, lesser, link_cell, row_cell}
use Rattle.members.specs.Places.{is_person}
use Rattle.members.proofs.ByKind.{roles-few}
use Rattle.search.specs.Search.{Searchable, Tried}
use Rattle.search.proofs.Placing.{cell-roles, kind-other, kind-read, numbered, row_fits, searched-fewer}
use Rattle.search.proofs.Failing.{remembered-more}
use Rattle.search.proofs.Judging.{judged-failed, judged-never, judged-same, no-sets, none-covered}
use Rattle.search.proofs.Leaving.{dead-tried}
use Rattle.search.proofs.Trying.{Middle, all-proved, part-failed, part-proved, part-repeated, parts-unlisted, stands-first}
use Rattle.search.proofs.Trying.{stands-part, stands-second}
use Rattle.search.proofs.Below.{goal-again, goal-known, goal-less, goal-unlisted, link-finds, link-next, link-skipped}
use Rattle.search.proofs.Below.{opened, sought-enough, sought-judged, sought-moved, tried-all, tried-finds, tried-next, tried-none}
use Rattle.search.proofs.Below.{tried-unused}
use Rattle.search.proofs.Answering.{imposed-demanded, later-next, linked-all}
use Rattle.search.proofs.Answering.{linked-enough, links-none, none-fails, none-owed, none_below, roles-stand, same-judged}
use Rattle.search.proofs.Answering.{second-decides, shared-end, shared-failed, shared-next, word-judged, zero-failed}
use Rattle.search.proofs.Answering.{zero-passes, zero-proved}
use Rattle.search.proofs.Pairs.{roles-length}
use Rattle.search.proofs.seeking.+seek.Goals as goal
use Rattle.search.proofs.seeking.+seek.Goals.{definers_search-then-may_use+else-is_enough, definers_search-else-may_use}
use Rattle.search.proofs.seeking.+seek.Goals.{linked_search-then-is_middle+else-has, linked_search-else-is_middle}
use Rattle.search.proofs.seeking.+seek.Goals.{parts_search-then-not-is_asked_before+else-is_none, parts_search-else-not-is_asked_before}

-- a goal
pub goal_search-returns-then-not-may_be_proved : goal.goal_search-returns-then-not-may_be_proved
goal_search-returns-then-not-may_be_proved t c =
    let pre = c.requires in (
      judged-never c.failed.ensures.0 (c.failed.ensures.1 ∙ c.nothing.ensures) (λ X owed b.
          goal-unlisted _ _ _ _ _ _ _ _ pre.stands pre.searchable (failed c.may_be_proved.ensures c.if-not-may_be_proved.true) X b),
      pre.remembered,
    )

pub goal_search-has-requires : goal.goal_search-has-requires
goal_search-has-requires t c =
    let may = opened c.requires.searchable c.requires.stands c.may_be_proved.ensures c.if-not-may_be_proved.false in
    (may.few-persons, may.few-places)

pub goal_search-with-requires : goal.goal_search-with-requires
goal_search-with-requires t c =
    let may = opened c.requires.searchable c.requires.stands c.may_be_proved.ensures c.if-not-may_be_proved.false in
    (may.few-persons, may.few-places)

pub goal_search-returns-then-has : goal.goal_search-returns-then-has
goal_search-returns-then-has t c =
    let pre = c.requires in
    let may = opened pre.searchable pre.stands c.may_be_proved.ensures c.if-not-may_be_proved.false in
    let again = goal-again _ _ _ _ _ _ _ _ pre.stands may _ (sym c.has.ensures ∙ c.if-has.true) in
    let blocking-is = c.failed-then-has.ensures.1 ∙ rw c.nothing-then-has.ensures at c.with.ensures in
    (rw blocking-is (judged-failed c.failed-then-has.ensures.0 (again 0).0 (λ X owed. (again X).1)), pre.remembered)

pub goal_search-slot-slot-requires-clause-person_lt_most_credentials : goal.goal_search-slot-slot-requires-clause-person_lt_most_credentials
goal_search-slot-slot-requires-clause-person_lt_most_credentials t c =
    let may = opened c.requires.searchable c.requires.stands c.may_be_proved.ensures c.if-not-may_be_proved.false in
    (may.few-persons, may.few-places)

pub goal_search-returns-then-is_none : goal.goal_search-returns-then-is_none
goal_search-returns-then-is_none t c =
    let (covered, bounds) = c.recalled-known.ensures _ _ _ c.requires.remembered in
    let none = no-sets _ _ c.is_none.ensures c.if-is_none.true in (
      rw c.failed-then-is_none.ensures.1
          (judged-failed c.failed-then-is_none.ensures.0 covered (λ X owed. bounds X owed (none-covered _ none X))),
      c.requires.remembered,
    )

pub goal_search-overflow_sub-below : goal.goal_search-overflow_sub-below
goal_search-overflow_sub-below t c =
    let may = opened c.requires.searchable c.requires.stands c.may_be_proved.ensures c.if-not-may_be_proved.false in
    omega (arith, may.left)

pub goal_search-with-requires-2 : goal.goal_search-with-requires-2
goal_search-with-requires-2 t c =
    let may = opened c.requires.searchable c.requires.stands c.may_be_proved.ensures c.if-not-may_be_proved.false in
    (may.few-persons, may.few-places)

pub goal_search-definers_search-answer-requires : goal.goal_search-definers_search-answer-requires
goal_search-definers_search-answer-requires t c =
    let pre = c.requires in
    let may = opened pre.searchable pre.stands c.may_be_proved.ensures c.if-not-may_be_proved.false in
    (omega (arith, may.left), (searched-fewer _ (omega arith) pre.searchable, ((pre.stands, may.there), pre.remembered)))

pub goal_search-returns-then-is_part : goal.goal_search-returns-then-is_part
goal_search-returns-then-is_part t c =
    let pre = c.requires in
    let may = opened pre.searchable pre.stands c.may_be_proved.ensures c.if-not-may_be_proved.false in
    let new = sym c.has.ensures ∙ c.if-has.false in
    let (covered, bounds) = c.recalled-known.ensures _ _ _ pre.remembered in
    let (sought, now-remembered) = c.definers_search-answer.ensures in (
      goal-known _ _ _ _ _ _ _ _ pre.stands may new (rw c.with-2.ensures at sought) covered bounds c.is_part.ensures c.if-is_part.true,
      now-remembered,
    )

pub goal_search-without-blocking-requires : goal.goal_search-without-blocking-requires
goal_search-without-blocking-requires t c =
    let may = opened c.requires.searchable c.requires.stands c.may_be_proved.ensures c.if-not-may_be_proved.false in
    (may.few-persons, may.few-places)

pub goal_search-keep-requires-clause-person_lt_most_credentials : goal.goal_search-keep-requires-clause-person_lt_most_credentials
goal_search-keep-requires-clause-person_lt_most_credentials t c =
    let may = opened c.requires.searchable c.requires.stands c.may_be_proved.ensures c.if-not-may_be_proved.false in
    (may.few-persons, (may.few-places, c.requires.searchable.shallow))

pub goal_search-returns : goal.goal_search-returns
goal_search-returns t c =
    let pre = c.requires in
    let may = opened pre.searchable pre.stands c.may_be_proved.ensures c.if-not-may_be_proved.false in
    let new = sym c.has.ensures ∙ c.if-has.false in
    let wide : length c.args.spot.above.persons ≡ most_credentials = search rules in
    let eight : length c.args.spot.states.sets ≡ most_automata = search rules in
    let (sought, now-remembered) = c.definers_search-answer.ensures in
    let less = goal-less _ _ _ _ _ _ _ _ pre.stands may new (rw c.with-2.ensures at sought) wide _ c.without-blocking.ensures
    c.is_part.ensures c.if-is_part.false in
    (less, remembered-more _ _ _ _ now-remembered c.keep.ensures eight less.bounds)

-- the credentials that define its role
pub definers_search-returns-then-any_dead : goal.definers_search-returns-then-any_dead
definers_search-returns-then-any_dead t c =
    let (k, imposed, dead) = meets-common _ _ (sym c.any_dead.ensures ∙ c.if-any_dead.true) in (
      sought-moved _ _ _ _ _ _ _ _ c.stepped-moved.ensures
          (sought-judged (judged-never c.failed.ensures.0 (c.failed.ensures.1 ∙ c.nothing.ensures) (λ X owed b.
          dead-tried _ _ _ _ _ _ c.stepped-moved.ensures X (part-le X _ owed) k (imposed-demanded _ X k imposed) dead _ b _))),
      c.requires.remembered,
    )

pub definers_search-loop-i-init : goal.definers_search-loop-i-init
definers_search-loop-i-init t c =
    let (stands, there) = c.requires.stands in
    record {
      judged = tried-none c.requires.searchable.indexed stands there _ _ _ _ _ c.none-found.ensures c.nothing-blocking.ensures;
      remembered = c.requires.remembered;
    }

pub definers_search-returns-then-is_enough : goal.definers_search-returns-then-is_enough
definers_search-returns-then-is_enough t c =
    let (stands, there) = c.requires.stands in
    let (own, now-remembered) = c.credential_search-answer.ensures in
    let finds = tried-finds c.requires.searchable.indexed stands there _ _ _ _ _ _
    (omega (arith, c.loop-i-test.true, c.credentials-i-end.ensures.same)) c.may_use.ensures c.if-may_use.true c.or-found.ensures
    c.loop-i.invariant.judged.finds own.finds in (
      sought-moved _ _ _ _ _ _ _ _ c.stepped-moved.ensures
          (sought-enough _ _ _ _ c.requires.remembered.few _ _ _ _ c.stepped-moved.ensures c.left_owed-most.ensures c.is_enough.ensures
          c.if-is_enough.true finds c.nothing-then-is_enough.ensures),
      now-remembered,
    )

pub definers_search-loop-i-preserved : goal.definers_search-loop-i-preserved
definers_search-loop-i-preserved t c =
    let (stands, there) = c.requires.stands in
    let indexed = c.requires.searchable.indexed in
    let so_far = c.loop-i.invariant in
    let next : c.loop-i.i < credentials c.args.ground.now.table.now = omega (arith, c.loop-i-test.true, c.credentials-i-end.ensures.same) in
    elim c.if-may_use.branch [
      | definers_search-then-may_use+else-is_enough w ↦
          record {
            judged = rw (w.found-is, w.blocking-is)
                (tried-next indexed stands there _ _ _ _ _ _ next c.may_use.ensures w.if-may_use.true
                w.or-found.ensures w.joined-blocking.ensures so_far.judged w.credential_search-answer.ensures.0);
            remembered = rw w.memory-is w.credential_search-answer.ensures.1;
          }
      | definers_search-else-may_use w ↦
          record {
            judged = rw (w.found-is, w.blocking-is)
                (tried-unused indexed stands there _ _ _ _ _ _ next c.may_use.ensures w.if-may_use.false so_far.judged);
            remembered = rw w.memory-is so_far.remembered;
          }
    ]

pub definers_search-returns : goal.definers_search-returns
definers_search-returns t c =
    let (stands, there) = c.requires.stands in (
      sought-moved _ _ _ _ _ _ _ _ c.stepped-moved.ensures
          (sought-judged (tried-all c.requires.searchable.indexed stands there _ _ _ _ _ _
          (omega (arith, c.loop-i-test.false, c.credentials-i-end.ensures.same)) c.loop-i.invariant.judged)),
      c.loop-i.invariant.remembered,
    )

-- a credential
pub credential_search-returns-in-Ok-SimpleMembership : goal.credential_search-returns-in-Ok-SimpleMembership
credential_search-returns-in-Ok-SimpleMembership t c =
    let pre = c.requires in
    let arm = c.in-Ok-SimpleMembership in
    let kind = kind-read _ _ _ c.credential-credential.ensures 1 (table.kind-read arm.ensures arm.field-0-is) in (
      word-judged pre.searchable pre.tried kind _ _ pre.remembered.few _ c.ends_word.ensures c.nothing.ensures,
      pre.remembered,
    )

pub credential_search-returns-in-Err : goal.credential_search-returns-in-Err
credential_search-returns-in-Err t c =
    let no = c.in-Err.ensures in (
      judged-never c.failed.ensures.0 (c.failed.ensures.1 ∙ c.nothing-in-Err.ensures) (λ X owed b.
          sym (kind-other _ _ _ c.credential-credential.ensures _ _ _ (no SimpleMembership) (no SimpleContainment)
          (no LinkingContainment) (no IntersectionContainment))),
      c.requires.remembered,
    )

-- the parts of a credential of kind 2 or 4
pub parts_search-returns-then-not-are_listed : goal.parts_search-returns-then-not-are_listed
parts_search-returns-then-not-are_listed t c =
    let pre = c.requires in (
      judged-never c.failed.ensures.0 (c.failed.ensures.1 ∙ c.nothing.ensures) (λ X owed b.
          parts-unlisted pre.searchable pre.tried pre.fact _ _ b _ X c.are_listed.ensures c.if-not-are_listed.true),
      pre.remembered,
    )

pub parts_search-shared_search-requires : goal.parts_search-shared_search-requires
parts_search-shared_search-requires t c =
    let pre = c.requires in
    let pairs = c.as_slice.ensures ∙ c.roles_asked-asked.ensures in
    let few = (roles-few _ pre.searchable.well_formed _ (numbered pre.searchable pre.tried) pre.fact).1 in
    let count = ap length pairs ∙ roles-length _ _ _ _ _ in (
      omega arith,
      (pre.searchable, ((omega arith, rw pairs (roles-stand pre.searchable pre.tried pre.fact _ few)), pre.remembered)),
    )

pub parts_search-returns-then-ground-gt0 : goal.parts_search-returns-then-ground-gt0
parts_search-returns-then-ground-gt0 t c =
    let pre = c.requires in
    let (judged, now-remembered) = c.shared_search.ensures in (
      judged-same (λ X b. sym (cell-roles pre.searchable pre.tried _ _ b _ X pre.fact)) (rw (c.as_slice.ensures, c.roles_asked-asked.ensures) at judged),
      now-remembered,
    )

pub parts_search-loop-k-init : goal.parts_search-loop-k-init
parts_search-loop-k-init t c = record { none-missed = none_below _; remembered = c.requires.remembered }

pub parts_search-goal_search-answer-requires : goal.parts_search-goal_search-answer-requires
parts_search-goal_search-answer-requires t c =
    let pre = c.requires in
    let stands = stands-part pre.searchable pre.tried pre.fact _ c.loop-k-test.true _ c.asked_cell-place.ensures.0 in
    (omega arith, (pre.searchable, (stands, c.loop-k.invariant.remembered)))

pub parts_search-returns-then-is_none : goal.parts_search-returns-then-is_none
parts_search-returns-then-is_none t c =
    let pre = c.requires in
    let unowed = none-owed c.if-ground-gt0.false in
    let (judged, now-remembered) = c.goal_search-answer.ensures in
    let fails = none-fails judged c.is_none.ensures c.if-is_none.true in (
      rw c.failed-then-is_none.ensures.1 (zero-failed unowed c.failed-then-is_none.ensures.0 judged.covered (λ b wide covers.
          part-failed pre.searchable pre.tried pre.fact _ _ unowed b _ _ _ c.loop-k-test.true c.asked_cell-place.ensures.0
          (fails b wide covers))),
      now-remembered,
    )

pub parts_search-loop-k-preserved : goal.parts_search-loop-k-preserved
parts_search-loop-k-preserved t c =
    let pre = c.requires in
    let unowed = none-owed c.if-ground-gt0.false in
    let so_far = c.loop-k.invariant in
    elim c.if-not-is_asked_before.branch [
      | parts_search-then-not-is_asked_before+else-is_none w ↦
          record {
            none-missed = part-proved pre.searchable pre.tried pre.fact _ _ unowed _ _ _ _ w.asked_cell-place.ensures.0
                (zero-passes unowed w.goal_search-answer.ensures.0 w.is_none.ensures w.if-is_none.false) so_far.none-missed;
            remembered = rw w.memory-is w.goal_search-answer.ensures.1;
          }
      | parts_search-else-not-is_asked_before w ↦
          record {
            none-missed = part-repeated pre.searchable pre.tried pre.fact _ _ unowed _ _ _ so_far.none-missed
                (passed c.is_asked_before.ensures w.if-not-is_asked_before.false);
            remembered = rw w.memory-is so_far.remembered;
          }
    ]

pub parts_search-returns : goal.parts_search-returns
parts_search-returns t c =
    let pre = c.requires in
    let unowed = none-owed c.if-ground-gt0.false in (
      zero-proved unowed c.proved.ensures.0 c.proved.ensures.1
          (all-proved pre.searchable pre.tried pre.fact _ _ unowed _ _ _ (omega (arith, c.loop-k-test.false)) c.loop-k.invariant.none-missed),
      c.loop-k.invariant.remembered,
    )

-- the middles of a credential of kind 3
middle_at : {table index arcs rows : List ℕ} {S levels last person i row j first second : ℕ} {told : Bool}
    → Searchable table index arcs rows S levels last → Tried table person i → (credential table (suc i)).kind ≡ 3
    → j < credentials table → row ≡ lesser levels last → first ≡ get_or index (asked_cell i 0) 0
    → second ≡ get_or index (link_cell i j) 0
    → told ≡ (in_set (get_or rows (row_cell row first) 0) j and in_set (get_or rows (row_cell row second) 0) person and is_person table j)
    → Middle table index arcs rows S levels last person i row j first second told
middle_at searched tried kind there row_is first-is second_is told_is =
    record {
      searched = searched;
      tried = tried;
      kind = kind;
      there = there;
      row_is = row_is;
      first-is = first-is;
      second_is = second_is;
      told_is = told_is;
    }

pub linked_search-loop-j-init : goal.linked_search-loop-j-init
linked_search-loop-j-init t c =
    record {
      judged = links-none _ c.args.ground.now.index.now _ _ _ _ c.args.person c.args.i _ c.none-found.ensures c.nothing-blocking.ensures;
      remembered = c.requires.remembered;
    }

pub linked_search-is_middle-requires-clause-rows_len : goal.linked_search-is_middle-requires-clause-rows_len
linked_search-is_middle-requires-clause-rows_len t c =
    let members = c.requires.searchable.members in
    (members.room, row_fits members c.row_of-row.ensures)

pub linked_search-link_search-link-requires : goal.linked_search-link_search-link-requires
linked_search-link_search-link-requires t c =
    let pre = c.requires in
    let middle = middle_at pre.searchable pre.tried pre.i_value (omega (arith, c.loop-j-test.true, c.credentials-j-end.ensures.same))
    c.row_of-row.ensures c.asked_cell-first.ensures.0 c.link_cell-second.ensures.0 c.is_middle.ensures in
    let on = c.if-is_middle.true in
    (omega arith, (pre.searchable, ((stands-first middle on, stands-second middle on), c.loop-j.invariant.remembered)))

pub linked_search-returns-then-has : goal.linked_search-returns-then-has
linked_search-returns-then-has t c =
    let pre = c.requires in
    let (one, now-remembered) = c.link_search-link.ensures in
    let middle = middle_at pre.searchable pre.tried pre.i_value (omega (arith, c.loop-j-test.true, c.credentials-j-end.ensures.same))
    c.row_of-row.ensures c.asked_cell-first.ensures.0 c.link_cell-second.ensures.0 c.is_middle.ensures in
    let finds = link-finds middle _ _ _ c.if-is_middle.true c.or-found.ensures c.loop-j.invariant.judged.finds one.finds in (
      linked-enough pre.searchable pre.tried pre.i_value _ _ _ pre.remembered.few finds c.has.ensures c.if-has.true c.nothing.ensures,
      now-remembered,
    )

pub linked_search-loop-j-preserved : goal.linked_search-loop-j-preserved
linked_search-loop-j-preserved t c =
    let pre = c.requires in
    let so_far = c.loop-j.invariant in
    let middle = middle_at pre.searchable pre.tried pre.i_value (omega (arith, c.loop-j-test.true, c.credentials-j-end.ensures.same))
    c.row_of-row.ensures c.asked_cell-first.ensures.0 c.link_cell-second.ensures.0 c.is_middle.ensures in
    elim c.if-is_middle.branch [
      | linked_search-then-is_middle+else-has w ↦
          record {
            judged = rw (w.found-is, w.blocking-is)
                (link-next middle _ _ _ w.if-is_middle.true w.or-found.ensures w.joined-blocking.ensures so_far.judged
                w.link_search-link.ensures.0);
            remembered = rw w.memory-is w.link_search-link.ensures.1;
          }
      | linked_search-else-is_middle w ↦
          record {
            judged = rw (w.found-is, w.blocking-is) (link-skipped middle _ _ _ w.if-is_middle.false so_far.judged);
            remembered = rw w.memory-is so_far.remembered;
          }
    ]

pub linked_search-returns : goal.linked_search-returns
linked_search-returns t c =
    let pre = c.requires in (
      linked-all pre.searchable pre.tried pre.i_value _ _ _ _
          (omega (arith, c.loop-j-test.false, c.credentials-j-end.ensures.same)) c.loop-j.invariant.judged,
      c.loop-j.invariant.remembered,
    )

pub link_search-returns-then-is_none : goal.link_search-returns-then-is_none
link_search-returns-then-is_none t c =
    let (judged, now-remembered) = c.goal_search-answer.ensures in
    let fails = none-fails judged c.is_none.ensures c.if-is_none.true in (
      rw c.failed.ensures.1 (shared-failed _ _ _ _ _ _ _ 0 (omega arith) c.failed.ensures.0 judged.covered fails),
      now-remembered,
    )

pub link_search-returns : goal.link_search-returns
link_search-returns t c =
    let unowed = c.if-ground-ne0.false in
    let (judged, now-remembered) = c.goal_search.ensures in
    let is = zero-passes unowed c.goal_search-answer.ensures.0 c.is_none.ensures c.if-is_none.false in
    (second-decides _ _ _ _ _ _ unowed _ _ is judged, now-remembered)

-- the goals that a credential asks
pub asked_search-returns-in-Some : goal.asked_search-returns-in-Some
asked_search-returns-in-Some t c =
    let pre = c.requires in
    (same-judged _ _ _ _ _ _ _ _ _ c.in-Some.ensures c.args.each.now pre.later_judged.1, pre.remembered)

pub shared_search-loop-k-init : goal.shared_search-loop-k-init
shared_search-loop-k-init t c =
    record {
      room = refl;
      judged = shared-end _ _ _ _ _ _ c.args.asked.now c.only-found.ensures c.nothing-blocking.ensures;
      later = λ j from there. absurd (omega arith);
      remembered = c.requires.remembered;
    }

pub shared_search-asked_search-answer-requires : goal.shared_search-asked_search-answer-requires
shared_search-asked_search-answer-requires t c =
    let pre = c.requires in
    let so_far = c.loop-k.invariant in
    let next : suc (c.loop-k.k - 1) ≡ c.loop-k.k = omega arith in
    (omega arith, (pre.searchable, (pre.stand, ((omega arith, rw next so_far.later), so_far.remembered))))

pub shared_search-returns-then-is_none : goal.shared_search-returns-then-is_none
shared_search-returns-then-is_none t c =
    let (judged, now-remembered) = c.asked_search-answer.ensures in
    let fails = none-fails judged c.is_none.ensures c.if-is_none.true in (
      rw c.failed.ensures.1 (shared-failed _ _ _ _ _ _ _ _ (omega arith) c.failed.ensures.0 judged.covered fails),
      now-remembered,
    )

pub shared_search-loop-k-preserved : goal.shared_search-loop-k-preserved
shared_search-loop-k-preserved t c =
    let so_far = c.loop-k.invariant in
    let (one, now-remembered) = c.asked_search-answer.ensures in
    let few = c.requires.stand.0 in
    let next : suc (c.loop-k.k - 1) ≡ c.loop-k.k = omega arith in
    record {
      room = length-set c.loop-k.each _ _ ∙ so_far.room;
      judged = shared-next _ _ _ _ _ _ c.args.asked.now (c.loop-k.k - 1) (omega arith) {blocking' = c.loop-k.blocking} c.joined.ensures
          c.trimmed-found.ensures c.joined-blocking.ensures one (rw next so_far.judged);
      later = later-next _ _ _ _ _ _ c.args.asked.now (c.loop-k.k - 1) c.loop-k.each (omega arith) c.joined-blocking.ensures
          one.covered so_far.judged.covered one (rw next so_far.later);
      remembered = now-remembered;
    }

pub shared_search-returns : goal.shared_search-returns
shared_search-returns t c =
    let so_far = c.loop-k.invariant in
    let none : c.loop-k.k ≡ 0 = omega arith in
    (rw none at so_far.judged, so_far.remembered)
