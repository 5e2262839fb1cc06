-- The goal search begins at the places of the query's principal and role, with the members within the query's depth and a memory
-- that has nothing yet.
use Rattle.std.proofs.Common.{◌<◌, arith}
use Rattle.table.specs.Layout.{credentials}
use Rattle.members.proofs.Reading.{zeros}
use Rattle.failures.specs.Failures.{few_cells, memory_cells}
use Rattle.search.proofs.Failing.{remembered-none}
use Rattle.search.proofs.Starting.{goal-missing, goal-searched, goal-stands, goal-told, goal-unnamed, tells-nothing}
use Rattle.search.proofs.query_search.Goals as goal

pub returns-then-credentials-person : goal.returns-then-credentials-person
returns-then-credentials-person c =
    let pre = c.requires in
    tells-nothing _ _ _ _ _ _ c.none.ensures (λ X. goal-unnamed c.args.request.now.prepared c.goal_person-person.ensures.0 _ _ X pre.members
    (omega (arith, c.if-credentials-person.true, c.credentials.ensures.same)))

pub returns-then-not-may_be_proved : goal.returns-then-not-may_be_proved
returns-then-not-may_be_proved c =
    let pre = c.requires in
    let there : c.goal_person-person.result < credentials c.args.request.now.table.now = omega (arith, c.if-credentials-person.false, c.credentials.ensures.same) in
    tells-nothing _ _ _ _ _ _ c.none-then-not-may_be_proved.ensures
    (λ X. goal-missing c.args.request.now.prepared c.goal_person-person.ensures.0 there c.goal_role-place.ensures.0 _ _ c.wide-levels.ensures.0
    pre.members c.may_be_proved.ensures _ X c.if-not-may_be_proved.true)

pub from_start-requires-clause-searchable : goal.from_start-requires-clause-searchable
from_start-requires-clause-searchable c = goal-searched c.args.request.now.prepared c.wide-levels.ensures.0 c.requires.members

pub from_start-requires-clause-stands : goal.from_start-requires-clause-stands
from_start-requires-clause-stands c =
    let there : c.goal_person-person.result < credentials c.args.request.now.table.now = omega (arith, c.if-credentials-person.false, c.credentials.ensures.same) in
    goal-stands c.args.request.now.prepared c.goal_person-person.ensures.0 there c.goal_role-place.ensures.0

pub from_start-requires-clause-remembered : goal.from_start-requires-clause-remembered
from_start-requires-clause-remembered c = remembered-none _ _ _ _ c.requires.owed_lt_all_sets _ (omega arith) (zeros few_cells)

pub returns-then-is_small : goal.returns-then-is_small
returns-then-is_small c =
    let there : c.goal_person-person.result < credentials c.args.request.now.table.now = omega (arith, c.if-credentials-person.false, c.credentials.ensures.same) in
    goal-told c.args.request.now.prepared c.goal_person-person.ensures.0 there c.goal_role-place.ensures.0 _ _ _ _ c.wide-levels.ensures.0
    c.from_start.ensures

pub from_start-requires-2-clause-searchable : goal.from_start-requires-2-clause-searchable
from_start-requires-2-clause-searchable c = goal-searched c.args.request.now.prepared c.wide-levels.ensures.0 c.requires.members

pub from_start-requires-2-clause-stands : goal.from_start-requires-2-clause-stands
from_start-requires-2-clause-stands c =
    let there : c.goal_person-person.result < credentials c.args.request.now.table.now = omega (arith, c.if-credentials-person.false, c.credentials.ensures.same) in
    goal-stands c.args.request.now.prepared c.goal_person-person.ensures.0 there c.goal_role-place.ensures.0

pub from_start-requires-2-clause-remembered : goal.from_start-requires-2-clause-remembered
from_start-requires-2-clause-remembered c = remembered-none _ _ _ _ c.requires.owed_lt_all_sets _ (omega arith) (zeros memory_cells)

pub returns : goal.returns
returns c =
    let there : c.goal_person-person.result < credentials c.args.request.now.table.now = omega (arith, c.if-credentials-person.false, c.credentials.ensures.same) in
    goal-told c.args.request.now.prepared c.goal_person-person.ensures.0 there c.goal_role-place.ensures.0 _ _ _ _ c.wide-levels.ensures.0
    c.from_start-2.ensures
