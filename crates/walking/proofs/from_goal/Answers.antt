-- The walk begins at the places of the query's principal and role, below no branch.
use Rattle.search.proofs.Starting.{goal-searched}
use Rattle.walking.proofs.Beginning.{begins-stands, begins-suits, begins-there, begins-walked, begins-wanted}
use Rattle.walking.proofs.Later.{wants-family}
use Rattle.walking.proofs.from_goal.Goals as goal

pub walk-walked-requires-clause-searchable : goal.walk-walked-requires-clause-searchable
walk-walked-requires-clause-searchable c = goal-searched c.args.request.now.prepared c.wide.ensures.0 c.requires.members

pub walk-walked-requires-clause-stands : goal.walk-walked-requires-clause-stands
walk-walked-requires-clause-stands c =
    let pre = c.requires in
    let who = c.goal_person.ensures.0 in
    let place = c.goal_role.ensures.0 in
    let few = pre.remembered.few in (
      begins-stands c.args.request.now.prepared pre.members _ _ few pre.owed_value who place,
      begins-there c.args.request.now.prepared pre.members _ _ few pre.owed_value who place,
    )

pub walk-walked-requires-clause-wanted : goal.walk-walked-requires-clause-wanted
walk-walked-requires-clause-wanted c =
    let pre = c.requires in
    wants-family (begins-wanted c.args.request.now.prepared pre.members _ _ pre.remembered.few pre.owed_value c.goal_person.ensures.0
    c.goal_role.ensures.0 _ c.only.ensures)

pub walk-walked-requires-clause-place_value : goal.walk-walked-requires-clause-place_value
walk-walked-requires-clause-place_value c =
    let pre = c.requires in
    rw c.nothing.ensures
    (begins-suits c.args.request.now.prepared pre.members _ _ pre.remembered.few pre.owed_value c.goal_person.ensures.0 c.goal_role.ensures.0 _
    c.only.ensures _ _ c.wide.ensures.0 c.start.ensures)

pub returns : goal.returns
returns c =
    let pre = c.requires in
    let (walks, now-remembered) = c.walk-walked.ensures in (
      begins-walked c.args.request.now.prepared pre.members _ _ pre.remembered.few pre.owed_value c.goal_person.ensures.0 c.goal_role.ensures.0 _
          c.only.ensures _ _ c.wide.ensures.0 c.start.ensures _ _ _ _ (rw c.nothing.ensures at walks.walked),
      now-remembered,
    )
