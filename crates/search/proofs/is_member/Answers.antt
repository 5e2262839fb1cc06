-- The row of the query's depth tells; no index of arcs is needed for that.
use Rattle.std.proofs.Common.{◌<◌, arith, refl, []}
use Rattle.table.specs.Layout.{credentials}
use Rattle.moves.proofs.Arcs.{no-arcs}
use Rattle.search.proofs.Starting.{goal-listed, goal-unnamed, prepared-by}
use Rattle.search.proofs.is_member.Goals as goal

pub returns-then-credentials-person : goal.returns-then-credentials-person
returns-then-credentials-person c =
    let prepared = prepared-by c.requires.well_formed c.requires.indexed (no-arcs _ [] refl) in
    goal-unnamed prepared c.goal_person-person.ensures.0 _ _ _ c.requires.members
    (omega (arith, c.if-credentials-person.true, c.credentials.ensures.same))

pub returns : goal.returns
returns c =
    let prepared = prepared-by c.requires.well_formed c.requires.indexed (no-arcs _ [] refl) in
    let there : c.goal_person-person.result < credentials c.args.table.now = omega (arith, c.if-credentials-person.false, c.credentials.ensures.same) in
    goal-listed prepared c.goal_person-person.ensures.0 there c.goal_role-place.ensures.0 _ _ c.wide-levels.ensures.0
    c.requires.members c.may_be_proved.ensures
