-- The closure tells of a principal whether the row has it as a middle.
use Rattle.std.proofs.Common.{ap, get_or, rules, ◌∙◌}
use Rattle.sets.specs.Logic.{◌and◌}
use Rattle.sets.specs.Sets.{in_set, set_of}
use Rattle.members.specs.Members.{asked_cell, link_cell, row_cell}
use Rattle.members.specs.Places.{is_person}
use Rattle.choice.specs.Choice.{listed_middles}
use Rattle.choice.proofs.middles.listed_middles.Goals as goal

pub returns : goal.returns
unfolding listed_middles
returns c =
    let g = c.args.ground.now in
    c.those.ensures (λ j. in_set (get_or g.rows.now (row_cell c.args.row (get_or g.index.now (asked_cell c.args.i 0) 0)) 0) j
    and in_set (get_or g.rows.now (row_cell c.args.row (get_or g.index.now (link_cell c.args.i j) 0)) 0) c.args.person
    and is_person g.table.now j) (λ j less told is. search rules)
    ∙ ap (set_of _) c.credentials.ensures.same
