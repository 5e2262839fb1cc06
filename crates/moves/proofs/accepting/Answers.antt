-- Those of the eight automata that have an accepting state, by the index's accepting sets.
use mathlib.Core.Path.{◌∙◌, refl}
use Rattle.std.proofs.Common.{rules}
use Rattle.sets.specs.Sets.{meets}
use Rattle.table.proofs.Reading.{not-number}
use Rattle.moves.proofs.Arcs.{accepting-in, accepts_in, index-whole}
use Rattle.moves.proofs.accepting.Goals as goal

pub returns : goal.returns
unfolding meets
returns c =
    let whole = index-whole c.requires.arcs.room (not-number c.is_empty.ensures c.if-is_empty.false) in
    c.those.ensures (accepts_in c.args.arcs.now c.args.states) (λ k less told is. search rules)
    ∙ accepting-in _ c.requires.well_formed c.requires.arcs whole _ refl
