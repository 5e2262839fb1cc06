-- Those of the table's automata that have no state.
use mathlib.Core.Path.{◌∙◌, ap}
use Rattle.std.proofs.Common.{rules}
use Rattle.sets.specs.Sets.{set_of}
use Rattle.automata.specs.Together.{dead_set}
use Rattle.automata.proofs.Together.{is_empty}
use Rattle.automata.proofs.StateSets.dead.Goals as goal

pub returns : goal.returns
unfolding dead_set
returns c = c.those.ensures (is_empty c.args.self) (λ k less told is. search rules) ∙ ap (set_of _) c.automata.ensures.same
