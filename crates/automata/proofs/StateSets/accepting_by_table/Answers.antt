-- Those of the table's automata that have an accepting state.
use mathlib.Core.Path.{◌∙◌, ap}
use Rattle.std.proofs.Common.{rules}
use Rattle.sets.specs.Sets.{meets, set_of}
use Rattle.automata.specs.Automata.{accepts_from}
use Rattle.automata.specs.Together.{accepting_set}
use Rattle.automata.proofs.Together.{accepts_at}
use Rattle.automata.proofs.StateSets.accepting_by_table.Goals as goal

pub returns : goal.returns
unfolding accepting_set accepts_from meets
returns c = c.those.ensures (accepts_at c.args.table.now c.args.self) (λ k less told is. search rules) ∙ ap (set_of _) c.automata.ensures.same
