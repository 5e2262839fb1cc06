-- `settling::without` meets its contract: each credential is asked. Assumes nothing.
use Rattle.std.proofs.Common.{rules, ap, ◌∙◌}
use Rattle.sets.specs.Logic.{◌and◌}
use Rattle.sets.specs.Sets.{set_of}
use Rattle.attached.proofs.Attaching.{automaton-few}
use Rattle.settling.specs.Settling.{without_all}
use Rattle.settling.proofs.Leaving.{stays}
use Rattle.settling.proofs.without.Goals as goal

pub returns : goal.returns
unfolding without_all ◌and◌
returns c =
    c.those.ensures (stays c.args.table.now c.args.set c.args.automata) (λ i less told is. search rules)
    ∙ ap (set_of _) c.credentials.ensures.same

pub those-requires-clause-callable : goal.those-requires-clause-callable
those-requires-clause-callable c i less = search (rules, automaton-few)
