-- `attached::marked` meets its contract: each automaton of the table is asked, and there are no more than eight. Assumes nothing.
use Rattle.std.proofs.Common.{rules, ◌∙◌}
use Rattle.attached.proofs.Attaching.{is_marked, marked_all}
use Rattle.attached.proofs.marked.Goals as goal

pub returns : goal.returns
returns c =
    c.those.ensures (is_marked c.args.table.now c.args.set) (λ k less told is. search rules)
    ∙ marked_all _ _ _ c.automata.ensures.same
