-- `attached::automata_of` meets its contract: one credential more has its automaton added, where it is in the set. Assumes nothing.
use Rattle.std.proofs.Common.{arith, refl, ◌∙◌, ◌≡◌}
use Rattle.table.specs.Layout.{credentials}
use Rattle.attached.specs.Attached.{automata_of, automata_up_to}
use Rattle.attached.proofs.Attaching.{automata-next, automaton-few}
use Rattle.attached.proofs.automata_of.Goals as goal

pub loop-i-init : goal.loop-i-init
unfolding automata_up_to
loop-i-init c = refl

pub with_automaton-mask-requires : goal.with_automaton-mask-requires
with_automaton-mask-requires c = automaton-few _ c.requires _ (omega arith) _ c.credential-credential.ensures

pub loop-i-preserved : goal.loop-i-preserved
loop-i-preserved c =
    c.with_automaton-mask.ensures ∙ automata-next _ _ _ c.has.ensures c.credential-credential.ensures c.loop-i.invariant

pub returns : goal.returns
unfolding automata_of
returns c =
    let all : c.loop-i.i ≡ credentials c.args.table.now = omega arith in
    rw all at c.loop-i.invariant
