-- Automaton by automaton, its accepting set.
use Rattle.std.proofs.Common.{arith}
use Rattle.automata.proofs.Written.{written-more, written_none}
use Rattle.arcs.proofs.Beginning.{begun_all, begun-whole}
use Rattle.arcs.proofs.begin.Goals as goal

pub loop-k-init : goal.loop-k-init
loop-k-init c = written_none _ _

pub loop-k-preserved : goal.loop-k-preserved
loop-k-preserved c =
    let so_far = c.loop-k.invariant in
    let whole = begun-whole c.requires.arcs_value so_far in
    written-more _ _ so_far (omega (arith, whole, so_far.size)) (rw (c.states.ensures, c.automaton-automaton.ensures))

pub returns : goal.returns
returns c = begun_all _ _ _ _ c.requires.well_formed c.requires.arcs_value (omega arith) c.loop-k.invariant
