-- There are no more than eight automata, so there is room for each.
use Rattle.std.proofs.Common.{arith}
use Rattle.automata.proofs.Together.{started-all}
use Rattle.automata.proofs.Written.{written-more, written_none}
use Rattle.automata.proofs.StateSets.start.Goals as goal

pub loop-k-init : goal.loop-k-init
loop-k-init c = written_none _ _

pub loop-k-preserved : goal.loop-k-preserved
loop-k-preserved c = written-more _ _ c.loop-k.invariant (omega arith) (rw (c.states.ensures, c.automaton-automaton.ensures))

pub returns : goal.returns
returns c = started-all _ _ _ (omega arith) c.loop-k.invariant
