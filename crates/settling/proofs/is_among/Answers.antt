-- `settling::is_among` meets its contract. Assumes nothing.
use Rattle.settling.proofs.Leaving.{among_none, among-some}
use Rattle.settling.proofs.is_among.Goals as goal

pub returns-then-automaton-eq0 : goal.returns-then-automaton-eq0
returns-then-automaton-eq0 c = among_none _ _ c.if-automaton-eq0.true

pub returns : goal.returns
returns c = among-some _ _ c.if-automaton-eq0.false (rw c.wide.ensures.0 at c.has.ensures)
