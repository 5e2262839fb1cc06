-- With no automaton the state sets stay, else each automaton moves.
use Rattle.goals.proofs.Testing.{moves, stays}
use Rattle.goals.proofs.stepped.Goals as goal

pub returns-then-asked-eq0 : goal.returns-then-asked-eq0
returns-then-asked-eq0 c = stays _ _ _ _ c.if-asked-eq0.true

pub returns : goal.returns
returns c = moves _ _ _ _ _ c.if-asked-eq0.false c.moved.ensures
