-- None of the credentials from i on may be used.
use Rattle.choice.proofs.Candidates.{NoneFrom}
use Rattle.choice.proofs.last_usable.Given as goal

abbrev pub invariant-loop-i : goal.invariant-loop-i
invariant-loop-i l = NoneFrom l.ground.index.now l.ground.terms.allowed l.place l.n l.i
