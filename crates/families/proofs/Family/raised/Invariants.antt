-- The first j words have gone where they belong.
use Rattle.families.proofs.Raising.{RaisedTo}
use Rattle.families.proofs.Family.raised.Given as goal

abbrev pub invariant-loop-j : goal.invariant-loop-j
invariant-loop-j l = RaisedTo l.self l.set l.j (record { words = l.words })
