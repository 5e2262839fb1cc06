-- The first k of the four are taken in.
use Rattle.relevance.specs.Relevance.{WithAsked}
use Rattle.relevance.proofs.with_asked.Given as goal

abbrev pub invariant-loop-k : goal.invariant-loop-k
invariant-loop-k l = WithAsked l.index l.i l.k l.fn.places l.more
