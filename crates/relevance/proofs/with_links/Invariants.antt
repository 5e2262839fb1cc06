-- The middles that stand below j have been looked at.
use Rattle.relevance.specs.Relevance.{WithLinks}
use Rattle.relevance.proofs.with_links.Given as goal

abbrev pub invariant-loop-j : goal.invariant-loop-j
invariant-loop-j l = WithLinks l.table l.index l.i l.j l.fn.places l.more
