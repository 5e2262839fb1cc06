-- Of the first j cells those of simple memberships are written.
use Rattle.indexing.specs.Indexing.{Linked}
use Rattle.indexing.proofs.links.Given as goal

abbrev pub invariant-loop-j : goal.invariant-loop-j
invariant-loop-j l = Linked l.table l.name l.i l.j l.initial.index l.index
