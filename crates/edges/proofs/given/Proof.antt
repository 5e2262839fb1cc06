-- `edges::given` meets its contract: a `from` state is in the set, or none is. Assumes nothing.
use Rattle.sets.specs.Logic.{pick}
use Rattle.sets.proofs.Members.{meets-not, meets-some}
use Rattle.edges.proofs.given.Statement.{statement}
use Rattle.edges.proofs.given.Tie as tie

returns : tie.Need-returns-then-set-from-ne0
unfolding pick
returns c = rw (meets-some _ _ c.if-set-from-ne0.true)

returns-2 : tie.Need-returns
unfolding pick
returns-2 c = rw (meets-not _ _ c.if-set-from-ne0.false)

pub given_spec : {M : Type 1} → statement M
given_spec = tie.close (tie.spec returns returns-2)
