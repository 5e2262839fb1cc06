-- `moves::moved` meets its contract: what is told dead is what is dead in the moved sets. Assumes nothing.
use borrow.Author.Rules.{rules}
use Rattle.automata.proofs.Together.{dead-told}
use Rattle.moves.proofs.moved.Statement.{statement}
use Rattle.moves.proofs.moved.Tie as tie

next-requires : tie.Need-next-below-requires
next-requires c κs = search rules

dead-requires : tie.Need-dead-requires
dead-requires c κs = search rules

returns : tie.Need-returns
returns c = dead-told _ _ _ c.next-below.ensures c.dead.ensures

pub moved_spec : {M : Type 1} → statement M
moved_spec = tie.close (tie.spec next-requires dead-requires returns)
