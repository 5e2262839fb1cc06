-- No goal stands on it.
use Rattle.branches.specs.Held.{above}
use Rattle.branches.proofs.Branch.empty.Goals as goal

pub returns : goal.returns
unfolding above
returns c = rw c.none.ensures
