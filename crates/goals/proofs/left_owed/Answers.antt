-- What is left of the owed are those that are not dead.
use Rattle.goals.proofs.Testing.{left-those}
use Rattle.goals.proofs.left_owed.Goals as goal

pub returns : goal.returns
returns c = left-those _ _ c.requires
