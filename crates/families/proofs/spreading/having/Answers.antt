-- `families::spreading::having` meets its contract: each of the five is computed. Assumes nothing.
use Rattle.families.proofs.Lifting.{having_each}
use Rattle.families.proofs.spreading.having.Goals as goal

pub returns : goal.returns
returns c = having_each _ c.requires
