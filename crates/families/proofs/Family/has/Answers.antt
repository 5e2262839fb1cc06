-- `families::Family::has` meets its contract: the bit of the set is looked at. Assumes nothing.
use Rattle.families.specs.Families.{in_family}
use Rattle.families.proofs.Family.has.Goals as goal

pub returns : goal.returns
unfolding in_family
returns c = c.has.ensures
