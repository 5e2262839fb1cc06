-- `members::above::Above::has` meets its contract: the principal is looked up among those of the place.
use Rattle.members.specs.Above.{pair_above}
use Rattle.members.proofs.above.Above.has.Goals as goal

pub returns : goal.returns
unfolding pair_above
returns c = c.has.ensures
