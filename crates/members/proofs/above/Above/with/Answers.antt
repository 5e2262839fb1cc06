-- `members::above::Above::with` meets its contract: the principal is put among those of the place.
use Rattle.members.specs.Above.{with_pair}
use Rattle.members.proofs.above.Above.with.Goals as goal

pub returns : goal.returns
unfolding with_pair
returns c = rw c.with.ensures
