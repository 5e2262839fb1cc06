-- `members::above::Above::nothing` meets its contract: nobody stands at any place.
use Rattle.std.proofs.Common.{refl}
use Rattle.members.specs.Above.{nothing_above}
use Rattle.members.proofs.above.Above.nothing.Goals as goal

pub returns : goal.returns
unfolding nothing_above
returns c = refl
