-- The two sets meet where what they have in common is not empty.
use Rattle.std.proofs.Common.{refl}
use Rattle.sets.specs.Sets.{meets}
use Rattle.goals.proofs.any_dead.Goals as goal

pub returns : goal.returns
unfolding meets
returns c = refl
