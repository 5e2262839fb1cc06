-- Three tests, one after the other.
use Rattle.std.proofs.Common.{arith}
use Rattle.std.proofs.lemmas.Grind.{common_steps}
use Rattle.sets.specs.Logic.{◌and◌}
use Rattle.goals.proofs.is_middle.Goals as goal

pub returns-then-is_listed-2 : goal.returns-then-is_listed-2
unfolding ◌and◌
returns-then-is_listed-2 c = grind (arith, common_steps)

pub returns-else-is_listed-2 : goal.returns-else-is_listed-2
unfolding ◌and◌
returns-else-is_listed-2 c = grind (arith, common_steps)
