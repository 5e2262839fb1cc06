-- The member's bit is looked at.
use Rattle.std.proofs.Common.{arith, rules}
use Rattle.sets.specs.Sets.{in_set}
use Rattle.sets.proofs.has.Goals as goal

pub overflow_cast-result : goal.overflow_cast-result
overflow_cast-result g c = let narrow = g.met.S.Width.at_most_wide in search rules

pub overflow_shr-result : goal.overflow_shr-result
overflow_shr-result g c = let narrow = g.met.S.Width.at_most_wide in omega arith

pub returns : goal.returns
unfolding in_set
returns g c = rw (← c.wide.ensures.same)
