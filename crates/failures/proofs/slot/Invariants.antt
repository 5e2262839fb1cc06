-- The sum stays small.
use Rattle.std.proofs.Common.{◌<◌}
use Rattle.failures.proofs.slot.Given as goal

abbrev pub invariant-loop-set : goal.invariant-loop-set
invariant-loop-set l = l.sum < 2097152
