-- The mask has the automata of those of the first i credentials that are in the set.
use Rattle.std.proofs.Common.{◌≡◌}
use Rattle.attached.specs.Attached.{automata_up_to}
use Rattle.attached.proofs.automata_of.Given as goal

abbrev pub invariant-loop-i : goal.invariant-loop-i
invariant-loop-i l = l.mask ≡ automata_up_to l.table l.set l.i
