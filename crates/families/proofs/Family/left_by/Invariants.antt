-- The sets before the one in hand that are left are there.
use Rattle.families.specs.Families.{leaves}
use Rattle.families.proofs.Leaving.{Taken}
use Rattle.families.proofs.Family.left_by.Given as goal

abbrev pub invariant-loop-set : goal.invariant-loop-set
invariant-loop-set l = Taken (leaves l.self l.later l.most) l.set l.left
