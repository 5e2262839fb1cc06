-- The goals of the parts so far stand in order.
use Rattle.std.proofs.Common.{◌≡◌, map, take}
use Rattle.few.specs.Listed.{listed}
use Rattle.table.specs.declared.Role.{Role}
use Rattle.derivation.specs.Rules as rules
use Rattle.derivation.proofs.rules.intersection.Given as goal

abbrev pub invariant-loop-role : goal.invariant-loop-role
invariant-loop-role l =
    listed l.goals ≡ map (λ (r : Role). rules.goal l.goal.principal r) (take l.role-index l.role-items)
