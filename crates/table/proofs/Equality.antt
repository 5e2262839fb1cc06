-- What `==` tells of two roles and of two goals: that owner and name are the same, and for goals the principal too.
use mathlib.Core.Path.{◌≡◌}
use mathlib.Core.Bool.{Bool}
use lib.Dec.{eqb}
use Rattle.sets.specs.Logic.{◌and◌}
use Rattle.table.specs.Layout.{same_role}
use Rattle.table.specs.declared.Role.{Role}
use Rattle.table.specs.declared.Goal.{Goal}
use Rattle.table.specs.contracts.RolePartialEq.TheImpl as roles
use Rattle.table.specs.contracts.GoalPartialEq.TheImpl as goals

-- a caller's fact of `r == s` is e
pub role-eq : {b : Bool} (r s : Role) → (e : b ≡ roles.eq-value.it r s) → b ≡ same_role r s
unfolding same_role ◌and◌
role-eq r s e = e

pub goal-eq : {b : Bool} (g h : Goal) → (e : b ≡ goals.eq-value.it g h)
    → b ≡ (eqb g.principal.0 h.principal.0 and same_role g.role h.role)
unfolding same_role ◌and◌
goal-eq g h e = e
