-- One step of a search: whether a credential proves a goal, where a test says which goals are proved.
use Rattle.std.specs.Prelude.{ℕ, suc, ◌-◌, List, [], ◌∷◌, Bool, true, false, length, eqb}
use Rattle.std.proofs.Math.Option.{Option, none, some}
use Rattle.sets.specs.Logic.{◌and◌, any_below, pick}
use Rattle.sets.specs.Sets.{in_set}
use Rattle.table.specs.Layout.{credential, credentials, same_role}
use Rattle.table.specs.declared.Goal.{Goal}
use Rattle.derivation.specs.Rules.{premises}
use Rattle.members.specs.Places.{is_person}

unfoldable pub every_goal : (Goal → Bool) → List Goal → Bool
every_goal one [] = true
every_goal one (g ∷ goals) = one g and every_goal one goals

-- what a credential asks is proved, where `all` says which lists of goals are; where it asks nothing a word ends, which must be
-- accepted
unfoldable pub proved_premises : (List Goal → Bool) → Bool → Option (List Goal) → Bool
proved_premises all word none = false
proved_premises all word (some goals) = pick (eqb (length goals) 0) word (all goals)

-- credential c proves the goal; for kind 3 each principal that a simple membership of the table names is tried as the middle,
-- since whoever is in a role is named by one
unfoldable pub proves_by : List ℕ → (List Goal → Bool) → Bool → Goal → ℕ → Bool
proves_by t all word g c =
    pick (eqb (credential t c).kind 3)
    (any_below (λ j. is_person t j and proved_premises all word (premises t g c (credential t (suc j)).first)) (credentials t))
    (proved_premises all word (premises t g c 0))

-- credential c is in the set and defines the goal's role
unfoldable pub may_use : List ℕ → ℕ → Goal → ℕ → Bool
may_use t S g c = in_set S (c - 1) and same_role (credential t c).role g.role
