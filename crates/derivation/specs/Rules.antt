-- docs/DEFINITION.md, "Derivations": which goals a credential asks for a goal, the four inference rules of the 2015 paper
-- (docs/SOURCES.md), Figure 1, as one function; and what may not repeat on a branch.
use Rattle.std.specs.Prelude.{ℕ, List, [], ◌∷◌, map, Bool, true, not, eqb}
use Rattle.std.proofs.Math.Option.{Option, none, some}
use Rattle.sets.specs.Logic.{◌and◌, pick}
use Rattle.table.specs.Limits.{most_principals}
use Rattle.table.specs.Layout.{credential, credentials, name, parts, principal, role, same_role}
use Rattle.table.specs.Checks.{is_principal_to, within}
use Rattle.table.specs.declared.Principal.{Principal}
use Rattle.table.specs.declared.Role.{Role}
use Rattle.table.specs.declared.Goal.{Goal}
use Rattle.table.specs.declared.Query.{Query}
use Rattle.table.specs.declared.Credential.{Credential}

-- the principal in the role
abbrev pub goal : Principal → Role → Goal
goal p r = record { principal = p; role = r }

-- the goal of a query is its principal in its role
abbrev pub goal_of : Query → Goal
goal_of q = goal q.principal (record { owner = q.owner; name = q.name })

abbrev pub when : Bool → List Goal → Option (List Goal)
when test goals = pick test (some goals) none

-- the rules, by kind: what credential c with middle m asks for goal g; the middle is 0 for every kind but 3
abbrev pub membership_asks : Goal → Credential → ℕ → Option (List Goal)
membership_asks g c m = when (eqb c.first g.principal.0 and eqb m 0) []

abbrev pub containment_asks : Goal → Credential → ℕ → Option (List Goal)
containment_asks g c m = when (eqb m 0) (goal g.principal (role c.first c.second) ∷ [])

abbrev pub linking_asks_to : (most : ℕ) → Goal → Credential → ℕ → Option (List Goal)
linking_asks_to most g c m =
    when (is_principal_to most (principal m))
    (goal (principal m) (record { owner = c.role.owner; name = name c.first })
    ∷ goal g.principal (role m c.second) ∷ [])

abbrev pub linking_asks : Goal → Credential → ℕ → Option (List Goal)
linking_asks g c m = linking_asks_to most_principals g c m

abbrev pub intersection_asks : Goal → List Role → ℕ → Option (List Goal)
intersection_asks g roles m = when (eqb m 0) (map (λ (r : Role). goal g.principal r) roles)

-- all four, where principals go up to `most` and a chain that begins at a cell has these parts
unfoldable pub asks_by : (most : ℕ) → (ℕ → List Role) → Goal → Credential → ℕ → Option (List Goal)
asks_by most parts g c m =
    pick (eqb c.kind 1) (membership_asks g c m)
    (pick (eqb c.kind 2) (containment_asks g c m)
    (pick (eqb c.kind 3) (linking_asks_to most g c m)
    (pick (eqb c.kind 4) (intersection_asks g (parts c.first) m) none)))

-- the premises of goal g through a credential, which must be usable and define the goal's role; none where it does not apply
unfoldable pub premises_by : (usable : Bool) → (Goal → Credential → ℕ → Option (List Goal)) → Goal → Credential → ℕ
    → Option (List Goal)
premises_by usable asks g c m = pick (usable and same_role c.role g.role) (asks g c m) none

-- which credentials a derivation may use: all that there are
unfoldable pub usable_by : (credentials : ℕ) → ℕ → Bool
usable_by credentials c = within 1 credentials c

unfoldable pub usable : List ℕ → ℕ → Bool
usable t c = usable_by (credentials t) c

abbrev pub asks : List ℕ → Goal → Credential → ℕ → Option (List Goal)
asks t = asks_by most_principals (parts t)

unfoldable pub premises : List ℕ → Goal → ℕ → ℕ → Option (List Goal)
premises t g c m = premises_by (usable t c) (asks t) g (credential t c) m

-- the same pair of principal and role
unfoldable pub same_goal : Goal → Goal → Bool
same_goal g h = eqb g.principal.0 h.principal.0 and same_role g.role h.role

-- no pair of principal and role occurs twice on the way from the goal to a node: the goal is none of those above it
unfoldable pub fresh : List Goal → Goal → Bool
fresh [] g = true
fresh (above ∷ branch) g = not (same_goal above g) and fresh branch g
