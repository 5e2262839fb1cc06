-- Members by levels: who is in which role within so many levels by the credentials of a set, if nothing may be refused: no rule
-- against repetition, no constraint. The table of members says just this. A derivation within so many levels proves nothing else,
-- so a search need ask for nothing else.
use Rattle.std.specs.Prelude.{ℕ, zero, suc, ◌+◌, ◌*◌, ◌<◌, ◌≤◌, ◌≡◌, List, [], ◌∷◌, Bool, true, false, get_or, length, eqb, ltb}
use Rattle.sets.specs.Logic.{◌and◌, any_below, pick}
use Rattle.sets.specs.Sets.{in_set}
use Rattle.table.specs.Limits.{most_credentials, most_depth, most_parts}
use Rattle.table.specs.Layout.{Numbered, cells, credential, credentials, name, parts, role}
use Rattle.table.specs.Checks.{chain_ok}
use Rattle.table.specs.declared.Role.{Role}
use Rattle.table.specs.declared.Credential.{Credential}
use Rattle.table.specs.declared.Goal.{Goal}
use Rattle.table.specs.declared.Query.{Query}
use Rattle.derivation.specs.Rules.{goal_of}
use Rattle.members.specs.Places.{person_at, role_at}
use Rattle.members.specs.Trying.{every_goal, may_use, proves_by}

unfoldable pub within : List ℕ → ℕ → ℕ → Goal → Bool
within t S zero g = false
within t S (suc levels) g =
    any_below (λ c. may_use t S g (suc c) and proves_by t (every_goal (within t S levels)) true g (suc c)) (credentials t)

-- a credential as tables have them: of a known kind, with its chain if it has one
pub record Whole (t : List ℕ) (c : Credential) : Type 0 where
  pub kind : Numbered 4 c.kind
  pub first : c.kind ≡ 4 → Numbered (cells t) c.first
  pub chained : c.kind ≡ 4 → chain_ok t c.first ≡ true

-- the roles that a credential asks of its goal's principal, and for kind 3 the role that it asks of a middle
unfoldable pub roles_asked : List ℕ → Credential → List Role
roles_asked t c =
    pick (eqb c.kind 2) (role c.first c.second ∷ [])
    (pick (eqb c.kind 3) (record { owner = c.role.owner; name = name c.first } ∷ [])
    (pick (eqb c.kind 4) (parts t c.first) []))

-- the role at place k, and the last one at every place behind
unfoldable pub padded : List Role → ℕ → Role
padded [] k = role 0 0
padded (r ∷ []) k = r
padded (r ∷ s ∷ roles) zero = r
padded (r ∷ s ∷ roles) (suc k) = padded (s ∷ roles) k

-- The index of a table and a query, made once, in which roles and principals are places: for each credential five cells, the role
-- that it defines and four that it asks (a simple membership: the principal that it names); then, for each credential of kind 3,
-- twenty cells, the role that it asks of the goal's principal where the middle stands at j; then the query's role and principal
abbrev pub credential_cells : ℕ
credential_cells = 1 + most_parts

abbrev pub links_base : ℕ
links_base = credential_cells * most_credentials

abbrev pub goal_role : ℕ
goal_role = links_base + most_credentials * most_credentials

abbrev pub goal_person : ℕ
goal_person = goal_role + 1

abbrev pub index_cells : ℕ
index_cells = goal_person + 1

abbrev pub role_cell : ℕ → ℕ
role_cell i = credential_cells * i

abbrev pub asked_cell : ℕ → ℕ → ℕ
asked_cell i k = credential_cells * i + 1 + k

abbrev pub link_cell : ℕ → ℕ → ℕ
link_cell i j = links_base + most_credentials * i + j

-- every cell has a place, or the one behind the last credential
pub record Placed (index : List ℕ) : Type 0 where
  pub room : length index ≡ index_cells
  pub small : (x : ℕ) → get_or index x 0 ≤ most_credentials

pub record Indexed (t index : List ℕ) : Type 0 where
  pub placed : Placed index
  pub defined : (i : ℕ) → i < credentials t → get_or index (role_cell i) 0 ≡ role_at t (credential t (suc i)).role
  pub named : (i : ℕ) → i < credentials t → (credential t (suc i)).kind ≡ 1
      → get_or index (asked_cell i 0) 0 ≡ person_at t (credential t (suc i)).first
  pub asked : (i k : ℕ) → i < credentials t → k < most_parts → ((credential t (suc i)).kind ≡ 1 → ⊥)
      → get_or index (asked_cell i k) 0 ≡ role_at t (padded (roles_asked t (credential t (suc i))) k)
  pub linked : (i j : ℕ) → i < credentials t → j < credentials t → (credential t (suc i)).kind ≡ 3
      → (credential t (suc j)).kind ≡ 1
      → get_or index (link_cell i j) 0 ≡ role_at t (role (credential t (suc j)).first (credential t (suc i)).second)

-- the query's role and principal are in it
pub record Aimed (t : List ℕ) (q : Query) (index : List ℕ) : Type 0 where
  pub goals_role : get_or index goal_role 0 ≡ role_at t (goal_of q).role
  pub goals_person : get_or index goal_person 0 ≡ person_at t q.principal.0

-- The table of members: for each level from 0 on a row of masks, one for each role by its place
abbrev pub row_cells : ℕ
row_cells = most_credentials + 1

abbrev pub table_cells : ℕ
table_cells = row_cells * (most_depth + 1)

abbrev pub row_cell : ℕ → ℕ → ℕ
row_cell level r = row_cells * level + r

-- nobody stands in any cell
abbrev pub Blank : List ℕ → Type 0
Blank rows = (x : ℕ) → get_or rows x 0 ≡ 0

-- what the row of a level has
unfoldable pub listed : List ℕ → List ℕ → ℕ → Goal → Bool
listed t rows level g =
    ltb (person_at t g.principal.0) (credentials t)
    and in_set (get_or rows (row_cell level (role_at t g.role)) 0) (person_at t g.principal.0)

-- the lesser of two numbers
unfoldable pub lesser : ℕ → ℕ → ℕ
lesser k last = pick (ltb k last) k last

-- within so many levels, up to the depth, just those are members whom the row of the level has; behind the last row nobody is new
pub record Members (t : List ℕ) (S depth last : ℕ) (rows : List ℕ) : Type 0 where
  pub room : length rows ≡ table_cells
  pub few : last ≤ most_depth
  pub every : (k : ℕ) → k ≤ depth → (g : Goal) → within t S k g ≡ true → listed t rows (lesser k last) g ≡ true
  pub only : (k : ℕ) → k ≤ depth → (g : Goal) → listed t rows (lesser k last) g ≡ true → within t S k g ≡ true
