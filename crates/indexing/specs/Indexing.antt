-- How the index of a table is made: what each function of src/lib.rt promises the next.
use Rattle.std.specs.Prelude.{ℕ, suc, ◌+◌, ◌<◌, ◌≤◌, ◌≡◌, List, Bool, get_or, length, eqb}
use Rattle.sets.specs.Logic.{◌and◌}
use Rattle.table.specs.Limits.{most_credentials, most_parts}
use Rattle.table.specs.Layout.{credential, credentials, parts, role}
use Rattle.table.specs.declared.Credential.{Credential}
use Rattle.members.specs.Places.{least, person_at, role_at}
use Rattle.members.specs.Members.{asked_cell, index_cells, link_cell, padded, role_cell, roles_asked}

-- a simple membership that names the principal
unfoldable pub names : Credential → ℕ → Bool
names c p = eqb c.kind 1 and eqb c.first p

-- a place that was found: it is one of the credentials, or behind the last
pub record Place (place found : ℕ) : Type 0 where
  pub same : found ≡ place
  pub few : found ≤ most_credentials

-- the place of the first credential that a test passes, where each answer of the test is what p says
pub record FirstPlace (answers : Credential → Bool → Type 0) (t : List ℕ) (found : ℕ) : Type 0 where
  pub at : (p : ℕ → Bool) → ((i : ℕ) (told : Bool) → answers (credential t (suc i)) told → told ≡ p i) → Place (least p (credentials t)) found

-- the place of what a credential without a chain asks
pub record OneAsked (t : List ℕ) (c : Credential) (found : ℕ) : Type 0 where
  pub few : found ≤ most_credentials
  pub named : c.kind ≡ 1 → found ≡ person_at t c.first
  pub asked : (c.kind ≡ 1 → ⊥) → (k : ℕ) → found ≡ role_at t (padded (roles_asked t c) k)

-- the places of the first `count` of four parts of a chain, the last part standing in every cell behind it
pub record PartsAt (t : List ℕ) (first count : ℕ) (found : List ℕ) : Type 0 where
  pub room : length found ≡ most_parts
  pub few : (k : ℕ) → k < count → get_or found k 0 ≤ most_credentials
  pub each : (k : ℕ) → k < count → get_or found k 0 ≡ role_at t (padded (parts t first) k)

-- the places of what a credential asks
pub record Asked (t : List ℕ) (c : Credential) (found : List ℕ) : Type 0 where
  pub room : length found ≡ most_parts
  pub few : (k : ℕ) → k < most_parts → get_or found k 0 ≤ most_credentials
  pub named : c.kind ≡ 1 → get_or found 0 0 ≡ person_at t c.first
  pub asked : (k : ℕ) → k < most_parts → (c.kind ≡ 1 → ⊥) → get_or found k 0 ≡ role_at t (padded (roles_asked t c) k)

-- nothing is written but cells from `from` on and before `to`, and nothing but places
pub record Written (from to : ℕ) (old new : List ℕ) : Type 0 where
  pub room : length new ≡ length old
  pub before : (x : ℕ) → x < from → get_or new x 0 ≡ get_or old x 0
  pub behind : (x : ℕ) → to ≤ x → get_or new x 0 ≡ get_or old x 0
  pub small : ((x : ℕ) → get_or old x 0 ≤ most_credentials) → (x : ℕ) → get_or new x 0 ≤ most_credentials

-- there is room for the cells of credential i + 1
pub record EntryRoom (index : List ℕ) (i : ℕ) : Type 0 where
  pub cells : length index ≡ index_cells
  pub there : i < most_credentials

-- what is put into the cells of a credential are places
pub record Small (role : ℕ) (asked : List ℕ) : Type 0 where
  pub defined : role ≤ most_credentials
  pub room : length asked ≡ most_parts
  pub each : (k : ℕ) → k < most_parts → get_or asked k 0 ≤ most_credentials

-- the five cells of credential i + 1 are written
pub record Put (i role : ℕ) (asked old new : List ℕ) : Type 0 where
  pub written : Written (role_cell i) (role_cell (i + 1)) old new
  pub defined : get_or new (role_cell i) 0 ≡ role
  pub each : (k : ℕ) → k < most_parts → get_or new (asked_cell i k) 0 ≡ get_or asked k 0

-- of the first `count` cells of its links those are written that belong to a simple membership
pub record Linked (t : List ℕ) (name i count : ℕ) (old new : List ℕ) : Type 0 where
  pub written : Written (link_cell i 0) (link_cell (i + 1) 0) old new
  pub each : (j : ℕ) → j < count → (credential t (suc j)).kind ≡ 1
      → get_or new (link_cell i j) 0 ≡ role_at t (role (credential t (suc j)).first name)
