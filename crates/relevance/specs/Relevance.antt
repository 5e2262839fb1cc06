-- Which credentials bear on a query: a set outside of which no derivation uses a credential. The listing knows only this sentence,
-- `Relevant`; the rest says how such a set is found, by the places of roles alone (crate members), whoever the members are.
use Rattle.std.specs.Prelude.{ℕ, suc, ◌^◌, ◌<◌, ◌≡◌, List, [], ◌∷◌, true, get_or}
use Rattle.sets.specs.Sets.{in_set, part, set_of}
use Rattle.table.specs.Layout.{credential, credentials}
use Rattle.table.specs.declared.Query.{Query}
use Rattle.moves.specs.Arcs.{made, made_cell}
use Rattle.derivation.specs.Rules.{goal_of}
use Rattle.derivation.specs.Forest.{Derives, Forest}
use Rattle.members.specs.Places.{is_person}
use Rattle.members.specs.Members.{asked_cell, link_cell, role_cell}
use Rattle.search.specs.Search.{UsesOnly}

-- every derivation of the queried membership uses only credentials of R, which are the table's
pub record Relevant (t : List ℕ) (q : Query) (R : ℕ) : Type 0 where
  pub fits : R < 2 ^ credentials t
  pub every : (f : Forest) → Derives t q.depth [] (goal_of q ∷ []) f → UsesOnly f R

-- the set y of places has those of x, and those of the first n roles in the cells of credential i + 1
pub record WithAsked (index : List ℕ) (i n x y : ℕ) : Type 0 where
  pub grows : part x y ≡ true
  pub each : (k : ℕ) → k < n → in_set y (get_or index (asked_cell i k) 0) ≡ true

-- and those of the roles that it asks with a middle that stands below n
pub record WithLinks (t index : List ℕ) (i n x y : ℕ) : Type 0 where
  pub grows : part x y ≡ true
  pub each : (j : ℕ) → j < n → is_person t j ≡ true → in_set y (get_or index (link_cell i j) 0) ≡ true

-- all roles that credential i + 1 asks stand at places of the set
pub record AsksIn (t index : List ℕ) (i places : ℕ) : Type 0 where
  pub asked : ((credential t (suc i)).kind ≡ 1 → ⊥) → (k : ℕ) → k < 4 → in_set places (get_or index (asked_cell i k) 0) ≡ true
  pub linked : (credential t (suc i)).kind ≡ 3 → (j : ℕ) → j < credentials t → is_person t j ≡ true
      → in_set places (get_or index (link_cell i j) 0) ≡ true

pub record WithRoles (t index : List ℕ) (i x y : ℕ) : Type 0 where
  pub grows : part x y ≡ true
  pub asks : AsksIn t index i y

-- so they do for those of the first n credentials whose own role stands at a place of x
pub record Round (t index : List ℕ) (n x y : ℕ) : Type 0 where
  pub grows : part x y ≡ true
  pub each : (i : ℕ) → i < n → in_set x (get_or index (role_cell i) 0) ≡ true → AsksIn t index i y

-- those of the first n credentials whose roles stand at places of the set
unfoldable pub defined_at : List ℕ → ℕ → ℕ → ℕ
defined_at index places n = set_of (λ i. in_set places (get_or index (role_cell i) 0)) n

-- in an index of arcs the rows of the roles have been made that credentials of the set define, of the first n
abbrev pub RowsMade : List ℕ → ℕ → ℕ → List ℕ → Type 0
RowsMade index S n arcs = (i : ℕ) → i < n → in_set S i ≡ true → get_or arcs (made_cell (get_or index (role_cell i) 0)) 0 ≡ made
