-- Ticket 2 in its words, as far as row 7 goes: refusal 7 covers the fields of every label, label 4's with them.
use Rattle.std.specs.Prelude.{ℕ, ◌<◌, ◌≤◌, ◌≡◌, List, ◌↔◌}
use Rattle.table.specs.Outcome.Outcome.{refused}
use Rattle.table.specs.Limits.{last_state, most_names, most_principals}
use Rattle.table.specs.Layout.{Numbered, automata, edge, edges}
use Rattle.table.specs.Checks.{table_outcome}
use Rattle.table.specs.declared.Edge.{Edge}

-- what a label allows as owner and name
pub data Allows (owner name : ℕ) : ℕ → Type 0 where
  -- label 1 names a role
  that_role : Numbered most_principals owner → Numbered most_names name → Allows owner name 1
  -- label 2 has 0 and 0
  every_role : owner ≡ 0 → name ≡ 0 → Allows owner name 2
  -- label 3 names a role
  every_other : Numbered most_principals owner → Numbered most_names name → Allows owner name 3
  -- label 4 names an owner, 1 to 64, and its name is 0
  every_of_owner : Numbered most_principals owner → name ≡ 0 → Allows owner name 4

-- an edge's automaton is 1 to a, its states are 0 to 15, and its owner and name are what its label allows
pub record AllowedEdge (a : ℕ) (e : Edge) : Type 0 where
  pub automaton : Numbered a e.automaton
  pub from : e.from ≤ last_state
  pub to : e.to ≤ last_state
  pub label : Allows e.role.owner.0 e.role.name.0 e.label

-- edge i is the first whose fields are not as its label allows
pub record FirstNotAllowed (t : List ℕ) (i : ℕ) : Type 0 where
  pub numbered : Numbered (edges t) i
  pub not-allowed : AllowedEdge (automata t) (edge t i) → ⊥
  pub before : (j : ℕ) → Numbered (edges t) j → j < i → AllowedEdge (automata t) (edge t j)

-- no row before 7 refuses the table
abbrev pub PastRowSix : List ℕ → Type 0
PastRowSix t = (number position : ℕ) → table_outcome t ≡ refused number position → number < 7 → ⊥

-- refusal 7 at edge i, exactly when no row before refuses the table and edge i is the first that is not allowed
abbrev pub RefusesEdge : Type 0
RefusesEdge = (t : List ℕ) (i : ℕ) → (table_outcome t ≡ refused 7 i) ↔ (PastRowSix t × FirstNotAllowed t i)
