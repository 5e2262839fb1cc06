-- docs/DEFINITION.md, "Automata": the base layout, in which an automaton has two numbers and no mark, and a table of it upgraded:
-- the same records with mark 0 at each automaton. Only what differs from specs/Layout.antt and specs/Checks.antt stands here.
use Rattle.std.specs.Prelude.{ℕ, zero, suc, ◌+◌, ◌-◌, ◌*◌, ◌≡◌, List, [], ◌∷◌, ◌++◌, Bool, drop, length, take, eqb, leb}
use Rattle.table.specs.Outcome.{Outcome, ◌and_then◌, demand, demand_each}
use Rattle.table.specs.Layout
use Rattle.table.specs.Layout.{Numbered, automata, automata_base, cells, credentials, edge_at, edges, number}
use Rattle.table.specs.Layout.{edge_size, head_size}
use Rattle.table.specs.Encoded.{automaton_of}
use Rattle.table.specs.Checks.{counts_ok, edge_ok, good_cell, good_chain, good_credential, table_outcome}
use Rattle.table.specs.declared.Automaton.{Automaton}
use Rattle.table.specs.declared.Edge.{Edge}

abbrev pub base_automaton_size : ℕ
base_automaton_size = 2

abbrev pub base_edges_base : List ℕ → ℕ
base_edges_base t = automata_base t + base_automaton_size * automata t

-- the length is exactly 4 + 6n + 3q + 2a + 6e
abbrev pub base_length : List ℕ → ℕ
base_length t = base_edges_base t + edge_size * edges t

-- two numbers: set of starting states, set of accepting states. It demands every word, which is mark 0
abbrev pub base_automaton_at : List ℕ → ℕ → Automaton
base_automaton_at t at = automaton_of (number t at) (number t (at + 1)) 0

unfoldable pub base_automaton : List ℕ → ℕ → Automaton
base_automaton t k = base_automaton_at t (automata_base t + base_automaton_size * (k - 1))

unfoldable pub base_edge : List ℕ → ℕ → Edge
base_edge t k = edge_at t (base_edges_base t + edge_size * (k - 1))

-- rows 1, 2 and 3
unfoldable pub base_head_outcome : List ℕ → Outcome
base_head_outcome t =
    demand (leb head_size (length t)) 1 0 and_then
    demand (counts_ok t) 2 0 and_then
    demand (eqb (length t) (base_length t)) 3 0

-- row 7
unfoldable pub good_base_edge : List ℕ → ℕ → Bool
good_base_edge t k = edge_ok (automata t) (base_edge t k)

-- the base layout's rows, 1 to 7: no check looks at an automaton
unfoldable pub base_outcome : List ℕ → Outcome
base_outcome t =
    base_head_outcome t and_then
    demand_each (good_credential t) (credentials t) 4 and_then
    demand_each (good_cell t) (cells t) 5 and_then
    demand_each (good_chain t) (credentials t) 6 and_then
    demand_each (good_base_edge t) (edges t) 7

-- the first k pairs of numbers with a 0 behind each, and then what follows them
unfoldable pub with_marks : ℕ → List ℕ → List ℕ
with_marks zero rest = rest
with_marks (suc k) [] = []
with_marks (suc k) (x ∷ []) = x ∷ []
with_marks (suc k) (starting ∷ accepting ∷ rest) = starting ∷ accepting ∷ 0 ∷ with_marks k rest

unfoldable pub upgraded : List ℕ → List ℕ
upgraded t = take (automata_base t) t ++ with_marks (automata t) (drop (automata_base t) t)

-- the same counts and the same records, each automaton with mark 0
pub record SameRecords (t : List ℕ) : Type 0 where
  pub credentials : Layout.credentials (upgraded t) ≡ Layout.credentials t
  pub cells : Layout.cells (upgraded t) ≡ Layout.cells t
  pub automata : Layout.automata (upgraded t) ≡ Layout.automata t
  pub edges : Layout.edges (upgraded t) ≡ Layout.edges t
  pub credential : (i : ℕ) → Numbered (Layout.credentials t) i → Layout.credential (upgraded t) i ≡ Layout.credential t i
  pub cell : (j : ℕ) → Numbered (Layout.cells t) j → Layout.cell (upgraded t) j ≡ Layout.cell t j
  pub automaton : (k : ℕ) → Numbered (Layout.automata t) k → Layout.automaton (upgraded t) k ≡ base_automaton t k
  pub edge : (x : ℕ) → Layout.edge (upgraded t) x ≡ base_edge t x

-- whatever the numbers are, the checks tell of the upgraded table what they told of the table; and where its length was right it
-- has the same records
abbrev pub Upgrading : Type 0
Upgrading = (t : List ℕ) → (table_outcome (upgraded t) ≡ base_outcome t) × (length t ≡ base_length t → SameRecords t)
