-- docs/DEFINITION.md, "The table": the head's four counts, then the records of credentials, part cells, automata and edges, each
-- numbered from 1. Sizes and bases stand here and nowhere else; all other definitions go by the records.
use Rattle.std.specs.Prelude.{ℕ, zero, suc, ◌+◌, ◌-◌, ◌*◌, ◌≤◌, List, [], ◌∷◌, map, Bool, get_or, eqb}
use Rattle.sets.specs.Logic.{◌and◌, pick}
use Rattle.table.specs.Limits.{most_parts}
use Rattle.table.specs.declared.Principal.{Principal}
use Rattle.table.specs.declared.Name.{Name}
use Rattle.table.specs.declared.Role.{Role}
use Rattle.table.specs.declared.Credential.{Credential}
use Rattle.table.specs.declared.Cell.{Cell}
use Rattle.table.specs.declared.Automaton.{Automaton}
use Rattle.table.specs.declared.Edge.{Edge}

-- how many numbers a record has
abbrev pub head_size : ℕ
head_size = 4

abbrev pub credential_size : ℕ
credential_size = 6

abbrev pub cell_size : ℕ
cell_size = 3

abbrev pub automaton_size : ℕ
automaton_size = 3

abbrev pub edge_size : ℕ
edge_size = 6

abbrev pub number : List ℕ → ℕ → ℕ
number t i = get_or t i 0

-- the head: n credentials, q part cells, a automata, e edges
abbrev pub credentials : List ℕ → ℕ
credentials t = number t 0

abbrev pub cells : List ℕ → ℕ
cells t = number t 1

abbrev pub automata : List ℕ → ℕ
automata t = number t 2

abbrev pub edges : List ℕ → ℕ
edges t = number t 3

-- where the records of each kind begin
abbrev pub cells_base : List ℕ → ℕ
cells_base t = head_size + credential_size * credentials t

abbrev pub automata_base : List ℕ → ℕ
automata_base t = cells_base t + cell_size * cells t

abbrev pub edges_base : List ℕ → ℕ
edges_base t = automata_base t + automaton_size * automata t

-- the length is exactly 4 + 6n + 3q + 3a + 6e
abbrev pub table_length : List ℕ → ℕ
table_length t = edges_base t + edge_size * edges t

abbrev pub principal : ℕ → Principal
principal x = record { 0 = x }

abbrev pub name : ℕ → Name
name x = record { 0 = x }

abbrev pub role : ℕ → ℕ → Role
role o n = record { owner = principal o; name = name n }

-- equal owner and equal name
unfoldable pub same_role : Role → Role → Bool
same_role r s = eqb r.owner.0 s.owner.0 and eqb r.name.0 s.name.0

-- six numbers: owner, name, kind, first, second, automaton
abbrev pub credential_at : List ℕ → ℕ → Credential
credential_at t at =
    record {
      role = role (number t at) (number t (at + 1));
      kind = number t (at + 2);
      first = number t (at + 3);
      second = number t (at + 4);
      automaton = number t (at + 5);
    }

-- three numbers: principal, name, next
abbrev pub cell_at : List ℕ → ℕ → Cell
cell_at t at = record { role = role (number t at) (number t (at + 1)); next = number t (at + 2) }

-- three numbers: set of starting states, set of accepting states, mark
abbrev pub automaton_at : List ℕ → ℕ → Automaton
automaton_at t at = record { starting = number t at; accepting = number t (at + 1); mark = number t (at + 2) }

-- six numbers: automaton, from state, label, owner, name, to state
abbrev pub edge_at : List ℕ → ℕ → Edge
edge_at t at =
    record {
      automaton = number t at;
      from = number t (at + 1);
      label = number t (at + 2);
      role = role (number t (at + 3)) (number t (at + 4));
      to = number t (at + 5);
    }

-- each record by its number
unfoldable pub credential : List ℕ → ℕ → Credential
credential t i = credential_at t (head_size + credential_size * (i - 1))

unfoldable pub cell : List ℕ → ℕ → Cell
cell t j = cell_at t (cells_base t + cell_size * (j - 1))

unfoldable pub automaton : List ℕ → ℕ → Automaton
automaton t k = automaton_at t (automata_base t + automaton_size * (k - 1))

unfoldable pub edge : List ℕ → ℕ → Edge
edge t k = edge_at t (edges_base t + edge_size * (k - 1))

-- the numbers of the cells from cell j on, `most` of them at most: next leads on, and 0 ends the chain
unfoldable pub cells_from : (ℕ → Cell) → ℕ → ℕ → List ℕ
unfolding pick
cells_from cell zero j = []
cells_from cell (suc most) j = pick (eqb j 0) [] (j ∷ cells_from cell most (cell j).next)

-- the chain of a kind 4 credential; it is left as soon as a fifth cell is met
abbrev pub chain : List ℕ → ℕ → List ℕ
chain t j = cells_from (cell t) (suc most_parts) j

-- the roles of its parts, in chain order
unfoldable pub parts_by : (ℕ → Cell) → ℕ → List Role
parts_by cell j = map (λ (k : ℕ). (cell k).role) (cells_from cell (suc most_parts) j)

abbrev pub parts : List ℕ → ℕ → List Role
parts t j = parts_by (cell t) j

-- i is the number of one of n records
pub record Numbered (n i : ℕ) : Type 0 where
  pub first : 1 ≤ i
  pub last : i ≤ n
