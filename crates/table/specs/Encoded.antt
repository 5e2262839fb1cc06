-- docs/DEFINITION.md, "The table", the other way round: a table's numbers, written from its records. Each record's numbers stand
-- in the definition's order; proofs/Encoding.antt shows that every accessor of specs/Layout.antt reads back what is written
-- here.
use Rattle.std.specs.Prelude.{ℕ, length}
use mathlib.Core.List.{List, [], ◌∷◌, ◌++◌, flat_map}
use Rattle.table.specs.Layout.{role}
use Rattle.table.specs.declared.Credential.{Credential}
use Rattle.table.specs.declared.Cell.{Cell}
use Rattle.table.specs.declared.Automaton.{Automaton}
use Rattle.table.specs.declared.Edge.{Edge}

-- owner, name, kind, first, second, automaton
abbrev pub credential_of : (owner name kind first second automaton : ℕ) → Credential
credential_of owner name kind first second automaton =
    record { role = role owner name; kind = kind; first = first; second = second; automaton = automaton }

unfoldable pub credential_numbers : Credential → List ℕ
credential_numbers c =
    c.role.owner.0 ∷ c.role.name.0 ∷ c.kind ∷ c.first ∷ c.second ∷ c.automaton ∷ []

-- principal, name, next
unfoldable pub cell_numbers : Cell → List ℕ
cell_numbers c = c.role.owner.0 ∷ c.role.name.0 ∷ c.next ∷ []

-- set of starting states, set of accepting states, mark
abbrev pub automaton_of : (starting accepting mark : ℕ) → Automaton
automaton_of starting accepting mark = record { starting = starting; accepting = accepting; mark = mark }

unfoldable pub automaton_numbers : Automaton → List ℕ
automaton_numbers a = a.starting ∷ a.accepting ∷ a.mark ∷ []

-- automaton, from state, label, owner, name, to state
abbrev pub edge_of : (automaton from label owner name to : ℕ) → Edge
edge_of automaton from label owner name to =
    record { automaton = automaton; from = from; label = label; role = role owner name; to = to }

unfoldable pub edge_numbers : Edge → List ℕ
edge_numbers e = e.automaton ∷ e.from ∷ e.label ∷ e.role.owner.0 ∷ e.role.name.0 ∷ e.to ∷ []

-- the four counts, then the records in that order
unfoldable pub encoded : List Credential → List Cell → List Automaton → List Edge → List ℕ
encoded cs ps ks es =
    length cs ∷ length ps ∷ length ks ∷ length es
    ∷ (flat_map credential_numbers cs ++ (flat_map cell_numbers ps ++ (flat_map automaton_numbers ks ++ flat_map edge_numbers es)))
