-- docs/DEFINITION.md, "Where each input is stopped", the request's rows, with the ranges of "The table": what
-- each record must be, and the order in which the checks are made.
use Rattle.std.specs.Prelude.{ℕ, ◌≤◌, ◌≡◌, List, Bool, true, false, ◌⊎◌, length, eqb, leb, ltb, Result, Ok, Err}
use Rattle.sets.specs.Logic.{◌and◌, ◌or◌, pick}
use Rattle.table.specs.Outcome.{Outcome, ◌and_then◌, demand, demand_each}
use Rattle.table.specs.Outcome.Outcome.{accepted, refused}
use Rattle.table.specs.Limits.{most_credentials, most_cells, most_automata, most_edges}
use Rattle.table.specs.Limits.{most_principals, most_names, last_state, least_parts, most_parts, most_depth}
use Rattle.table.specs.Layout.{head_size, credentials, cells, automata, edges, table_length}
use Rattle.table.specs.Layout.{principal, name, credential, cell, automaton, edge, chain}
use Rattle.table.specs.declared.Principal.{Principal}
use Rattle.table.specs.declared.Name.{Name}
use Rattle.table.specs.declared.Role.{Role}
use Rattle.table.specs.declared.Query.{Query}
use Rattle.table.specs.declared.Credential.{Credential}
use Rattle.table.specs.declared.Cell.{Cell}
use Rattle.table.specs.declared.Edge.{Edge}
use Rattle.table.specs.declared.Reason.{Reason}
use Rattle.table.specs.declared.Reason.TheVariants as reason
use Rattle.table.specs.declared.Refusal.{Refusal}

-- a number from low to high
unfoldable pub within : ℕ → ℕ → ℕ → Bool
within low high x = leb low x and leb x high

-- principals and role names are numbered from 1 up to a greatest number
unfoldable pub is_principal_to : ℕ → Principal → Bool
is_principal_to most p = within 1 most p.0

unfoldable pub is_name_to : ℕ → Name → Bool
is_name_to most n = within 1 most n.0

unfoldable pub is_role_to : ℕ → Role → Bool
is_role_to most r = is_principal_to most r.owner and is_name_to most r.name

-- which is 64 for both
abbrev pub is_principal : Principal → Bool
is_principal p = is_principal_to most_principals p

abbrev pub is_name : Name → Bool
is_name n = is_name_to most_names n

abbrev pub is_role : Role → Bool
is_role r = is_role_to most_principals r

-- what each kind allows as first and second, where there are q part cells
unfoldable pub meaning_to : (most kind first second q : ℕ) → Bool
meaning_to most kind first second q =
    pick (eqb kind 1) (is_principal_to most (principal first) and eqb second 0)
    (pick (eqb kind 2) (is_principal_to most (principal first) and is_name_to most (name second))
    (pick (eqb kind 3) (is_name_to most (name first) and is_name_to most (name second))
    (pick (eqb kind 4) (within 1 q first and eqb second 0) false)))

abbrev pub meaning_ok : ℕ → ℕ → ℕ → ℕ → Bool
meaning_ok kind first second q = meaning_to most_principals kind first second q

-- a credential's automaton is 0, none, or 1 to a
unfoldable pub credential_to : (most q a : ℕ) → Credential → Bool
credential_to most q a c =
    is_role_to most c.role and meaning_to most c.kind c.first c.second q and leb c.automaton a

abbrev pub credential_ok : ℕ → ℕ → Credential → Bool
credential_ok q a c = credential_to most_principals q a c

-- next is 0, or a greater cell number up to q
unfoldable pub cell_to : (most q j : ℕ) → Cell → Bool
cell_to most q j c = is_role_to most c.role and (eqb c.next 0 or ltb j c.next and leb c.next q)

abbrev pub cell_ok : ℕ → ℕ → Cell → Bool
cell_ok q j c = cell_to most_principals q j c

-- a chain of 2 to 4 cells
unfoldable pub chain_ok : List ℕ → ℕ → Bool
chain_ok t first = within least_parts most_parts (length (chain t first))

-- labels 1 and 3 name a role; label 2 has owner and name both 0; label 4 names an owner, and its name is 0
unfoldable pub label_to : (most label : ℕ) → Role → Bool
label_to most label r =
    pick (eqb label 1) (is_role_to most r)
    (pick (eqb label 2) (eqb r.owner.0 0 and eqb r.name.0 0)
    (pick (eqb label 3) (is_role_to most r)
    (pick (eqb label 4) (is_principal_to most r.owner and eqb r.name.0 0) false)))

abbrev pub label_ok : ℕ → Role → Bool
label_ok label r = label_to most_principals label r

unfoldable pub edge_to : (most a : ℕ) → Edge → Bool
edge_to most a e =
    within 1 a e.automaton and leb e.from last_state and leb e.to last_state and label_to most e.label e.role

abbrev pub edge_ok : ℕ → Edge → Bool
edge_ok a e = edge_to most_principals a e

-- a mark is 0, every word, or 1, at least one
unfoldable pub mark_ok : ℕ → Bool
mark_ok mark = leb mark 1

-- row 2
unfoldable pub counts_ok : List ℕ → Bool
counts_ok t =
    leb (credentials t) most_credentials and leb (cells t) most_cells and leb (automata t) most_automata and leb (edges t) most_edges

-- rows 1, 2 and 3
unfoldable pub head_outcome : List ℕ → Outcome
head_outcome t =
    demand (leb head_size (length t)) 1 0 and_then
    demand (counts_ok t) 2 0 and_then
    demand (eqb (length t) (table_length t)) 3 0

-- row 4
unfoldable pub good_credential_to : ℕ → List ℕ → ℕ → Bool
good_credential_to most t i = credential_to most (cells t) (automata t) (credential t i)

abbrev pub good_credential : List ℕ → ℕ → Bool
good_credential t i = good_credential_to most_principals t i

-- row 5
unfoldable pub good_cell_to : ℕ → List ℕ → ℕ → Bool
good_cell_to most t j = cell_to most (cells t) j (cell t j)

abbrev pub good_cell : List ℕ → ℕ → Bool
good_cell t j = good_cell_to most_principals t j

-- row 6: a credential of kind 4 has a chain, and no other
unfoldable pub good_chain : List ℕ → ℕ → Bool
good_chain t i = pick (eqb (credential t i).kind 4) (chain_ok t (credential t i).first) true

-- row 7
unfoldable pub good_edge_to : ℕ → List ℕ → ℕ → Bool
good_edge_to most t k = edge_to most (automata t) (edge t k)

abbrev pub good_edge : List ℕ → ℕ → Bool
good_edge t k = good_edge_to most_principals t k

-- row 17
unfoldable pub good_mark : List ℕ → ℕ → Bool
good_mark t k = mark_ok (automaton t k).mark

-- the table's rows: those that the table call checks
abbrev pub TableRow : ℕ → Type 0
TableRow number = ((1 ≤ number) × (number ≤ 7)) ⊎ (number ≡ 17)

-- the request's rows, which listing, verifying and writing check first: the table's, then that of the query
abbrev pub RequestRow : ℕ → Type 0
RequestRow number = TableRow number ⊎ (number ≡ 8)

-- the checks of the table's rows
unfoldable pub table_outcome_to : ℕ → List ℕ → Outcome
table_outcome_to most t =
    head_outcome t and_then
    demand_each (good_credential_to most t) (credentials t) 4 and_then
    demand_each (good_cell_to most t) (cells t) 5 and_then
    demand_each (good_chain t) (credentials t) 6 and_then
    demand_each (good_edge_to most t) (edges t) 7 and_then
    demand_each (good_mark t) (automata t) 17

abbrev pub table_outcome : List ℕ → Outcome
table_outcome t = table_outcome_to most_principals t

-- a query is four numbers, in this order: a principal, a role's owner and name, and a depth limit
abbrev pub as_query : ℕ → ℕ → ℕ → ℕ → Query
as_query p o n depth = record { principal = principal p; owner = principal o; name = name n; depth = depth }

-- row 8: a depth limit is 1 to 16
unfoldable pub query_outcome_to : ℕ → Query → Outcome
query_outcome_to most q =
    demand (is_principal_to most q.principal) 8 1 and_then
    demand (is_principal_to most q.owner) 8 2 and_then
    demand (is_name_to most q.name) 8 3 and_then
    demand (within 1 most_depth q.depth) 8 4

abbrev pub query_outcome : Query → Outcome
query_outcome q = query_outcome_to most_principals q

-- the checks of the request's rows
unfoldable pub request_outcome : List ℕ → Query → Outcome
request_outcome t q = table_outcome t and_then query_outcome q

-- a table is accepted if its checks find nothing; a query is valid if row 8 finds nothing
abbrev pub AcceptedTable : List ℕ → Type 0
AcceptedTable t = table_outcome t ≡ accepted 0

abbrev pub Valid : Query → Type 0
Valid q = query_outcome q ≡ accepted 0

-- the number of each reason: docs/DEFINITION.md, "Where each input is stopped"
unfoldable pub number_of : Reason → ℕ
number_of reason.ShortHead = 1
number_of reason.CountOverLimit = 2
number_of reason.WrongLength = 3
number_of reason.Credential = 4
number_of reason.Cell = 5
number_of reason.Chain = 6
number_of reason.Edge = 7
number_of reason.Query = 8
number_of reason.NoMinimalSet = 9
number_of reason.LongerThanBuffer = 10
number_of reason.RecordLength = 11
number_of reason.Node = 12
number_of reason.Branch = 13
number_of reason.Word = 14
number_of reason.NotListed = 15
number_of reason.LongerRecord = 16
number_of reason.Mark = 17

unfoldable pub told : Refusal → Outcome
unfolding number_of
told why = refused (number_of why.reason) why.position

-- what a call tells by its result: the value, as a number, or why it is refused
unfoldable pub outcome_of : {A : Type 0} → (A → ℕ) → Result A Refusal → Outcome
outcome_of value (Ok a) = accepted (value a)
outcome_of value (Err why) = told why
