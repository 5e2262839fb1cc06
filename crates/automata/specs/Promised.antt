-- Tickets 2 and 4 in their words, as far as labels and moves go: label 4, what a move tells, and how unions move. Nothing here
-- depends on how many states an automaton has.
use Rattle.std.specs.Prelude.{ℕ, suc, ◌<◌, ◌≡◌, List, ◌++◌, true, false, ◌↔◌}
use Rattle.std.specs.Int.Bits.{bit_and, bit_or}
use Rattle.sets.specs.Sets.{in_set}
use Rattle.table.specs.Limits.{most_principals}
use Rattle.table.specs.Layout.{Numbered, automata, edge, edges}
use Rattle.table.specs.Checks.{label_ok}
use Rattle.table.specs.declared.Role.{Role}
use Rattle.table.specs.declared.Edge.{Edge}
use Rattle.edges.specs.Edges.{leads, matches}
use Rattle.automata.specs.Automata.{accepts, moved, run, starting}
use Rattle.automata.specs.Together.{moved_on, moved_sets, set_for, union}
use Rattle.automata.specs.declared.StateSets.{StateSets}

-- label 4 matches every role of the named owner, and no other
abbrev pub MatchesOwner : Type 0
MatchesOwner = (e : Edge) (r : Role) → e.label ≡ 4 → (matches e r ≡ true) ↔ (e.role.owner.0 ≡ r.owner.0)

-- its name field is 0, and its owner a principal
abbrev pub NamesOwner : Type 0
NamesOwner = (r : Role) → (label_ok 4 r ≡ true) ↔ (Numbered most_principals r.owner.0 × (r.name.0 ≡ 0))

-- moving along a role tells of each automaton whether its new set is empty: those told are those that are there and have no
-- state left
abbrev pub TellsEmpty : Type 0
TellsEmpty =
    (t : List ℕ) (r : Role) (s : StateSets) (k : ℕ)
    → ((moved_on t r s).states ≡ moved_sets t r s)
    × ((in_set (moved_on t r s).dead k ≡ true) ↔ ((k < automata t) × (set_for (moved_sets t r s) (suc k) ≡ 0)))

-- a set is empty after a move exactly where no edge leads on
abbrev pub EmptyWhere : Type 0
EmptyWhere =
    (t : List ℕ) (k : ℕ) (r : Role) (x : ℕ)
    → (moved t k r x ≡ 0) ↔ ((i : ℕ) → Numbered (edges t) i → leads k r x (edge t i) ≡ false)

-- an empty set stays empty, so no extension of the word is accepted
abbrev pub EmptyStays : Type 0
EmptyStays = (t : List ℕ) (k : ℕ) (word more : List Role) → run t k (starting t k) word ≡ 0 → accepts t k (word ++ more) ≡ false

-- moving the union of two sets along a role gives the union of the two moved sets
abbrev pub MovesUnion : Type 0
MovesUnion = (t : List ℕ) (k : ℕ) (r : Role) (x y : ℕ) → moved t k r (bit_or x y) ≡ bit_or (moved t k r x) (moved t k r y)

-- and so it is for the sets of all automata together
abbrev pub MovesUnions : Type 0
MovesUnions = (t : List ℕ) (r : Role) (s u : StateSets) → moved_sets t r (union s u) ≡ union (moved_sets t r s) (moved_sets t r u)

-- what is empty follows the same way: the moved union is empty exactly where both moved sets are
abbrev pub EmptyUnion : Type 0
EmptyUnion =
    (t : List ℕ) (k : ℕ) (r : Role) (x y : ℕ) → (moved t k r (bit_or x y) ≡ 0) ↔ ((moved t k r x ≡ 0) × (moved t k r y ≡ 0))

-- so of the union a move tells those automata dead that it tells dead of both
abbrev pub DeadUnion : Type 0
DeadUnion =
    (t : List ℕ) (r : Role) (s u : StateSets) → (moved_on t r (union s u)).dead ≡ bit_and (moved_on t r s).dead (moved_on t r u).dead
