-- Tickets 2 and 3 in their words, as far as the search goes. It leaves a branch as soon as an imposed automaton is dead, asks no
-- more for an owed one that is dead, and nothing is lost; and where no constraint is imposed and none owed, members by levels are
-- exact, so that the table of members needs no search.
use Rattle.std.specs.Prelude.{ℕ, ◌≤◌, ◌≡◌, List, [], ◌∷◌, true, false, ◌↔◌}
use Rattle.std.specs.Int.Bits.{bit_or}
use Rattle.sets.specs.Sets.{in_set}
use Rattle.table.specs.Checks.{AcceptedTable}
use Rattle.table.specs.declared.Goal.{Goal}
use Rattle.automata.specs.Together.{dead_set}
use Rattle.automata.specs.declared.StateSets.{StateSets}
use Rattle.derivation.specs.Forest.{Derives, Forest}
use Rattle.members.specs.Members.{within}
use Rattle.members.specs.declared.above.Above.{Above}
use Rattle.search.specs.Search.{UsesOnly, proves}

-- where an automaton that is imposed, or is one of those to be met, is dead nothing is proved, whatever credentials, levels and
-- branch there are
abbrev pub NothingLost : Type 0
NothingLost =
    (t : List ℕ) (S A O levels : ℕ) (above : Above) (s : StateSets) (k X : ℕ) → X ≤ O → in_set (bit_or A X) k ≡ true
    → in_set (dead_set t s) k ≡ true → (g : Goal) → proves t S A O levels above s g X ≡ false

-- whoever is a member within so many levels by the credentials of a set is derived to be one by these credentials within these
-- levels, with no pair of principal and role twice on a branch, and nobody else is
abbrev pub MembersExact : Type 0
MembersExact =
    (t : List ℕ) (S levels : ℕ) (g : Goal) → AcceptedTable t
    → ((within t S levels g ≡ true) ↔ ((f : Forest) × Derives t levels [] (g ∷ []) f × UsesOnly f S))
