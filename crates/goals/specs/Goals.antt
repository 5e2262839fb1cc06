-- What the tests of which the search is made answer, by the places of principal and role.
use Rattle.std.specs.Prelude.{ℕ, ◌<◌, ◌≡◌, List, Bool, true, false, not, get_or, eqb, ltb}
use Rattle.sets.specs.Logic.{◌and◌, any_below, pick}
use Rattle.sets.specs.Sets.{in_set}
use Rattle.families.specs.Families.{Inside, Within, all_sets, covers}
use Rattle.families.specs.declared.Family.{Family}
use Rattle.table.specs.Layout.{credentials}
use Rattle.table.specs.declared.Role.{Role}
use Rattle.automata.specs.Together.{dead_set, moved_sets}
use Rattle.automata.specs.declared.Moved.{Moved}
use Rattle.automata.specs.declared.StateSets.{StateSets}
use Rattle.members.specs.Members.{asked_cell, lesser, role_cell, row_cell}

-- the state sets one role on; where no automaton is asked for, which W has, nobody asks for them
unfoldable pub stepped : List ℕ → ℕ → Role → StateSets → StateSets
stepped t W r s = pick (eqb W 0) s (moved_sets t r s)

-- with them the automata that are dead there; where no automaton is asked for none is told
unfoldable pub stepped_on : List ℕ → ℕ → Role → StateSets → Moved
stepped_on t W r s = record { states = stepped t W r s; dead = pick (eqb W 0) 0 (dead_set t (moved_sets t r s)) }

-- levels are left, the role is defined, and by the row of the levels the principal is in it
unfoldable pub may_be_proved : List ℕ → List ℕ → ℕ → ℕ → ℕ → ℕ → Bool
may_be_proved t rows last person place levels =
    not (eqb levels 0) and ltb place (credentials t) and in_set (get_or rows (row_cell (lesser levels last) place) 0) person

-- by the index, credential i + 1 is in the set and defines the role at `place`
unfoldable pub usable : List ℕ → ℕ → ℕ → ℕ → Bool
usable index S place i = in_set S i and eqb (get_or index (role_cell i) 0) place

-- by the index, role k that credential i + 1 asks is one of those before it
unfoldable pub asked_before : List ℕ → ℕ → ℕ → Bool
asked_before index i k = any_below (λ j. eqb (get_or index (asked_cell i j) 0) (get_or index (asked_cell i k) 0)) k

-- the family, or O alone where the family has it
pub record Trimmed (found : Family) (O : ℕ) (rest : Family) : Type 0 where
  pub fewer : Within rest found
  pub alike : Inside found O → (X : ℕ) → covers found X ≡ true → covers rest X ≡ true

-- where an owed automaton is dead, only the others can be met: `most` has them
pub record Left (O dead most : ℕ) : Type 0 where
  pub few : most < all_sets
  pub lost : (k : ℕ) → in_set O k ≡ true → in_set most k ≡ false → in_set dead k ≡ true
