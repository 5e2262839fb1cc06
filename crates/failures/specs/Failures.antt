-- A memory of goals that were asked, as a search keeps it: slots of forty cells each, at least one. A slot has the levels that were
-- left (cell 0), the places of principal and role (cells 1 and 2), the state sets (eight cells from cell 4 on), the blocking pairs,
-- which are those of the branch that stood in the way: for each place of a role the principals (twenty cells from cell 12 on), and a
-- family of sets of automata (eight cells from cell 32 on): the goal can meet no set that the family does not cover, and fails where
-- the family has none. The search says what it is to meet a set (crate search, specs/Failing.antt).
use Rattle.std.specs.Prelude.{ℕ, ◌+◌, ◌*◌, ◌<◌, ◌≤◌, ◌≡◌, List, true, not, ◌⊎◌, get_or, length, eqb}
use Rattle.std.specs.Int.Bits.{bit_or}
use Rattle.sets.specs.Logic.{◌and◌}
use Rattle.sets.specs.Sets.{part}
use Rattle.families.specs.Families.{family_words}
use Rattle.families.specs.declared.Family.{Family}
use Rattle.table.specs.Limits.{most_automata, most_credentials}
use Rattle.automata.specs.declared.StateSets.{StateSets}
use Rattle.members.specs.Above.{pair_above}
use Rattle.members.specs.declared.above.Above.{Above}

abbrev pub slot_cells : ℕ
slot_cells = 40

-- a memory of 128 slots, where much is searched, and one of 8, where little is
abbrev pub memory_cells : ℕ
memory_cells = slot_cells * 128

abbrev pub few_cells : ℕ
few_cells = slot_cells * 8

abbrev pub slot_cell : ℕ → ℕ → ℕ
slot_cell k x = slot_cells * k + x

abbrev pub state_cell : ℕ → ℕ → ℕ
state_cell k j = slot_cell k (4 + j)

abbrev pub blocking_cell : ℕ → ℕ → ℕ
blocking_cell k r = slot_cell k (12 + r)

abbrev pub family_cell : ℕ → ℕ → ℕ
family_cell k j = slot_cell k (32 + j)

-- slot k lies inside the memory
abbrev pub SlotIn : List ℕ → ℕ → Type 0
SlotIn memory k = slot_cell (k + 1) 0 ≤ length memory

-- the slots that lie inside are the first `count`
pub record SlotsIn (memory : List ℕ) (count : ℕ) : Type 0 where
  pub inside : (k : ℕ) → k < count → SlotIn memory k
  pub all : (k : ℕ) → SlotIn memory k → k < count

-- what slot k holds
pub record SlotHolds (memory : List ℕ) (k person place levels : ℕ) (s : StateSets) (blocking : Above) (found : Family) : Type 0 where
  pub levels-is : get_or memory (slot_cell k 0) 0 ≡ levels
  pub person-is : get_or memory (slot_cell k 1) 0 ≡ person
  pub place_is : get_or memory (slot_cell k 2) 0 ≡ place
  pub states-are : (j : ℕ) → j < most_automata → get_or memory (state_cell k j) 0 ≡ get_or s.sets j 0
  pub blocking-is : (r : ℕ) → r < most_credentials → get_or memory (blocking_cell k r) 0 ≡ get_or blocking.persons r 0
  pub family-is : (j : ℕ) → j < family_words → get_or memory (family_cell k j) 0 ≡ get_or found.words j 0

-- slot k is about this goal, from these state sets, with as many levels or more, and its blocking pairs are on this branch
pub record Recalled (memory : List ℕ) (k person place levels : ℕ) (s : StateSets) (above : Above) : Type 0 where
  pub enough : levels ≤ get_or memory (slot_cell k 0) 0
  pub person-is : get_or memory (slot_cell k 1) 0 ≡ person
  pub place_is : get_or memory (slot_cell k 2) 0 ≡ place
  pub states-are : (j : ℕ) → j < most_automata → get_or memory (state_cell k j) 0 ≡ get_or s.sets j 0
  pub covered : (r : ℕ) → r < most_credentials → part (get_or memory (blocking_cell k r) 0) (get_or above.persons r 0) ≡ true

-- slot k is written, and no other
pub record SlotWritten (k person place levels : ℕ) (s : StateSets) (blocking : Above) (found : Family) (before after : List ℕ)
    : Type 0 where
  pub room : length after ≡ length before
  pub holds : SlotHolds after k person place levels s blocking found
  pub others : (x : ℕ) → (x < slot_cell k 0) ⊎ (slot_cell (k + 1) 0 ≤ x) → get_or after x 0 ≡ get_or before x 0

-- the blocking pairs of slot k
abbrev pub BlockingAt : List ℕ → ℕ → Above → Type 0
BlockingAt memory k blocking = (r : ℕ) → r < most_credentials → get_or blocking.persons r 0 ≡ get_or memory (blocking_cell k r) 0

-- the family of slot k
abbrev pub FamilyAt : List ℕ → ℕ → Family → Type 0
FamilyAt memory k found = (j : ℕ) → j < family_words → get_or found.words j 0 ≡ get_or memory (family_cell k j) 0

-- the pairs of both
abbrev pub Joined : Above → Above → Above → Type 0
Joined one other both =
    (r : ℕ) → r < most_credentials → get_or both.persons r 0 ≡ bit_or (get_or one.persons r 0) (get_or other.persons r 0)

-- all but one pair
abbrev pub Spared : Above → ℕ → ℕ → Above → Type 0
Spared all person place rest =
    (p r : ℕ) → r < most_credentials → pair_above rest p r ≡ (pair_above all p r and not (eqb person p and eqb place r))
