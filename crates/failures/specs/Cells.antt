-- How a slot is read and written, stretch by stretch: what each function of src/lib.rt promises the next.
use Rattle.std.specs.Prelude.{ℕ, ◌+◌, ◌<◌, ◌≤◌, ◌≡◌, List, true, ◌⊎◌, get_or, length}
use Rattle.sets.specs.Sets.{part}
use Rattle.table.specs.Limits.{most_automata, most_credentials}
use Rattle.automata.specs.declared.StateSets.{StateSets}
use Rattle.members.specs.declared.above.Above.{Above}
use Rattle.failures.specs.Failures.{blocking_cell, state_cell}

-- slot k has these state sets
abbrev pub StatesAt : List ℕ → ℕ → StateSets → Type 0
StatesAt memory k s = (j : ℕ) → j < most_automata → get_or memory (state_cell k j) 0 ≡ get_or s.sets j 0

-- each blocking pair of slot k is on this branch
abbrev pub CoveredAt : List ℕ → ℕ → Above → Type 0
CoveredAt memory k above =
    (r : ℕ) → r < most_credentials → part (get_or memory (blocking_cell k r) 0) (get_or above.persons r 0) ≡ true

-- from cell `from` on the first `count` values are written, and no other cell
pub record Written (from count : ℕ) (values before after : List ℕ) : Type 0 where
  pub room : length after ≡ length before
  pub each : (x : ℕ) → x < count → get_or after (from + x) 0 ≡ get_or values x 0
  pub others : (x : ℕ) → (x < from) ⊎ (from + count ≤ x) → get_or after x 0 ≡ get_or before x 0
