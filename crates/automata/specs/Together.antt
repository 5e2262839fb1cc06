-- docs/DEFINITION.md, "Words": the state sets of all eight automata travel down a branch together. Each is moved as
-- specs/Automata.antt says of one automaton.
use Rattle.std.specs.Prelude.{ℕ, zero, suc, ◌-◌, List, [], ◌∷◌, ◌++◌, get_or, eqb}
use Rattle.std.specs.Int.Bits.{bit_or}
use Rattle.table.specs.Limits.{most_automata}
use Rattle.table.specs.Layout.{automata}
use Rattle.table.specs.declared.Role.{Role}
use Rattle.sets.specs.Sets.{set_of}
use Rattle.automata.specs.Automata.{accepts_from, moved, starting}
use Rattle.automata.specs.declared.Moved.{Moved}
use Rattle.automata.specs.declared.StateSets.{StateSets}

-- f 1, f 2, up to f n
unfoldable pub each : (ℕ → ℕ) → ℕ → List ℕ
each f zero = []
each f (suc n) = each f n ++ (f (suc n) ∷ [])

-- the state sets of all eight automata travel down a branch together
unfoldable pub together : (ℕ → ℕ) → StateSets
together f = record { sets = each f most_automata }

-- automaton k's set among them
abbrev pub set_for : StateSets → ℕ → ℕ
set_for s k = get_or s.sets (k - 1) 0

-- automaton by automaton the union of both
unfoldable pub union : StateSets → StateSets → StateSets
union s u = together (λ k. bit_or (set_for s k) (set_for u k))

unfoldable pub starting_sets : List ℕ → StateSets
starting_sets t = together (starting t)

unfoldable pub moved_sets : List ℕ → Role → StateSets → StateSets
moved_sets t r s = together (λ k. moved t k r (set_for s k))

-- the automata that are dead, which is our word: those that the table has and whose set is empty; automaton k counts 2^(k-1)
unfoldable pub dead_set : List ℕ → StateSets → ℕ
dead_set t s = set_of (λ k. eqb (get_or s.sets k 0) 0) (automata t)

-- the moved sets, and the automata that are dead in them
unfoldable pub moved_on : List ℕ → Role → StateSets → Moved
moved_on t r s = let next = moved_sets t r s in record { states = next; dead = dead_set t next }

-- the automata that accept where their sets are: automaton k counts 2^(k-1)
unfoldable pub accepting_set : List ℕ → StateSets → ℕ
accepting_set t s = set_of (λ k. accepts_from t (suc k) (get_or s.sets k 0)) (automata t)
