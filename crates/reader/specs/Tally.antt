-- What the reader keeps on its way through a record: the used set, the number of nodes, and the sets of automata that have accepted
-- every word and some word so far (automaton k counts 2^(k-1)).
use Rattle.std.specs.Prelude.{ℕ, suc, ◌+◌, ◌≤◌, ◌≡◌, length, List, [], ◌∷◌, eqb}
use Rattle.table.specs.Checks.{number_of}
use Rattle.table.specs.declared.Reason.{Reason}
use Rattle.std.specs.Int.Bits.{bit_and, bit_or}
use Rattle.sets.specs.Logic.{pick}
use Rattle.table.specs.Layout.{credential}
use Rattle.table.specs.declared.Goal.{Goal}
use Rattle.automata.specs.Together.{accepting_set, moved_sets}
use Rattle.automata.specs.declared.StateSets.{StateSets}
use Rattle.derivation.specs.Forest.{Forest, count_from, used_from}
use Rattle.derivation.specs.Forest.Forest.{end, node}
use Rattle.reader.specs.declared.Tally.{Tally}
use Rattle.reader.specs.Reading.{Reading, reader}
use Rattle.reader.specs.Reading.Reading.{read, stop}

-- the forest is read from the state sets s on, and what is kept is joined at each word's end with the automata that accept it
unfoldable pub kept_from : (ℕ → ℕ → ℕ) → List ℕ → StateSets → ℕ → Forest → ℕ
kept_from join t s kept end = kept
kept_from join t s kept (node c m children siblings) =
    let below = moved_sets t (credential t c).role s in
    kept_from join t s
    (pick (eqb (credential t c).kind 1) (join kept (accepting_set t below)) (kept_from join t below kept children))
    siblings

-- the automata of `every` that accept each word of the forest
abbrev pub every_from : List ℕ → StateSets → ℕ → Forest → ℕ
every_from t s every f = kept_from bit_and t s every f

-- the automata of `some`, and those that accept some word of the forest
abbrev pub some_from : List ℕ → StateSets → ℕ → Forest → ℕ
some_from t s some f = kept_from bit_or t s some f

pub data Tallied : Type 0 where
  passed : (rest : List ℕ) (used nodes every some : ℕ) → Tallied
  stopped : (number node : ℕ) → Tallied

-- what is kept after a reading, on top of what was kept before
unfoldable pub tally : List ℕ → StateSets → ℕ → ℕ → ℕ → ℕ → Reading → Tallied
tally t s used nodes every some (read rest f) =
    passed rest (used_from used f) (count_from nodes f) (every_from t s every f) (some_from t s some f)
tally t s used nodes every some (stop number at) = stopped number at

-- reading goals on, from what is kept so far
unfoldable pub tally_on : List ℕ → ℕ → List Goal → List Goal → StateSets → List ℕ → ℕ → ℕ → ℕ → ℕ → Tallied
tally_on t levels branch goals s rec used nodes every some =
    tally t s used nodes every some (reader t levels branch goals rec (suc nodes))

-- the same from the code's tally, and what the tally says where reading has passed
abbrev pub read_from : List ℕ → ℕ → List Goal → List Goal → StateSets → List ℕ → Tally → Tallied
read_from t levels branch goals s rec k = tally_on t levels branch goals s rec k.used k.nodes k.words.every k.words.some

abbrev pub passed_by : List ℕ → Tally → Tallied
passed_by rest k = passed rest k.used k.nodes k.words.every k.words.some

-- what the code's reader of one goal gives where it passes: the rest and the tally tell the reading, and nodes and numbers left are
-- no more than before
pub record ReadOn (t : List ℕ) (levels : ℕ) (branch : List Goal) (g : Goal) (s : StateSets) (rec : List ℕ) (before : Tally)
    (rest : List ℕ) (after : Tally) : Type 0 where
  pub told : passed_by rest after ≡ read_from t levels branch (g ∷ []) s rec before
  pub room : after.nodes + length rest ≤ before.nodes + length rec

-- and where it stops: the reason and the number of nodes tell the reading, and the whole record is handed back
pub record StopsAt (t : List ℕ) (levels : ℕ) (branch : List Goal) (g : Goal) (s : StateSets) (rec : List ℕ) (before : Tally)
    (rest : List ℕ) (why : Reason) (after : Tally) : Type 0 where
  pub told : stopped (number_of why) after.nodes ≡ read_from t levels branch (g ∷ []) s rec before
  pub whole : rest ≡ rec
