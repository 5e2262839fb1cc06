-- Row 14 from what the reader has kept of a whole record: the used set, and the sets of automata that have accepted every word and
-- some word (automaton k counts 2^(k-1)). proofs/ show that these say what the record's forest says.
use Rattle.std.specs.Prelude.{ℕ, ◌-◌, List, Bool, not, eqb}
use Rattle.sets.specs.Logic.{◌or◌, pick}
use Rattle.sets.specs.Sets.{in_set}
use Rattle.table.specs.Layout.{automaton}
use Rattle.attached.specs.Attached.{automata_of}

-- all eight automata
abbrev pub all_automata : ℕ
all_automata = 255

-- automaton k is attached to no credential of the used set, or by its mark it has accepted some word or every word
unfoldable pub keeps : List ℕ → ℕ → ℕ → ℕ → ℕ → Bool
keeps t used every some k =
    not (in_set (automata_of t used) (k - 1)) or in_set (pick (eqb (automaton t k).mark 1) some every) (k - 1)
