-- How the code holds a node's entry: a reason, or what the node asks, by value. And what it keeps of the words there.
use Rattle.std.specs.Prelude.{ℕ, zero, suc, List, Bool, false, drop, eqb, Result, Ok, Err}
use Rattle.sets.specs.Logic.{pick}
use Rattle.few.specs.Listed.{listed}
use Rattle.table.specs.Checks.{number_of}
use Rattle.table.specs.declared.Goal.{Goal}
use Rattle.table.specs.declared.Reason.{Reason}
use Rattle.automata.specs.Together.{accepting_set}
use Rattle.automata.specs.declared.StateSets.{StateSets}
use Rattle.derivation.specs.Rules.{fresh}
use Rattle.entering.specs.Entry.{Entry}
use Rattle.entering.specs.Entry.Entry.{ask, halt}
use Rattle.entering.specs.declared.Step.{Step}

-- a node may be entered: a level is left, and its goal is not yet on the branch
unfoldable pub may : ℕ → List Goal → Goal → Bool
may zero branch g = false
may (suc levels) branch g = fresh branch g

-- what a node's entry says of the record `rec`
unfoldable pub stepped : Result Step Reason → List ℕ → Entry
stepped (Ok s) rec = ask s.credential s.middle (listed s.asked) (drop 2 rec)
stepped (Err why) rec = halt (number_of why)

-- what is kept once a node that asks so many goals is entered: one that asks none ends a word
abbrev pub after_node : (ℕ → ℕ → ℕ) → List ℕ → ℕ → StateSets → ℕ → ℕ
after_node join t kept s len = pick (eqb len 0) (join kept (accepting_set t s)) kept
