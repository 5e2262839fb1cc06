-- docs/DEFINITION.md, "Where each input is stopped": the verifier's end. The request's rows, then 11 to 13 at each node, then
-- numbers left over, then 14.
use Rattle.std.specs.Prelude.{ℕ, List, [], ◌∷◌, Bool, Result}
use Rattle.table.specs.Outcome.{Outcome, ◌and_then◌, demand_each}
use Rattle.table.specs.Outcome.Outcome.{accepted, refused}
use Rattle.table.specs.Layout.{automata}
use Rattle.table.specs.Checks.{outcome_of, request_outcome}
use Rattle.table.specs.declared.Query.{Query}
use Rattle.table.specs.declared.Refusal.{Refusal}
use Rattle.derivation.specs.Rules.{goal_of}
use Rattle.derivation.specs.Forest.{Forest, count_from, used_set}
use Rattle.derivation.specs.Words.{met}
use Rattle.reader.specs.Reading.{Reading, reader}
use Rattle.reader.specs.Reading.Reading.{read, stop}

-- numbers left over come after the last node, and 14, with the lowest used automaton that is not met, last
-- by when a derivation meets an automaton, of so many
unfoldable pub judged_by : (Forest → ℕ → Bool) → ℕ → Reading → Outcome
judged_by met automata (stop number at) = refused number at
judged_by met automata (read [] f) = demand_each (met f) automata 14 and_then accepted (used_set f)
judged_by met automata (read (x ∷ more) f) = refused 11 (count_from 1 f)

abbrev pub judged : List ℕ → Reading → Outcome
judged t r = judged_by (met t) (automata t) r

-- the goal is at level 1, node 1, with nothing above it
unfoldable pub verdict : List ℕ → Query → List ℕ → Outcome
verdict t q rec = request_outcome t q and_then judged t (reader t q.depth [] (goal_of q ∷ []) rec 1)

-- what the verifier's result tells: the used set, or why the record is refused
abbrev pub verdict_told : Result ℕ Refusal → Outcome
verdict_told result = outcome_of (λ used. used) result
