-- The verdict from what is kept: the automata of the used set, the first that is not met, and what was read.
use mathlib.Core.Path.{◌≡◌, refl, sym, ap, ◌∙◌}
use mathlib.Core.List.{List, [], ◌∷◌}
use mathlib.Core.Bool.{not}
use Prim.Native.Nat.{ℕ, ◌+◌, ◌-◌, ◌≤◌}
use native.Mathlib.Omega.{arith}
use native.Mathlib.Numerals.{add-one}
use lib.ListN.{length}
use lib.Dec.{eqb}
use Rattle.sets.specs.Logic.{◌or◌, pick}
use Rattle.table.specs.Outcome.{Outcome, ◌and_then◌, demand_each}
use Rattle.table.specs.Outcome.Outcome.{accepted, refused}
use Rattle.table.specs.Layout.{automata, automaton}
use Rattle.table.specs.Holding.{WellFormed}
use Rattle.table.specs.declared.Automaton.{Automaton}
use Rattle.table.specs.declared.Query.{Query}
use Rattle.table.specs.declared.Goal.{Goal}
use Rattle.sets.specs.Sets.{in_set}
use Rattle.automata.specs.Together.{starting_sets}
use Rattle.automata.specs.declared.StateSets.{StateSets}
use Rattle.derivation.specs.Rules.{goal_of}
use Rattle.derivation.specs.Forest.{Forest, count_from, used_from, used_set}
use Rattle.reader.specs.Reading.{Reading}
use Rattle.reader.specs.Reading.Reading.{read, stop}
use Rattle.verifier.specs.DemandTwo.{Stops}
use Rattle.verifier.specs.DemandTwo.Stops.{short, unfit, deep, again, below, behind}
use Rattle.verifier.proofs.DemandTwo.{first-refusal}
use Rattle.attached.specs.Attached.{automata_of}
use Rattle.reader.specs.Tally.{ReadOn, StopsAt, every_from, passed_by, read_from, some_from, tally, tally_on}
use Rattle.reader.specs.declared.Tally.{Tally}
use Rattle.table.specs.Checks.{number_of}
use Rattle.table.specs.declared.Reason.{Reason}
use Rattle.reader.specs.Tally.Tallied.{passed, stopped}
use Rattle.verifier.specs.Kept.{all_automata, keeps}
use Rattle.verifier.specs.Verdict.{judged, judged_by}
use Rattle.verifier.proofs.Readings.{queried, reader-sound}
use Rattle.reader.proofs.Keeping.{count_next}
use Rattle.verifier.proofs.Judging.{words-judged}

-- automaton k, which the code has read as m, is asked for in the set of its mark
pub kept-flag : (t : List ℕ) (used every some imposed set k : ℕ) {m : Automaton} → imposed ≡ automata_of t used → m ≡ automaton t k
    → set ≡ pick (eqb m.mark 1) some every
    → (not (in_set imposed (k - 1)) or in_set set (k - 1)) ≡ keeps t used every some k
unfolding keeps
kept-flag t used every some imposed set k those found asked = rw (those, asked, found)

passed-stopped : {rest : List ℕ} {used nodes every some number at : ℕ} → passed rest used nodes every some ≡ stopped number at → ⊥
passed-stopped e = let z : ◌≡◌ {A = ℕ} 0 1 = cc in omega arith

-- the tally with which the code begins
abbrev pub begun : Tally
begun = record { used = 0; nodes = 0; words = record { every = all_automata; some = 0 } }

-- what is told of a reading: where it stopped, or the forest that was read
pub record Whole (t : List ℕ) (s : StateSets) (rest : List ℕ) (kept : Tally) (after : Reading) : Type 0 where
  pub forest : Forest
  pub reads : after ≡ read rest forest
  pub uses : kept.used ≡ used_from 0 forest
  pub counts : kept.nodes ≡ count_from 0 forest
  pub judges : (kept.words.every ≡ every_from t s all_automata forest) × (kept.words.some ≡ some_from t s 0 forest)

module _ (t : List ℕ) (s : StateSets) where
  told-stop : (number at : ℕ) (after : Reading) → stopped number at ≡ tally t s 0 0 all_automata 0 after → after ≡ stop number at
  unfolding tally
  told-stop number at (read more f) told = absurd (passed-stopped (sym told))
  told-stop number at (stop number' at') told = cc

  told-read : (rest : List ℕ) (kept : Tally) (after : Reading) → passed_by rest kept ≡ tally t s 0 0 all_automata 0 after
      → Whole t s rest kept after
  unfolding tally
  told-read rest kept (read more f) told =
      let same : more ≡ rest = cc in
      record { forest = f; reads = ap (λ (x : List ℕ). read x f) same; uses = cc; counts = cc; judges = (cc, cc) }
  told-read rest kept (stop number at) told = absurd (passed-stopped told)

no-numbers : (rest : List ℕ) → length rest ≡ 0 → rest ≡ []
no-numbers [] h = refl
no-numbers (x ∷ rest) h = absurd (omega arith)

-- the code begins with the query's goal, on all its levels, with nothing above it and every automaton at its start
pub record Begins (t : List ℕ) (q : Query) (levels : ℕ) (branch : List Goal) (g : Goal) (s : StateSets) : Type 0 where
  pub all-levels : levels ≡ q.depth
  pub nothing_above : branch ≡ []
  pub asked : g ≡ goal_of q
  pub starting : s ≡ starting_sets t

pub begins : {t : List ℕ} {q : Query} {levels : ℕ} {branch : List Goal} {g : Goal} {s : StateSets}
    → levels ≡ q.depth → branch ≡ [] → g ≡ goal_of q → s ≡ starting_sets t → Begins t q levels branch g s
begins all-levels nothing_above asked starting =
    record { all-levels = all-levels; nothing_above = nothing_above; asked = asked; starting = starting }

-- reading stops with 11, 12 or 13 alone
stop-number : {t : List ℕ} {levels at number position : ℕ} {branch goals : List Goal} {rec : List ℕ}
    → Stops t levels branch goals rec at number position → (11 ≤ number) × (number ≤ 13)
stop-number (short h) = (omega arith, omega arith)
stop-number (unfit h) = (omega arith, omega arith)
stop-number (deep h) = (omega arith, omega arith)
stop-number (again h f) = (omega arith, omega arith)
stop-number (below h f more) = stop-number more
stop-number (behind h f d more) = stop-number more

-- numbers are left over: 11 behind the last node
leftover : (t rest : List ℕ) (f : Forest) (nodes : ℕ) (after : Reading) → after ≡ read rest f → nodes ≡ count_from 0 f
    → (length rest ≡ 0 → ⊥) → refused 11 (nodes + 1) ≡ judged t after
unfolding judged_by
leftover t [] f nodes after reads counts more = absurd (more refl)
leftover t (x ∷ rest) f nodes after reads counts more = rw (reads, counts, add-one (count_from 0 f), ← count_next 0 f)

-- none is left over: row 14 by what is kept is row 14 by the forest
words-verdict : (t : List ℕ) → WellFormed t → (q : Query) (rec : List ℕ) (f : Forest) (used every some : ℕ)
    → queried t q rec ≡ read [] f
    → used ≡ used_from 0 f → (every ≡ every_from t (starting_sets t) all_automata f) × (some ≡ some_from t (starting_sets t) 0 f)
    → (demand_each (keeps t used every some) (automata t) 14 and_then accepted used) ≡ judged t (queried t q rec)
unfolding judged_by used_set
words-verdict t wf q rec f used every some whole uses (all, any) =
    let derives = (reader-sound t q.depth [] (goal_of q ∷ []) rec 1 whole).0 in
    rw (whole, uses, all, any)
    (ap (λ (o : Outcome). o and_then accepted (used_from 0 f)) (words-judged t q.depth [] (goal_of q ∷ []) f wf derives))

-- what is kept after the whole record, from the code's beginning on
whole-told : {t : List ℕ} {q : Query} {levels : ℕ} {branch : List Goal} {g : Goal} {s : StateSets} (rec : List ℕ)
    → Begins t q levels branch g s
    → read_from t levels branch (g ∷ []) s rec begun ≡ tally t (starting_sets t) 0 0 all_automata 0 (queried t q rec)
unfolding tally_on
whole-told rec b = rw (b.all-levels, b.nothing_above, b.asked, b.starting)

-- reading has stopped there
module _ {t : List ℕ} {q : Query} {levels : ℕ} {branch : List Goal} {g : Goal} {s : StateSets} {rec rest : List ℕ}
    {why : Reason} {kept : Tally} (b : Begins t q levels branch g s) (r : StopsAt t levels branch g s rec begun rest why kept) where
  stops-there : queried t q rec ≡ stop (number_of why) kept.nodes
  stops-there = told-stop t (starting_sets t) _ _ _ (r.told ∙ whole-told rec b)

  pub stops-number : (11 ≤ number_of why) × (number_of why ≤ 13)
  stops-number = stop-number ((first-refusal t q.depth [] (goal_of q ∷ []) rec 1 (number_of why) kept.nodes).0 stops-there)

  pub verdict-stops : refused (number_of why) kept.nodes ≡ judged t (queried t q rec)
  unfolding judged_by
  verdict-stops = rw stops-there

-- reading has passed
module _ {t : List ℕ} {q : Query} {levels : ℕ} {branch : List Goal} {g : Goal} {s : StateSets} {rec rest : List ℕ} {kept : Tally}
    (b : Begins t q levels branch g s) (r : ReadOn t levels branch g s rec begun rest kept) where
  whole : Whole t (starting_sets t) rest kept (queried t q rec)
  whole = told-read t (starting_sets t) rest kept _ (r.told ∙ whole-told rec b)

  pub verdict-leftover : (length rest ≡ 0 → ⊥) → refused 11 (kept.nodes + 1) ≡ judged t (queried t q rec)
  verdict-leftover more = leftover t rest whole.forest kept.nodes _ whole.reads whole.counts more

  pub verdict-words : WellFormed t → length rest ≡ 0
      → (demand_each (keeps t kept.used kept.words.every kept.words.some) (automata t) 14 and_then accepted kept.used)
      ≡ judged t (queried t q rec)
  verdict-words wf nothing =
      let all_read = whole.reads ∙ ap (λ (x : List ℕ). read x whole.forest) (no-numbers rest nothing) in
      words-verdict t wf q rec whole.forest kept.used kept.words.every kept.words.some all_read whole.uses whole.judges
