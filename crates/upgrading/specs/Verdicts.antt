-- The verifier's end by a table's records alone, whatever its layout and limits.
use Rattle.std.specs.Prelude.{ℕ, ◌≡◌, List, [], ◌∷◌, Bool, true, not, eqb}
use Rattle.sets.specs.Logic.{◌or◌}
use Rattle.sets.specs.Sets.{part}
use Rattle.table.specs.Outcome.{Outcome}
use Rattle.table.specs.Outcome.Outcome.{accepted}
use Rattle.table.specs.declared.Query.{Query}
use Rattle.derivation.specs.Rules.{goal_of}
use Rattle.derivation.specs.Forest.{Forest}
use Rattle.derivation.specs.Words.{uses_by, words_by}
use Rattle.reader.specs.Reading.{reader_by}
use Rattle.verifier.specs.Verdict.{judged_by}
use Rattle.agreement.specs.Opened.{Opened, is_met_of, premises_of}

-- the automaton is not used, or the words are what it demands
unfoldable pub met_of : Opened → Forest → ℕ → Bool
met_of o f k =
    not (uses_by (λ c. (o.credential c).automaton) f k)
    or is_met_of o k (words_by (λ c. (o.credential c).role) (λ c. eqb (o.credential c).kind 1) [] f)

-- what is told of a record, past the checks, where principals go up to `most`
unfoldable pub told_of : (most : ℕ) → Opened → Query → List ℕ → Outcome
told_of most o q rec = judged_by (met_of o) o.automata (reader_by (premises_of most o) q.depth [] (goal_of q ∷ []) rec 1)

-- a minimal set by what a verifier tells of each record
pub record MinimalBy (tells : List ℕ → Outcome) (S : ℕ) : Type 0 where
  pub used : (rec : List ℕ) × (tells rec ≡ accepted S)
  pub least : (T : ℕ) → ((rec : List ℕ) × (tells rec ≡ accepted T)) → part T S ≡ true → T ≡ S

-- its first record, likewise, by an order of records: `First` of crates/writing/specs/Writes.antt is so by `verdict` and `Before`
pub record FirstBy (Before : List ℕ → List ℕ → Type 0) (tells : List ℕ → Outcome) (S : ℕ) (rec : List ℕ) : Type 0 where
  pub uses : tells rec ≡ accepted S
  pub first : (rec' : List ℕ) (T : ℕ) → tells rec' ≡ accepted T → part T S ≡ true → (rec' ≡ rec → ⊥) → Before rec rec'
