-- docs/DEFINITION.md, "The first record" and rows 15 and 16: what the writing call tells, and what the lent cells hold
-- afterwards.
use Rattle.std.specs.Prelude.{ℕ, ◌≡◌, List, Bool, length, leb, Result}
use Rattle.sorted.specs.Sorted.{laid}
use Rattle.table.specs.Outcome.{Outcome, ◌and_then◌, demand}
use Rattle.table.specs.Outcome.Outcome.{accepted, refused}
use Rattle.table.specs.Checks.{outcome_of, request_outcome}
use Rattle.table.specs.declared.Query.{Query}
use Rattle.table.specs.declared.Refusal.{Refusal}
use Rattle.attached.specs.Attached.{every_of, owed_of}
use Rattle.listing.specs.Minimal.{is_minimal}
use Rattle.walking.specs.First.{first_record}

-- 15: the set is not on the list; 16: there are fewer cells than the record has numbers; otherwise its length
unfoldable pub fitted : Bool → ℕ → ℕ → Outcome
fitted listed len cells = demand listed 15 0 and_then demand (leb len cells) 16 0 and_then accepted len

-- the request's rows, then 15, 16 or the length
unfoldable pub writing : List ℕ → Query → ℕ → ℕ → Outcome
writing t q S cells = request_outcome t q and_then fitted (is_minimal t q S) (length (first_record t q S)) cells

-- the cells change only where the record is written, and those beyond it are unchanged
unfoldable pub filled : Outcome → List ℕ → List ℕ → List ℕ
filled (accepted len) rec cells = laid rec cells
filled (refused number position) rec cells = cells

unfoldable pub record_after : List ℕ → Query → ℕ → List ℕ → List ℕ
record_after t q S cells = filled (writing t q S (length cells)) (first_record t q S) cells

-- the automata of the set by their marks, as the terms hold them: those that are imposed, and those that are owed
pub record Settled (t : List ℕ) (S A O : ℕ) : Type 0 where
  pub imposed : A ≡ every_of t S
  pub owed : O ≡ owed_of t S

-- past the request's rows: what is told, and what the cells hold afterwards
abbrev pub TellsRecord : List ℕ → Query → ℕ → List ℕ → List ℕ → Outcome → Type 0
TellsRecord t q S before after o =
    (o ≡ fitted (is_minimal t q S) (length (first_record t q S)) (length before)) × (after ≡ filled o (first_record t q S) before)

-- what the answer tells: the length, or why nothing is written
abbrev pub written_told : Result ℕ Refusal → Outcome
written_told result = outcome_of (λ len. len) result
