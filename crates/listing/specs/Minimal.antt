-- docs/DEFINITION.md, "The list" and rows 9 and 10: the minimal sets, and what a buffer holds afterwards. specs/Demands.antt
-- states that this is the list that the definition means.
use Rattle.std.specs.Prelude.{ℕ, ◌^◌, ◌≡◌, List, Bool, not, length, eqb, leb, Result}
use Rattle.cuts.specs.Cuts.{is_least}
use Rattle.sorted.specs.Sorted.{laid, those}
use Rattle.table.specs.Outcome.{Outcome, ◌and_then◌, demand}
use Rattle.table.specs.Outcome.Outcome.{accepted, refused}
use Rattle.table.specs.Layout.{credentials}
use Rattle.table.specs.Checks.{outcome_of, request_outcome}
use Rattle.table.specs.declared.Query.{Query}
use Rattle.table.specs.declared.Refusal.{Refusal}
use Rattle.admission.specs.Admits.{admits}

-- some accepted record uses only credentials of S, and none uses only credentials of a proper part of it
abbrev pub is_minimal : List ℕ → Query → ℕ → Bool
is_minimal t q = is_least (admits t q)

-- ascending
unfoldable pub minimal_sets : List ℕ → Query → List ℕ
minimal_sets t q = those (is_minimal t q) (2 ^ credentials t)

-- 9: no minimal set; 10: more minimal sets than cells; otherwise the count
unfoldable pub counted : ℕ → ℕ → Outcome
counted cells count = demand (not (eqb count 0)) 9 0 and_then demand (leb count cells) 10 0 and_then accepted count

-- past the checks of table and query: what is told, and what the buffer holds afterwards
abbrev pub TellsList : List ℕ → Query → List ℕ → List ℕ → Outcome → Type 0
TellsList t q before after o = (o ≡ counted (length before) (length (minimal_sets t q))) × (after ≡ laid (minimal_sets t q) before)

-- the request's rows, then 9, 10 or the count
unfoldable pub listing : List ℕ → Query → ℕ → Outcome
listing t q cells = request_outcome t q and_then counted cells (length (minimal_sets t q))

-- the buffer changes only where the checks of table and query find nothing; with no minimal set nothing is laid
unfoldable pub afterwards : Outcome → List ℕ → List ℕ → List ℕ
afterwards (accepted value) sets buffer = laid sets buffer
afterwards (refused number position) sets buffer = buffer

unfoldable pub buffer_after : List ℕ → Query → List ℕ → List ℕ
buffer_after t q buffer = afterwards (request_outcome t q) (minimal_sets t q) buffer

-- what the answer tells: the count, or why nothing is listed
abbrev pub listing_told : Result ℕ Refusal → Outcome
listing_told result = outcome_of (λ count. count) result
