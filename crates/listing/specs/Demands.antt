-- Demands 1 and 3 on the three calls, clause by clause. `table_outcome t`, `verdict t q rec` and `listing t q cells` are what the
-- calls tell, and `buffer_after t q buffer` is what the lent buffer holds afterwards: the calls' contracts equate them.
use Rattle.std.specs.Prelude.{ℕ, ◌^◌, ◌<◌, ◌≤◌, ◌≡◌, List, true, ◌↔◌, get_or, length, take}
use Rattle.table.specs.Outcome.{Outcome}
use Rattle.table.specs.Outcome.Outcome.{accepted, refused}
use Rattle.table.specs.Layout.{credentials}
use Rattle.table.specs.Checks.{AcceptedTable, RequestRow, TableRow, Valid, request_outcome, table_outcome}
use Rattle.table.specs.declared.Query.{Query}
use Rattle.sets.specs.Sets.{part}
use Rattle.derivation.specs.Bounds.{Holdable}
use Rattle.verifier.specs.Verdict.{verdict}
use Rattle.verifier.specs.DemandTwo.{Refuses}
use Rattle.listing.specs.Minimal.{buffer_after, listing}

-- S is the used set of a record that the verifier accepts
abbrev pub Used : List ℕ → Query → ℕ → Type 0
Used t q S = (rec : List ℕ) × (verdict t q rec ≡ accepted S)

-- and of one that can be lent to it
abbrev pub UsedBySlice : List ℕ → Query → ℕ → Type 0
UsedBySlice t q S = (rec : List ℕ) × (verdict t q rec ≡ accepted S) × Holdable rec

-- some record using only credentials of S is accepted by the verifier
abbrev pub Admitted : List ℕ → Query → ℕ → Type 0
Admitted t q S = (T : ℕ) × Used t q T × (part T S ≡ true)

-- a minimal set is the used set of an accepted record, where no accepted record's used set is a proper part of it
pub record Minimal (t : List ℕ) (q : Query) (S : ℕ) : Type 0 where
  pub used : Used t q S
  pub least : (T : ℕ) → Used t q T → part T S ≡ true → T ≡ S

-- all minimal sets, nothing else, each once, ascending
pub record MinimalSets (t : List ℕ) (q : Query) (sets : List ℕ) : Type 0 where
  pub only : (i : ℕ) → i < length sets → Minimal t q (get_or sets i 0)
  pub every : (S : ℕ) → Minimal t q S → (i : ℕ) × (i < length sets) × (get_or sets i 0 ≡ S)
  pub ascending : (i j : ℕ) → i < j → j < length sets → get_or sets i 0 < get_or sets j 0

-- a list of so many sets in the first cells of the buffer
pub record Listed (t : List ℕ) (q : Query) (before after : List ℕ) (count : ℕ) : Type 0 where
  -- a set of the table's credentials includes a listed set exactly when some record using only its credentials is accepted
  pub full : (S : ℕ) → S < 2 ^ credentials t
      → (((i : ℕ) × (i < count) × (part (get_or after i 0) S ≡ true)) ↔ Admitted t q S)
  -- each listed set is the used set of an accepted record that a slice can hold
  pub used : (i : ℕ) → i < count → UsedBySlice t q (get_or after i 0)
  -- none includes another
  pub apart : (i j : ℕ) → i < count → j < count → part (get_or after i 0) (get_or after j 0) ≡ true → i ≡ j
  -- each stands once, ascending
  pub ascending : (i j : ℕ) → i < j → j < count → get_or after i 0 < get_or after j 0
  -- the list has as many cells as the count says, and cells beyond it are unchanged
  pub fits : count ≤ length after
  pub size : length after ≡ length before
  pub beyond : (i : ℕ) → count ≤ i → get_or after i 0 ≡ get_or before i 0

-- Demand 3, for a query and a buffer, whatever it held
pub record DemandThree (t : List ℕ) (q : Query) (buffer : List ℕ) : Type 0 where
  -- the minimal sets
  pub sets : List ℕ
  pub minimal : MinimalSets t q sets
  -- a slice can hold every accepted record: "no record of any length" is no record that can be lent
  pub holdable : (rec : List ℕ) (S : ℕ) → verdict t q rec ≡ accepted S → Holdable rec
  -- "none" exactly when no record of any length is accepted
  pub none : (listing t q (length buffer) ≡ refused 9 0) ↔ ((rec : List ℕ) (S : ℕ) → verdict t q rec ≡ accepted S → ⊥)
  -- "list longer than buffer" exactly when there are fewer cells than minimal sets
  pub longer : (listing t q (length buffer) ≡ refused 10 0) ↔ (length buffer < length sets)
  -- otherwise the list, whose count is the number of minimal sets
  pub otherwise : (listing t q (length buffer) ≡ refused 9 0 → ⊥) → (listing t q (length buffer) ≡ refused 10 0 → ⊥)
      → listing t q (length buffer) ≡ accepted (length sets)
  pub listed : (count : ℕ) → listing t q (length buffer) ≡ accepted count
      → (count ≡ length sets) × Listed t q buffer (buffer_after t q buffer) count

-- the outcome is a refusal by one of these rows
abbrev pub RefusedBy : (ℕ → Type 0) → Outcome → Type 0
RefusedBy Rows outcome = (number position : ℕ) × (outcome ≡ refused number position) × Rows number

-- the record is refused by the first thing that applies to it
abbrev pub RefusedFirst : List ℕ → Query → List ℕ → Type 0
RefusedFirst t q rec =
    (number position : ℕ) × (verdict t q rec ≡ refused number position) × Refuses t q rec number position

-- Demand 1: each call has a result or a refusal, for every table, query, record and buffer, of every length
pub data OneOf (A B : Type 0) : Type 0 where
  first : A → OneOf A B
  second : B → OneOf A B

pub record DemandOne (t : List ℕ) (q : Query) (rec buffer : List ℕ) : Type 0 where
  -- the table call makes the checks of the table's rows, and has nothing else to return
  pub table : OneOf (AcceptedTable t) (RefusedBy TableRow (table_outcome t))
  -- verifying and listing make the checks of the request's rows first
  pub request : OneOf (AcceptedTable t × Valid q) (RefusedBy RequestRow (request_outcome t q))
  pub stopped : (number position : ℕ) → request_outcome t q ≡ refused number position
      → (verdict t q rec ≡ refused number position) × (listing t q (length buffer) ≡ refused number position)
  -- past these a record is accepted, or refused by the first thing that applies to it
  pub verdicts : AcceptedTable t → Valid q → OneOf ((S : ℕ) × (verdict t q rec ≡ accepted S)) (RefusedFirst t q rec)
  -- every refusal of a list but 10 leaves the buffer unchanged
  pub unchanged : (number position : ℕ) → listing t q (length buffer) ≡ refused number position → (number ≡ 10 → ⊥)
      → buffer_after t q buffer ≡ buffer
  -- 10 fills it with the first sets
  pub filled : AcceptedTable t → Valid q → listing t q (length buffer) ≡ refused 10 0
      → (sets : List ℕ) → MinimalSets t q sets → buffer_after t q buffer ≡ take (length buffer) sets

abbrev pub Demands : Type 0
Demands =
    ((t : List ℕ) (q : Query) (rec buffer : List ℕ) → DemandOne t q rec buffer)
    × ((t : List ℕ) (q : Query) (buffer : List ℕ) → AcceptedTable t → Valid q → DemandThree t q buffer)
