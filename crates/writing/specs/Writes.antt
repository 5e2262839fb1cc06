-- Ticket 1 in its words: from a table, a query and one set of its list, the accepted record that uses exactly that set and is
-- first, compared number by number, the smaller first. `verdict t q rec` and `writing t q S cells` are what the calls tell, and
-- `record_after t q S cells` is what the lent cells hold afterwards: the calls' contracts equate them.
use Rattle.std.specs.Prelude.{ℕ, ◌<◌, ◌≤◌, ◌≡◌, List, [], ◌∷◌, ◌++◌, true, ◌↔◌, drop, length}
use Rattle.sets.specs.Sets.{part}
use Rattle.table.specs.Outcome.Outcome.{accepted, refused}
use Rattle.table.specs.Checks.{AcceptedTable, Valid, request_outcome}
use Rattle.table.specs.declared.Goal.{Goal}
use Rattle.table.specs.declared.Query.{Query}
use Rattle.derivation.specs.Forest.{Derives, Forest, written}
use Rattle.derivation.specs.Bounds.{Holdable}
use Rattle.verifier.specs.Verdict.{verdict}
use Rattle.listing.specs.Demands.{Minimal}
use Rattle.writing.specs.Writing.{record_after, writing}

-- one record comes before another: at the first difference it has the smaller number
pub data Before : List ℕ → List ℕ → Type 0 where
  smaller : {x y : ℕ} {xs ys : List ℕ} → x < y → Before (x ∷ xs) (y ∷ ys)
  further : {x : ℕ} {xs ys : List ℕ} → Before xs ys → Before (x ∷ xs) (x ∷ ys)

-- there always is a difference: of the records of two derivations of the same goals none begins the other
abbrev pub NoneBegins : Type 0
NoneBegins =
    (t : List ℕ) (levels : ℕ) (branch goals : List Goal) (f f' : Forest) (more : List ℕ)
    → Derives t levels branch goals f → Derives t levels branch goals f' → written f' ≡ written f ++ more → more ≡ []

-- the record is accepted and uses exactly S; every other accepted record that uses only credentials of S comes later
pub record First (t : List ℕ) (q : Query) (S : ℕ) (rec : List ℕ) : Type 0 where
  pub uses : verdict t q rec ≡ accepted S
  pub first : (rec' : List ℕ) (T : ℕ) → verdict t q rec' ≡ accepted T → part T S ≡ true → (rec' ≡ rec → ⊥) → Before rec rec'

-- for every table, query, set and cells, of every length
pub record WritesAny (t : List ℕ) (q : Query) (S : ℕ) (cells : List ℕ) : Type 0 where
  -- the request's rows come first
  pub stopped : (number position : ℕ) → request_outcome t q ≡ refused number position
      → writing t q S (length cells) ≡ refused number position
  -- a refusal leaves every cell unchanged
  pub unchanged : (number position : ℕ) → writing t q S (length cells) ≡ refused number position → record_after t q S cells ≡ cells

-- for an accepted table and a valid query
pub record Writes (t : List ℕ) (q : Query) (S : ℕ) (cells : List ℕ) : Type 0 where
  -- 15 exactly when S is not a minimal set
  pub unlisted : (writing t q S (length cells) ≡ refused 15 0) ↔ (Minimal t q S → ⊥)
  -- a minimal set has a first record, which a slice can hold, and no second one
  pub has_first : Minimal t q S → (rec : List ℕ) × First t q S rec × Holdable rec
  pub one-first : (rec rec' : List ℕ) → First t q S rec → First t q S rec' → rec ≡ rec'
  -- 16 exactly when it is a minimal set, and the first record is longer than the buffer
  pub longer : (writing t q S (length cells) ≡ refused 16 0)
      ↔ (Minimal t q S × (rec : List ℕ) × First t q S rec × (length cells < length rec))
  -- otherwise the record's length, and the record in the first cells; those beyond it are unchanged
  pub otherwise : (writing t q S (length cells) ≡ refused 15 0 → ⊥) → (writing t q S (length cells) ≡ refused 16 0 → ⊥)
      → (rec : List ℕ) × First t q S rec × (length rec ≤ length cells) × (writing t q S (length cells) ≡ accepted (length rec))
      × (record_after t q S cells ≡ rec ++ drop (length rec) cells)

abbrev pub WritesFirst : Type 0
WritesFirst =
    ((t : List ℕ) (q : Query) (S : ℕ) (cells : List ℕ) → WritesAny t q S cells)
    × ((t : List ℕ) (q : Query) (S : ℕ) (cells : List ℕ) → AcceptedTable t → Valid q → Writes t q S cells)
