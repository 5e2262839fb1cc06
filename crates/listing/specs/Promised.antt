-- Ticket 3 in its words: the list follows the pair.
use Rattle.std.specs.Prelude.{ℕ, ◌<◌, ◌≡◌, List, get_or, length}
use Rattle.table.specs.Outcome.Outcome.{accepted}
use Rattle.table.specs.Checks.{AcceptedTable, Valid}
use Rattle.table.specs.declared.Query.{Query}
use Rattle.derivation.specs.Promised.{RecordNoneTwice}
use Rattle.verifier.specs.Verdict.{verdict}
use Rattle.listing.specs.Minimal.{buffer_after, listing}

-- each listed set is the used set of an accepted record, on whose branches no pair comes twice
abbrev pub ListedNoneTwice : Type 0
ListedNoneTwice =
    (t : List ℕ) (q : Query) (buffer : List ℕ) (count i : ℕ)
    → AcceptedTable t → Valid q → listing t q (length buffer) ≡ accepted count → i < count
    → (rec : List ℕ) × (verdict t q rec ≡ accepted (get_or (buffer_after t q buffer) i 0)) × RecordNoneTwice t q rec
