-- Ticket 3 in its words: the written record follows the pair.
use Rattle.std.specs.Prelude.{ℕ, ◌≡◌, List, length, take}
use Rattle.table.specs.Outcome.Outcome.{accepted}
use Rattle.table.specs.Checks.{AcceptedTable, Valid}
use Rattle.table.specs.declared.Query.{Query}
use Rattle.derivation.specs.Promised.{RecordNoneTwice}
use Rattle.writing.specs.Writing.{record_after, writing}

-- on every branch of the record that is written no pair comes twice
abbrev pub WrittenNoneTwice : Type 0
WrittenNoneTwice =
    (t : List ℕ) (q : Query) (S : ℕ) (cells : List ℕ) (count : ℕ)
    → AcceptedTable t → Valid q → writing t q S (length cells) ≡ accepted count
    → RecordNoneTwice t q (take count (record_after t q S cells))
