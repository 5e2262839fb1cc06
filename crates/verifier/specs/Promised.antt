-- Ticket 3 in its words: the verifier follows the pair.
use Rattle.std.specs.Prelude.{ℕ, ◌≡◌, List}
use Rattle.table.specs.Outcome.Outcome.{accepted}
use Rattle.table.specs.Checks.{AcceptedTable, Valid}
use Rattle.table.specs.declared.Query.{Query}
use Rattle.derivation.specs.Promised.{RecordNoneTwice}
use Rattle.verifier.specs.Verdict.{verdict}

-- on every branch of a record that is read and accepted no pair comes twice
abbrev pub ReadNoneTwice : Type 0
ReadNoneTwice =
    (t : List ℕ) (q : Query) (rec : List ℕ) (S : ℕ)
    → AcceptedTable t → Valid q → verdict t q rec ≡ accepted S → RecordNoneTwice t q rec
