-- docs/DEFINITION.md, "The listing program", its input: the numbers that the bytes hold (Decoding.antt of the crate decoding) are
-- the query's four and then the table.
use Rattle.std.specs.Prelude.{ℕ, ◌%◌, List, Bool, drop, length, eqb, leb}
use Rattle.sets.specs.Logic.{◌and◌, pick}
use Rattle.table.specs.Outcome.{Outcome, ◌and_then◌, demand}
use Rattle.decoding.specs.Decoding.{counted_bytes, numbers_of, query_of, query_size}
use Rattle.listing.specs.Minimal.{buffer_after, listing}

-- the table is after the query's four numbers
abbrev pub table_of : List ℕ → List ℕ
table_of s = drop query_size s

-- an odd byte count, or fewer than 8 bytes, is no input
unfoldable pub is_whole : List ℕ → Bool
is_whole bytes = eqb (length bytes % 2) 0 and leb 8 (length bytes)

abbrev pub input_numbers : List ℕ → List ℕ
input_numbers bytes = numbers_of (counted_bytes bytes)

-- what is told of an input: 1 at 0 where it is none, otherwise what the list's call tells
unfoldable pub input_outcome : List ℕ → ℕ → Outcome
input_outcome bytes cells =
    demand (is_whole (counted_bytes bytes)) 1 0 and_then
    listing (table_of (input_numbers bytes)) (query_of (input_numbers bytes)) cells

-- and what the buffer holds afterwards
unfoldable pub input_buffer : List ℕ → List ℕ → List ℕ
input_buffer bytes buffer =
    pick (is_whole (counted_bytes bytes))
    (buffer_after (table_of (input_numbers bytes)) (query_of (input_numbers bytes)) buffer) buffer
