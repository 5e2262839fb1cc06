-- docs/DEFINITION.md, "The listing program": at most 4,096 bytes as 16-bit numbers, low byte first. Later bytes are ignored and
-- not counted. The first four numbers are a query.
use Rattle.std.specs.Prelude.{ℕ, ◌+◌, ◌*◌, List, [], ◌∷◌, take}
use Rattle.table.specs.Layout.{number}
use Rattle.table.specs.Checks.{as_query}
use Rattle.table.specs.declared.Query.{Query}

abbrev pub most_bytes : ℕ
most_bytes = 4096

-- low byte first
unfoldable pub from_bytes : ℕ → ℕ → ℕ
from_bytes low high = low + 256 * high

unfoldable pub numbers_of : List ℕ → List ℕ
numbers_of [] = []
numbers_of (low ∷ []) = []
numbers_of (low ∷ high ∷ bytes) = from_bytes low high ∷ numbers_of bytes

-- later bytes are ignored and not counted
abbrev pub counted_bytes : List ℕ → List ℕ
counted_bytes bytes = take most_bytes bytes

-- a query's four numbers, in the definition's order
abbrev pub query_size : ℕ
query_size = 4

abbrev pub query_of : List ℕ → Query
query_of s = as_query (number s 0) (number s 1) (number s 2) (number s 3)
