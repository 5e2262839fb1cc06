-- What the accessors of a table ask and promise: that the head and every record are there, and what a count is.
use Rattle.std.specs.Prelude.{ℕ, ◌≤◌, ◌≡◌, List, length}
use Rattle.table.specs.Limits.{most_credentials, most_cells, most_automata, most_edges}
use Rattle.table.specs.Layout.{automata, cells, credentials, edges, head_size, table_length}
use Rattle.table.specs.Checks.{AcceptedTable}

-- a count that the head says is n: it is inside its limit
pub record Counts (most n count : ℕ) : Type 0 where
  pub same : count ≡ n
  pub few : count ≤ most

-- the head is there, with each count inside its limit
pub record Counted (t : List ℕ) : Type 0 where
  pub head : head_size ≤ length t
  pub few_credentials : credentials t ≤ most_credentials
  pub few_cells : cells t ≤ most_cells
  pub few_automata : automata t ≤ most_automata
  pub few_edges : edges t ≤ most_edges

-- and the length is exactly what the head says, so that every record is there
pub record Sized (t : List ℕ) : Type 0 where
  pub counted : Counted t
  pub exact : length t ≡ table_length t

-- an accepted table, with the size that acceptance gives it
pub record WellFormed (t : List ℕ) : Type 0 where
  pub accepted : AcceptedTable t
  pub sized : Sized t
