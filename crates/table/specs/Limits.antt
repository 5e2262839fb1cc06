-- docs/DEFINITION.md, "The table" and "The query": the limits of counts and fields, each under its name.
use Rattle.std.specs.Prelude.{ℕ}

abbrev pub most_credentials : ℕ
most_credentials = 20

abbrev pub most_cells : ℕ
most_cells = 63

abbrev pub most_automata : ℕ
most_automata = 8

abbrev pub most_edges : ℕ
most_edges = 128

-- principals and role names are each numbered 1 to 64
abbrev pub most_principals : ℕ
most_principals = 64

abbrev pub most_names : ℕ
most_names = 64

-- states are 0 to 15
abbrev pub last_state : ℕ
last_state = 15

-- a kind 4 chain has 2 to 4 cells
abbrev pub least_parts : ℕ
least_parts = 2

abbrev pub most_parts : ℕ
most_parts = 4

abbrev pub most_depth : ℕ
most_depth = 16
