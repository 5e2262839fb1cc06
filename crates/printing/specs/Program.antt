-- docs/DEFINITION.md, "The listing program": what it prints for its input. Printed.antt of the crate lines says which bytes those
-- of a list and of a refusal are.
use Rattle.std.specs.Prelude.{ℕ, List, replicate}
use Rattle.lines.specs.Printed.{cells, printed}
use Rattle.input.specs.Input.{input_buffer, input_outcome}

-- what the program prints for these bytes of its input
unfoldable pub program_prints : List ℕ → List ℕ
program_prints input = printed (input_outcome input cells) (input_buffer input (replicate cells 0))
