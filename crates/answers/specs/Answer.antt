-- How a C call tells an outcome: the result is 0, with a value, or the refusal's number, with a position.
use Rattle.std.specs.Prelude.{ℕ, zero, suc}
use Rattle.table.specs.Outcome.{Outcome}
use Rattle.table.specs.Outcome.Outcome.{accepted, refused}

unfoldable pub answered : ℕ → ℕ → Outcome
answered zero value = accepted value
answered (suc number) position = refused (suc number) position
