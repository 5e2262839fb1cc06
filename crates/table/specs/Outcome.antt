-- docs/DEFINITION.md, "Where each input is stopped": the result of a call is what it accepts, or a refusal number and a
-- position. Checks go down the table; within a row, by ascending record number.
use Rattle.std.specs.Prelude.{ℕ, zero, suc, Bool, true, false}

infixr 25 ◌and_then◌
-- what a call tells: accepted, with a value (0 where there is nothing to return), or refused
pub data Outcome : Type 0 where
  accepted : (value : ℕ) → Outcome
  refused : (number position : ℕ) → Outcome

-- a later check speaks only where the earlier ones found nothing
unfoldable pub ◌and_then◌ : Outcome → Outcome → Outcome
accepted v and_then later = later
refused number position and_then later = refused number position

-- a check that passes, or stops with this number and position
unfoldable pub demand : Bool → ℕ → ℕ → Outcome
demand true number position = accepted 0
demand false number position = refused number position

-- a row of checks on the records 1 to n: the first that is not ok is the position
unfoldable pub demand_each : (ℕ → Bool) → ℕ → ℕ → Outcome
demand_each ok zero number = accepted 0
demand_each ok (suc n) number = demand_each ok n number and_then demand (ok (suc n)) number (suc n)
