-- A search through the records of a row, one by one: the first bad one, or none.
use mathlib.Core.Path.{◌≡◌}
use mathlib.Core.Bool.{Bool, false}
use Prim.Native.Nat.{ℕ, ◌+◌, ◌<◌}
use native.Mathlib.Omega.{arith}
use borrow.Author.Tests.{ne_eqb}
use Rattle.std.specs.Prelude.{Some, None}
use Rattle.table.specs.Outcome.{demand, demand_each}
use Rattle.table.specs.Outcome.Outcome.{accepted}
use Rattle.table.proofs.Stages.{each-stops, each-through}
use Rattle.scans.specs.Rows.{FoundBad}

module _ (ok : ℕ → Bool) (i n : ℕ) (so_far : (number : ℕ) → demand_each ok i number ≡ accepted 0) where
  -- the loop has found none up to i, and record i + 1 is bad
  pub bad-next : i < n → ok (i + 1) ≡ false → FoundBad ok n (Some (i + 1))
  unfolding demand
  bad-next less fails =
      (omega arith, λ number. rw (ne_eqb (i + 1) 0 (λ e. omega arith)) (each-stops ok number i n (omega arith) (so_far number) fails))

  -- it has found none up to the last
  pub bad-none : i ≡ n → FoundBad ok n None
  unfolding demand
  bad-none all = λ number. each-through ok number i n all (so_far number)
