-- A set is a number: member i counts 2^i. A state s counts 2^s, automaton k and credential k count 2^(k-1). Nothing here
-- depends on how many members there may be.
use Rattle.std.specs.Prelude.{ℕ, zero, suc, ◌/◌, ◌%◌, ◌^◌, Bool, not, eqb}
use Rattle.std.specs.Int.Bits.{bit_and, bit_or}
use Rattle.sets.specs.Logic.{pick}

unfoldable pub in_set : ℕ → ℕ → Bool
in_set x s = eqb (x / 2 ^ s % 2) 1

-- the two sets have a member in common
unfoldable pub meets : ℕ → ℕ → Bool
meets x y = not (eqb (bit_and x y) 0)

-- each of x is in y
unfoldable pub part : ℕ → ℕ → Bool
part x y = eqb (bit_and x y) x

-- the set of all k below n that pass the test
unfoldable pub set_of : (ℕ → Bool) → ℕ → ℕ
set_of p zero = 0
set_of p (suc n) = pick (p n) (bit_or (set_of p n) (2 ^ n)) (set_of p n)
