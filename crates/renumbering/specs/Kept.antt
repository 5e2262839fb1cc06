-- Some of n credentials are kept, and these are numbered afresh in the same order.
use Rattle.std.specs.Prelude.{ℕ, suc, ◌-◌, Bool, get_or, length}
use Rattle.sets.specs.Logic.{◌and◌}
use Rattle.sorted.specs.Sorted.{those}
use Rattle.table.specs.Checks.{within}

-- credential c of n is kept; `p` says it of places, which are one lower
abbrev pub is_kept : (ℕ → Bool) → ℕ → ℕ → Bool
is_kept p n c = within 1 n c and p (c - 1)

-- its new number: one more than how many are kept before it
unfoldable pub new_number : (ℕ → Bool) → ℕ → ℕ
new_number p c = suc (length (those p (c - 1)))

-- and back
unfoldable pub old_number : (ℕ → Bool) → ℕ → ℕ → ℕ
old_number p n c = suc (get_or (those p n) (c - 1) 0)

abbrev pub kept_count : (ℕ → Bool) → ℕ → ℕ
kept_count p n = length (those p n)
