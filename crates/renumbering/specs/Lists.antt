-- A list of numbers sorted afresh.
use Rattle.std.specs.Prelude.{ℕ, List, [], ◌∷◌, Bool, false, eqb}
use Rattle.sets.specs.Logic.{◌or◌}
use Rattle.sorted.specs.Sorted.{those}

-- the number stands in the list
unfoldable pub stands : List ℕ → ℕ → Bool
stands [] x = false
stands (y ∷ more) x = eqb y x or stands more x

-- the numbers of a list that are below n, ascending and each once
unfoldable pub sorted_below : ℕ → List ℕ → List ℕ
sorted_below n xs = those (stands xs) n
