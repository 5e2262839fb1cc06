-- The branch above a node as a search holds it: which pairs of principal and role stand on it, by their places.
use Rattle.std.specs.Prelude.{ℕ, ◌^◌, List, Bool, get_or, replicate, set}
use Rattle.std.specs.Int.Bits.{bit_or}
use Rattle.sets.specs.Sets.{in_set}
use Rattle.table.specs.Limits.{most_credentials}
use Rattle.table.specs.declared.Goal.{Goal}
use Rattle.members.specs.Places.{person_at, role_at}
use Rattle.members.specs.declared.above.Above.{Above}

-- nothing stands above the query's goal
unfoldable pub nothing_above : Above
nothing_above = record { persons = replicate most_credentials 0 }

-- the principal at `person` stands there in the role at `place`
unfoldable pub pair_above : Above → ℕ → ℕ → Bool
pair_above above person place = in_set (get_or above.persons place 0) person

-- and now does
unfoldable pub with_pair : Above → ℕ → ℕ → Above
with_pair above person place =
    record { persons = set above.persons place (bit_or (get_or above.persons place 0) (2 ^ person)) }

-- the same of a goal
unfoldable pub is_above : List ℕ → Above → Goal → Bool
is_above t above g = pair_above above (person_at t g.principal.0) (role_at t g.role)

unfoldable pub with_goal : List ℕ → Above → Goal → Above
with_goal t above g = with_pair above (person_at t g.principal.0) (role_at t g.role)
