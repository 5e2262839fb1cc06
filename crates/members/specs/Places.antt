-- Roles and principals by their places in the table. A role stands at the first credential that defines it, a principal at the
-- first simple membership that names it, so that a set of principals is a set of credentials, one register, whatever numbers
-- principals have. What has no place is put behind the last credential.
use Rattle.std.specs.Prelude.{ℕ, zero, suc, List, Bool, eqb}
use Rattle.sets.specs.Logic.{◌and◌, any_below, pick}
use Rattle.table.specs.Layout.{credential, credentials, same_role}
use Rattle.table.specs.declared.Role.{Role}

-- the least number below n that passes the test, n where there is none
unfoldable pub least : (ℕ → Bool) → ℕ → ℕ
least p zero = zero
least p (suc n) = pick (any_below p n) (least p n) (pick (p n) n (suc n))

-- credential i + 1 defines the role
unfoldable pub defines : List ℕ → Role → ℕ → Bool
defines t r i = same_role (credential t (suc i)).role r

-- credential i + 1 is a simple membership, and names the principal
unfoldable pub is_naming : List ℕ → ℕ → ℕ → Bool
is_naming t p i = eqb (credential t (suc i)).kind 1 and eqb (credential t (suc i)).first p

unfoldable pub role_at : List ℕ → Role → ℕ
role_at t r = least (defines t r) (credentials t)

unfoldable pub person_at : List ℕ → ℕ → ℕ
person_at t p = least (is_naming t p) (credentials t)

-- a principal stands at i
unfoldable pub is_person : List ℕ → ℕ → Bool
is_person t i = eqb (credential t (suc i)).kind 1 and eqb (person_at t (credential t (suc i)).first) i
