-- The goals that a credential asks, by the places of principal and role: as the index has them.
use Rattle.std.specs.Prelude.{ℕ, zero, suc, ◌<◌, ◌≡◌, List, [], ◌∷◌, get_or, length}
use Rattle.members.specs.Members.{asked_cell}
use Rattle.search.specs.declared.asking.Pair.{Pair}

abbrev pub pair : ℕ → ℕ → Pair
pair person place = record { person = person; place = place }

-- the principal in each of so many roles that credential i + 1 asks, from role k on, by the index
unfoldable pub role_pairs : List ℕ → ℕ → ℕ → ℕ → ℕ → List Pair
role_pairs index person i zero k = []
role_pairs index person i (suc n) k = pair person (get_or index (asked_cell i k) 0) ∷ role_pairs index person i n (suc k)

-- goal r is a later one than goal k, and the same
pub record SameLater (asked : List Pair) (k r : ℕ) : Type 0 where
  pub later : k < r
  pub there : r < length asked
  pub same : get_or asked r (pair 0 0) ≡ get_or asked k (pair 0 0)
