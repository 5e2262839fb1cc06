-- Who is in the roles that a credential asks, by a row of the table of members, and whom the credential proves to be in its own.
use Rattle.std.specs.Prelude.{ℕ, zero, suc, ◌<◌, ◌≤◌, ◌≡◌, List, get_or, length, eqb}
use Rattle.std.specs.Int.Bits.{bit_and, bit_or}
use Rattle.sets.specs.Logic.{pick}
use Rattle.sets.specs.Sets.{in_set}
use Rattle.table.specs.Limits.{most_credentials, most_depth}
use Rattle.table.specs.Layout.{credential, credentials}
use Rattle.members.specs.Members.{Placed, asked_cell, link_cell, row_cell, table_cells}

-- what is read of credential i + 1 and of a level is there
pub record Readable (index rows : List ℕ) (level i : ℕ) : Type 0 where
  pub placed : Placed index
  pub room : length rows ≡ table_cells
  pub last : level ≤ most_depth
  pub there : i < most_credentials

-- who is in the role at place r, by the row of a level
abbrev pub mask : List ℕ → ℕ → ℕ → ℕ
mask rows level r = get_or rows (row_cell level r) 0

-- who is in each of the roles that credential i + 1 asks
abbrev pub asked_mask : List ℕ → List ℕ → ℕ → ℕ → ℕ → ℕ
asked_mask index rows level i k = mask rows level (get_or index (asked_cell i k) 0)

unfoldable pub asked_members : List ℕ → List ℕ → ℕ → ℕ → ℕ
asked_members index rows level i =
    bit_and (bit_and (asked_mask index rows level i 0) (asked_mask index rows level i 1))
    (bit_and (asked_mask index rows level i 2) (asked_mask index rows level i 3))

-- who is in the linked role of some of the middles that stand below n, for credential i + 1
unfoldable pub linked_members : List ℕ → List ℕ → ℕ → ℕ → ℕ → ℕ → ℕ
linked_members index rows level i middles zero = 0
linked_members index rows level i middles (suc j) =
    let before = linked_members index rows level i middles j in
    pick (in_set middles j) (bit_or before (mask rows level (get_or index (link_cell i j) 0))) before

-- whom credential i + 1 proves to be in its role
unfoldable pub proved_members : List ℕ → List ℕ → List ℕ → ℕ → ℕ → ℕ
proved_members t index rows level i =
    let asked = asked_members index rows level i in
    pick (eqb (credential t (suc i)).kind 3) (linked_members index rows level i asked (credentials t)) asked
