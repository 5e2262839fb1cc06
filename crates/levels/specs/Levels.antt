-- What the steps by which the table of members is filled ask and promise.
use Rattle.std.specs.Prelude.{ℕ, suc, ◌+◌, ◌<◌, ◌≡◌, List, Bool, true, false, not, ◌⊎◌, get_or, length, eqb}
use Rattle.sets.specs.Logic.{◌and◌}
use Rattle.sets.specs.Sets.{in_set, part, set_of}
use Rattle.table.specs.Layout.{credential}
use Rattle.members.specs.Members.{asked_cell, role_cell, row_cell, table_cells}
use Rattle.masks.specs.Masks.{mask, proved_members}

-- whom the simple memberships of the set among the first n credentials name is in their roles at the level
abbrev pub Named : List ℕ → List ℕ → ℕ → ℕ → List ℕ → ℕ → Type 0
Named t index S n rows level =
    (i : ℕ) → i < n → in_set S i ≡ true → (credential t (suc i)).kind ≡ 1
    → in_set (mask rows level (get_or index (role_cell i) 0)) (get_or index (asked_cell i 0) 0) ≡ true

-- credential i + 1, one of these, names whoever stands at p, and x is the cell of its role in row 1
pub record NamedBy (t index : List ℕ) (S n x p i : ℕ) : Type 0 where
  pub there : i < n
  pub inside : in_set S i ≡ true
  pub kind : (credential t (suc i)).kind ≡ 1
  pub cell : x ≡ row_cell 1 (get_or index (role_cell i) 0)
  pub person : p ≡ get_or index (asked_cell i 0) 0

-- the credentials of the set among the first n that are no simple memberships
abbrev pub is_rest : List ℕ → ℕ → ℕ → Bool
is_rest t S i = in_set S i and not (eqb (credential t (suc i)).kind 1)

abbrev pub rest_of : List ℕ → ℕ → ℕ → ℕ
rest_of t S n = set_of (is_rest t S) n

-- after the first n credentials row 1 has whom they name, and no cell anybody else; the others are told
pub record FirstLevel (t index : List ℕ) (S n : ℕ) (rows : List ℕ) (others : ℕ) : Type 0 where
  pub room : length rows ≡ table_cells
  pub named : Named t index S n rows 1
  pub only : (x p : ℕ) → in_set (get_or rows x 0) p ≡ true → (i : ℕ) × NamedBy t index S n x p i
  pub rest : others ≡ rest_of t S n

-- the cells up to the row of a level are as they were
abbrev pub UnchangedUpTo : ℕ → List ℕ → List ℕ → Type 0
UnchangedUpTo level rows rows' = (x : ℕ) → x < row_cell (level + 1) 0 → get_or rows' x 0 ≡ get_or rows x 0

-- the first n cells of the row behind a level are that row's
pub record Copied (level n : ℕ) (rows rows' : List ℕ) : Type 0 where
  pub room : length rows' ≡ table_cells
  pub kept : UnchangedUpTo level rows rows'
  pub copied : (r : ℕ) → r < n → mask rows' (level + 1) r ≡ mask rows level r

-- credential i + 1 of the set proves by the level's row whoever stands at p, and x is the cell of its role in the row behind
pub record ProvedBy (t index : List ℕ) (others level : ℕ) (rows : List ℕ) (x p i : ℕ) : Type 0 where
  pub inside : in_set others i ≡ true
  pub cell : x ≡ row_cell (level + 1) (get_or index (role_cell i) 0)
  pub proves : in_set (proved_members t index rows level i) p ≡ true

-- the row behind a level has taken in whom those of the first n credentials that are in the set prove by the level's row, and
-- nobody else
pub record RowGrown (t index : List ℕ) (others level n : ℕ) (rows rows' : List ℕ) (is_new : Bool) : Type 0 where
  pub room : length rows' ≡ table_cells
  pub kept : UnchangedUpTo level rows rows'
  pub grown : (x : ℕ) → part (get_or rows x 0) (get_or rows' x 0) ≡ true
  pub proved : (i : ℕ) → i < n → in_set others i ≡ true
      → part (proved_members t index rows level i) (mask rows' (level + 1) (get_or index (role_cell i) 0)) ≡ true
  pub only : (x p : ℕ) → in_set (get_or rows' x 0) p ≡ true
      → (in_set (get_or rows x 0) p ≡ true) ⊎ ((i : ℕ) × ProvedBy t index others level rows x p i)
  pub still : is_new ≡ false → rows' ≡ rows
