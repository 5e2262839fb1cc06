-- docs/DEFINITION.md, "Derivations": "So no derivation is excluded by what a slice can hold." How many nodes a derivation has,
-- and that a lent slice can hold its record.
use Rattle.std.specs.Prelude.{ℕ, ◌-◌, ◌*◌, ◌/◌, ◌^◌, ◌<◌, ◌≤◌, ◌≡◌, List, [], ◌∷◌, get_or, length}
use Rattle.table.specs.Limits.{most_depth, most_parts}
use Rattle.table.specs.Checks.{AcceptedTable}
use Rattle.table.specs.declared.Goal.{Goal}
use Rattle.derivation.specs.Forest.{Derives, Forest, count_from, written}

-- the nodes of a tree of so many levels whose nodes above the last level have four children each: (4^l - 1) / 3
abbrev pub nodes_within : ℕ → ℕ
nodes_within levels = (most_parts ^ levels - 1) / (most_parts - 1)

-- a derivation within so many levels has at most that many nodes for each goal
abbrev pub FewNodes : Type 0
FewNodes =
    (t : List ℕ) (levels : ℕ) (branch goals : List Goal) (f : Forest)
    → AcceptedTable t → Derives t levels branch goals f → count_from 0 f ≤ length goals * nodes_within levels

-- the definition's number, which is that of the deepest limit
abbrev pub most_nodes : ℕ
most_nodes = 1431655765

abbrev pub MostNodes : Type 0
MostNodes = most_nodes ≡ nodes_within most_depth

-- a record's numbers have 16 bits
abbrev pub number_bits : ℕ
number_bits = 16

-- a slice can hold the record: two numbers for each of so many nodes at most, and every one fits the record's number type
pub record Holdable (rec : List ℕ) : Type 0 where
  pub short : length rec ≤ 2 * most_nodes
  pub narrow : (i : ℕ) → i < length rec → get_or rec i 0 < 2 ^ number_bits

-- why it can: all that bounds a slice's length is that its elements take fewer than 2^63 bytes, and these take fewer than 2^33
abbrev pub ShortEnough : Type 0
ShortEnough = (rec : List ℕ) → Holdable rec → length rec * (number_bits / 8) < 2 ^ 63

-- so neither a slice's length nor the width of its numbers excludes a derivation of one goal, as deep as a query may ask
abbrev pub NoneExcluded : Type 0
NoneExcluded =
    (t : List ℕ) (levels : ℕ) (branch : List Goal) (g : Goal) (f : Forest)
    → AcceptedTable t → levels ≤ most_depth → Derives t levels branch (g ∷ []) f → Holdable (written f)
