-- What the steps by which a row of the index is made leave in it: no arc, the arc that is looked for, an arc with one more edge.
use Rattle.std.specs.Prelude.{ℕ, ◌+◌, ◌-◌, ◌*◌, ◌^◌, ◌<◌, ◌≤◌, ◌≡◌, List, ◌⊎◌, get_or, length, set}
use Rattle.std.specs.Int.Bits.{bit_or}
use Rattle.table.specs.declared.Edge.{Edge}
use Rattle.moves.specs.Arcs.{first_row, from_cell, most_arcs, row_cells, to_cell}

-- cell x of the row of credential p + 1
abbrev pub row_cell : ℕ → ℕ → ℕ
row_cell p x = first_row + row_cells * p + x

-- nothing has changed but cells of that row
pub record Elsewhere (p : ℕ) (before after : List ℕ) : Type 0 where
  pub room : length after ≡ length before
  pub others : (x : ℕ) → (x < row_cell p 0) ⊎ (row_cell p row_cells ≤ x) → get_or after x 0 ≡ get_or before x 0

-- the row has no arc
pub record Cleared (p : ℕ) (before after : List ℕ) : Type 0 where
  pub elsewhere : Elsewhere p before after
  pub blank : (x : ℕ) → x < row_cells → get_or after (row_cell p x) 0 ≡ 0

-- the arc that leads to the state of the mask `to`, or the first that leads nowhere yet; sixteen where there is neither
pub record ArcFound (arcs : List ℕ) (p to l : ℕ) : Type 0 where
  pub few : l ≤ most_arcs
  pub passed : (m : ℕ) → m < l → get_or arcs (to_cell p m) 0 ≡ 0 → ⊥
  pub others : (m : ℕ) → m < l → get_or arcs (to_cell p m) 0 ≡ to → ⊥
  pub here : l < most_arcs → (get_or arcs (to_cell p l) 0 ≡ to) ⊎ (get_or arcs (to_cell p l) 0 ≡ 0)

-- arc l with the edge: it leads to the edge's `to` state, and for the edge's automaton from its `from` state too
unfoldable pub arc_with : List ℕ → ℕ → ℕ → Edge → List ℕ
arc_with arcs p l e =
    let own = from_cell p l (e.automaton - 1) in
    set (set arcs (to_cell p l) (2 ^ e.to)) own (bit_or (get_or arcs own 0) (2 ^ e.from))
