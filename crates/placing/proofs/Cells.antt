-- Where the cells of a row stand: those of an arc are among them, and a cell outside of the row is none of them.
use mathlib.Core.Path.{◌≡◌}
use mathlib.Core.Logic.{◌⊎◌, ⊎_elim}
use Prim.Native.Nat.{ℕ, ◌+◌, ◌*◌, ◌<◌, ◌≤◌}
use native.Mathlib.Omega.{arith}
use Rattle.moves.specs.Arcs.{arc_cells, from_cell, row_cells}
use Rattle.placing.specs.Placing.{row_cell}

pub arc-in-row : (p l k : ℕ) → from_cell p l k ≡ row_cell p (arc_cells * l + k)
arc-in-row p l k = omega arith

pub outside-row : (p x y : ℕ) → (x < row_cell p 0) ⊎ (row_cell p row_cells ≤ x) → y < row_cells → x ≡ row_cell p y → ⊥
outside-row p x y out less at = ⊎_elim (λ before. omega (arith, before, at)) (λ behind. omega (arith, behind, at, less)) out
