-- `table::layout::cell` meets its contract: the record stands where its number says. Assumes nothing.
use borrow.Author.Rules.{rules}
use Rattle.table.specs.Layout.{cell}
use Rattle.table.proofs.layout.cell.Statement.{statement}
use Rattle.table.proofs.layout.cell.Tie as tie

cells-base-requires : tie.Need-cells_base-requires
cells-base-requires c κs = search rules

sub-cell-at : tie.Need-overflow_sub-j
sub-cell-at c = search rules

mul-cell-at : tie.Need-overflow_mul-j
mul-cell-at c = search rules

add-cell-at : tie.Need-overflow_add-cells_base
add-cell-at c = search rules

cell-at-requires : tie.Need-cell_at-requires
cell-at-requires c κs = search rules

returns : tie.Need-returns
unfolding cell
returns c = rw (← c.cells_base.ensures) c.cell_at.ensures

pub cell_spec : {M : Type 1} → statement M
cell_spec =
    tie.close
    (tie.spec cells-base-requires sub-cell-at mul-cell-at add-cell-at cell-at-requires returns)
