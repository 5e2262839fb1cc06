-- `table::layout::table_length` meets its contract: the edges stand last, six numbers each. Assumes nothing.
use borrow.Author.Rules.{rules}
use Rattle.table.proofs.layout.table_length.Statement.{statement}
use Rattle.table.proofs.layout.table_length.Tie as tie

edges-base-requires : tie.Need-edges_base-requires
edges-base-requires c κs = search rules

edges-requires : tie.Need-edges-requires
edges-requires c κs = search rules

mul-result : tie.Need-overflow_mul-result
mul-result c = search rules

add-result : tie.Need-overflow_add-result
add-result c = search rules

returns : tie.Need-returns
returns c = search rules

pub table_length_spec : {M : Type 1} → statement M
table_length_spec =
    tie.close (tie.spec edges-base-requires edges-requires mul-result add-result returns)
