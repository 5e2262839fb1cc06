-- `table::layout::edge` meets its contract: the record stands where its number says. Assumes nothing.
use borrow.Author.Rules.{rules}
use Rattle.table.specs.Layout.{edge}
use Rattle.table.proofs.layout.edge.Statement.{statement}
use Rattle.table.proofs.layout.edge.Tie as tie

edges-base-requires : tie.Need-edges_base-requires
edges-base-requires c κs = search rules

sub-edge-at : tie.Need-overflow_sub-k
sub-edge-at c = search rules

mul-edge-at : tie.Need-overflow_mul-k
mul-edge-at c = search rules

add-edge-at : tie.Need-overflow_add-edges_base
add-edge-at c = search rules

edge-at-requires : tie.Need-edge_at-requires
edge-at-requires c κs = search rules

returns : tie.Need-returns
unfolding edge
returns c = rw (← c.edges_base.ensures) c.edge_at.ensures

pub edge_spec : {M : Type 1} → statement M
edge_spec =
    tie.close
    (tie.spec edges-base-requires sub-edge-at mul-edge-at add-edge-at edge-at-requires returns)
