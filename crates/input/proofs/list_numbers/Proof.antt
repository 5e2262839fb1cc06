-- `input::list_numbers` meets its contract: the first four numbers are the query, and what follows is the table. Assumes nothing.
use borrow.Author.Rules.{rules}
use Rattle.input.proofs.Inputs.{lists-rest}
use Rattle.input.proofs.list_numbers.Statement.{statement}
use Rattle.input.proofs.list_numbers.Tie as tie

query-of-requires : tie.Need-query_of-query-requires
query-of-requires c κs = search rules

sub-list : tie.Need-slice_bounds-list-count
sub-list c = search rules

part-list-start : tie.Need-slice_bounds-list-start
part-list-start c = search rules

part-list-end : tie.Need-slice_bounds-list-end
part-list-end c = search rules

list-requires : tie.Need-list-requires
list-requires c κs = search rules

same_length : tie.Need-shape_of-sets
same_length c = search rules

returns : tie.Need-returns
returns c =
    lists-rest c.args.numbers.now _ _ _ _ c.query_of-query.ensures c.list.ensures

pub list_numbers_spec : {M : Type 1} → statement M
list_numbers_spec =
    tie.close
    (tie.spec
    query-of-requires
    sub-list
    part-list-start
    part-list-end
    list-requires
    same_length
    returns)
