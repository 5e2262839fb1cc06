-- `table::layout::automaton_at` meets its contract: three numbers, in the order of the layout. Assumes nothing.
use borrow.Author.Rules.{rules}
use Rattle.table.proofs.layout.automaton_at.Statement.{statement}
use Rattle.table.proofs.layout.automaton_at.Tie as tie

mul-t3 : tie.Need-offset_bounds-table-at
mul-t3 c = search rules

shared-slice-read-t5 : tie.Need-bounds-table-at
shared-slice-read-t5 c = search rules

add-t6 : tie.Need-overflow_add-result
add-t6 c = search rules

mul-t7 : tie.Need-offset_bounds-table-at-2
mul-t7 c = search rules

shared-slice-read-t9 : tie.Need-bounds-table-at-2
shared-slice-read-t9 c = search rules

add-t10 : tie.Need-overflow_add-result-2
add-t10 c = search rules

mul-t11 : tie.Need-offset_bounds-table-at-3
mul-t11 c = search rules

shared-slice-read-t13 : tie.Need-bounds-table-at-3
shared-slice-read-t13 c = search rules

returns : tie.Need-returns
returns c = search rules

pub automaton_at_spec : {M : Type 1} → statement M
automaton_at_spec =
    tie.close
    (tie.spec
    mul-t3
    shared-slice-read-t5
    add-t6
    mul-t7
    shared-slice-read-t9
    add-t10
    mul-t11
    shared-slice-read-t13
    returns)
