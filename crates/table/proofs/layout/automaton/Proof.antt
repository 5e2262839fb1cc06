-- `table::layout::automaton` meets its contract: the record stands where its number says. Assumes nothing.
use borrow.Author.Rules.{rules}
use Rattle.table.specs.Layout.{automaton}
use Rattle.table.proofs.layout.automaton.Statement.{statement}
use Rattle.table.proofs.layout.automaton.Tie as tie

automata-base-requires : tie.Need-automata_base-requires
automata-base-requires c κs = search rules

sub-automaton-at : tie.Need-overflow_sub-k
sub-automaton-at c = search rules

mul-automaton-at : tie.Need-overflow_mul-k
mul-automaton-at c = search rules

add-automaton-at : tie.Need-overflow_add-automata_base
add-automaton-at c = search rules

automaton-at-requires : tie.Need-automaton_at-requires
automaton-at-requires c κs = search rules

returns : tie.Need-returns
unfolding automaton
returns c = rw (← c.automata_base.ensures) c.automaton_at.ensures

pub automaton_spec : {M : Type 1} → statement M
automaton_spec =
    tie.close
    (tie.spec
    automata-base-requires
    sub-automaton-at
    mul-automaton-at
    add-automaton-at
    automaton-at-requires
    returns)
