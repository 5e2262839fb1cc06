-- `ranges::edge_ok` meets its contract: the automaton, the two states, then the label. Assumes nothing.
use mathlib.Core.Path.{◌∙◌}
use borrow.Author.Rules.{rules}
use borrow.Author.Tests.{le-leb, lt-leb}
use Rattle.sets.proofs.Tests.{and-off, and-on, flag_off, flag-on}
use Rattle.table.specs.Checks.{edge_to}
use Rattle.ranges.proofs.edge_ok.Statement.{statement}
use Rattle.ranges.proofs.edge_ok.Tie as tie

within-requires : tie.Need-within-requires
within-requires c κs = search rules

label-ok-requires : tie.Need-label_ok-requires
label-ok-requires c κs = search rules

returns : tie.Need-returns-then-e-le-LAST_STATE-2
unfolding edge_to
returns c =
    let if2 = c.if-e-le-LAST_STATE in
    let within = c.within in
    let if1 = c.if-within in
    c.label_ok.ensures ∙ and-on (le-leb _ _ c.if-e-le-LAST_STATE-2.true) ∙ and-on (le-leb _ _ if2.true) ∙
    flag-on within.ensures if1.true

returns-2 : tie.Need-returns-else-e-le-LAST_STATE-2
unfolding edge_to
returns-2 c =
    let if2 = c.if-e-le-LAST_STATE in
    let within = c.within in
    let if1 = c.if-within in
    and-off _ (lt-leb _ _ c.if-e-le-LAST_STATE-2.false) ∙ and-on (le-leb _ _ if2.true) ∙ flag-on within.ensures
    if1.true

returns-3 : tie.Need-returns-else-e-le-LAST_STATE
unfolding edge_to
returns-3 c =
    let within = c.within in
    let if1 = c.if-within in
    and-off _ (lt-leb _ _ c.if-e-le-LAST_STATE.false) ∙ flag-on within.ensures if1.true

returns-4 : tie.Need-returns-else-within
unfolding edge_to
returns-4 c = flag_off _ c.within.ensures c.if-within.false

pub edge_ok_spec : {M : Type 1} → statement M
edge_ok_spec =
    tie.close (tie.spec within-requires label-ok-requires returns returns-2 returns-3 returns-4)
