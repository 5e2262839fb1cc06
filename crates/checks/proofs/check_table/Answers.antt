-- The stages of the table's rows, each asked where those before it have passed, so that what is left of the outcome is its own
-- and that of those after it.
use Rattle.std.proofs.Common.{rules, arith, ◌∙◌}
use Rattle.table.specs.Checks.{number_of}
use Rattle.table.proofs.Told.{stage-hands-on, stage-passed, tells-value}
use Rattle.scans.specs.Rows.{row_outcome}
use Rattle.checks.proofs.Tables.{cells_left, chains-left, credentials-left, edges-left, from-head, marks-left, rows-empty}
use Rattle.checks.proofs.check_table.Goals as goal

pub returns-in_err-check_head : goal.returns-in_err-check_head
returns-in_err-check_head c =
    stage-hands-on _ c.check_head.ensures.told _ _ c.in_err-check_head.was (search rules) ∙ from-head _

pub returns-in_err-none_bad : goal.returns-in_err-none_bad
unfolding row_outcome number_of
returns-in_err-none_bad c =
    let head = stage-passed _ c.check_head.ensures.told c.in_ok-check_head.was in
    let here = c.none_bad.ensures _ _ c.first_bad.ensures in
    stage-hands-on _ here _ _ c.in_err-none_bad.was (search rules) ∙ credentials-left _ head

pub returns-in_err-none_bad-2 : goal.returns-in_err-none_bad-2
unfolding row_outcome number_of
returns-in_err-none_bad-2 c =
    let head = stage-passed _ c.check_head.ensures.told c.in_ok-check_head.was in
    let few = stage-passed _ (c.none_bad.ensures _ _ c.first_bad.ensures) c.in_ok-none_bad.was in
    let here = c.none_bad-2.ensures _ _ c.first_bad-2.ensures in
    stage-hands-on _ here _ _ c.in_err-none_bad-2.was (search rules) ∙ cells_left _ head few

pub first_bad_chain-requires-clause-credentials_value : goal.first_bad_chain-requires-clause-credentials_value
unfolding row_outcome number_of
first_bad_chain-requires-clause-credentials_value c =
    stage-passed _ (c.none_bad.ensures _ _ c.first_bad.ensures) c.in_ok-none_bad.was

pub first_bad_chain-requires-clause-cells_value : goal.first_bad_chain-requires-clause-cells_value
unfolding row_outcome number_of
first_bad_chain-requires-clause-cells_value c =
    stage-passed _ (c.none_bad-2.ensures _ _ c.first_bad-2.ensures) c.in_ok-none_bad-2.was

pub returns-in_err-none_bad-3 : goal.returns-in_err-none_bad-3
unfolding row_outcome number_of
returns-in_err-none_bad-3 c =
    let head = stage-passed _ c.check_head.ensures.told c.in_ok-check_head.was in
    let few = stage-passed _ (c.none_bad.ensures _ _ c.first_bad.ensures) c.in_ok-none_bad.was in
    let cells = stage-passed _ (c.none_bad-2.ensures _ _ c.first_bad-2.ensures) c.in_ok-none_bad-2.was in
    let here = c.none_bad-3.ensures _ _ c.first_bad_chain.ensures in
    stage-hands-on _ here _ _ c.in_err-none_bad-3.was (search rules) ∙ chains-left _ head few cells

pub returns-then-edges-automata-eq0 : goal.returns-then-edges-automata-eq0
unfolding row_outcome number_of
returns-then-edges-automata-eq0 c =
    let head = stage-passed _ c.check_head.ensures.told c.in_ok-check_head.was in
    let few = stage-passed _ (c.none_bad.ensures _ _ c.first_bad.ensures) c.in_ok-none_bad.was in
    let cells = stage-passed _ (c.none_bad-2.ensures _ _ c.first_bad-2.ensures) c.in_ok-none_bad-2.was in
    let chains = stage-passed _ (c.none_bad-3.ensures _ _ c.first_bad_chain.ensures) c.in_ok-none_bad-3.was in
    let none = c.if-edges-automata-eq0.true in
    let empty = rows-empty _ (omega (arith, none, c.edges.ensures.same)) (omega (arith, none, c.automata.ensures.same)) in
    tells-value _ _ ∙ empty ∙ edges-left _ head few cells chains

pub returns-in_err-none_bad-4 : goal.returns-in_err-none_bad-4
unfolding row_outcome number_of
returns-in_err-none_bad-4 c =
    let head = stage-passed _ c.check_head.ensures.told c.in_ok-check_head.was in
    let few = stage-passed _ (c.none_bad.ensures _ _ c.first_bad.ensures) c.in_ok-none_bad.was in
    let cells = stage-passed _ (c.none_bad-2.ensures _ _ c.first_bad-2.ensures) c.in_ok-none_bad-2.was in
    let chains = stage-passed _ (c.none_bad-3.ensures _ _ c.first_bad_chain.ensures) c.in_ok-none_bad-3.was in
    let here = c.none_bad-4.ensures _ _ c.first_bad-3.ensures in
    stage-hands-on _ here _ _ c.in_err-none_bad-4.was (search rules) ∙ edges-left _ head few cells chains

pub returns : goal.returns
unfolding row_outcome number_of
returns c =
    let head = stage-passed _ c.check_head.ensures.told c.in_ok-check_head.was in
    let few = stage-passed _ (c.none_bad.ensures _ _ c.first_bad.ensures) c.in_ok-none_bad.was in
    let cells = stage-passed _ (c.none_bad-2.ensures _ _ c.first_bad-2.ensures) c.in_ok-none_bad-2.was in
    let chains = stage-passed _ (c.none_bad-3.ensures _ _ c.first_bad_chain.ensures) c.in_ok-none_bad-3.was in
    let edges = stage-passed _ (c.none_bad-4.ensures _ _ c.first_bad-3.ensures) c.in_ok-none_bad-4.was in
    c.none_bad-5.ensures _ _ c.first_bad-4.ensures ∙ marks-left _ head few cells chains edges
