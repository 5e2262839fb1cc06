-- Rows 1 to 3, one test each.
use Rattle.std.proofs.Common.{sym, ◌∙◌}
use borrow.Author.Tests.{eq-eqb, le-leb, lt-leb, ne_eqb}
use Rattle.sets.proofs.Tests.{failed, passed}
use Rattle.table.specs.Checks.{head_outcome, number_of}
use Rattle.table.proofs.Sizes.{counted}
use Rattle.table.proofs.Stages.{demand-off, demand-on, demand-passes, demand-stops}
use Rattle.table.proofs.Told.{tells-value, tells-whole}
use Rattle.checks.proofs.rows.check_head.Goals as goal

pub returns-then-table-lt-HEAD_SIZE-clause-told : goal.returns-then-table-lt-HEAD_SIZE-clause-told
unfolding head_outcome number_of
returns-then-table-lt-HEAD_SIZE-clause-told c =
    tells-whole _ c.into.ensures ∙ sym (demand-off 1 0 _ (lt-leb _ _ c.if-table-lt-HEAD_SIZE.true))

pub returns-then-not-counts_ok-clause-told : goal.returns-then-not-counts_ok-clause-told
unfolding head_outcome number_of
returns-then-not-counts_ok-clause-told c =
    let long = demand-on 1 0 (le-leb _ _ c.if-table-lt-HEAD_SIZE.false) in
    let over = failed c.counts_ok.ensures c.if-not-counts_ok.true in
    tells-whole _ c.into-then-not-counts_ok.ensures ∙ sym (long ∙ demand-off 2 0 _ over)

pub table_length-requires : goal.table_length-requires
table_length-requires c =
    counted _ c.if-table-lt-HEAD_SIZE.false (passed c.counts_ok.ensures c.if-not-counts_ok.false)

pub returns-then-table-table_length-clause-told : goal.returns-then-table-table_length-clause-told
unfolding head_outcome number_of
returns-then-table-table_length-clause-told c =
    let long = demand-on 1 0 (le-leb _ _ c.if-table-lt-HEAD_SIZE.false) in
    let few = demand-on 2 0 (passed c.counts_ok.ensures c.if-not-counts_ok.false) in
    let other = ne_eqb _ _ (λ e. c.if-table-table_length.true (e ∙ sym c.table_length.ensures)) in
    tells-whole _ c.into-then-table-table_length.ensures ∙ sym (long ∙ few ∙ demand-stops 3 0 other)

pub returns-clause-sized : goal.returns-clause-sized
returns-clause-sized c =
    record {
      counted = counted _ c.if-table-lt-HEAD_SIZE.false (passed c.counts_ok.ensures c.if-not-counts_ok.false);
      exact = c.if-table-table_length.false ∙ c.table_length.ensures;
    }

pub returns-clause-told : goal.returns-clause-told
unfolding head_outcome
returns-clause-told c =
    let long = demand-on 1 0 (le-leb _ _ c.if-table-lt-HEAD_SIZE.false) in
    let few = demand-on 2 0 (passed c.counts_ok.ensures c.if-not-counts_ok.false) in
    let exact = eq-eqb _ _ (c.if-table-table_length.false ∙ c.table_length.ensures) in
    tells-value _ _ ∙ sym (long ∙ few ∙ demand-passes 3 0 exact)
