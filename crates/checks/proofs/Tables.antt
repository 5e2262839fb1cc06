-- The rows of a table, from one on: where those before it have passed, they are what is left of the table's outcome.
use mathlib.Core.Path.{◌≡◌, refl, sym, ◌∙◌}
use mathlib.Core.List.{List}
use Prim.Native.Nat.{ℕ}
use Rattle.table.specs.Outcome.{Outcome, ◌and_then◌, demand_each}
use Rattle.table.specs.Outcome.Outcome.{accepted}
use Rattle.table.specs.Layout.{credentials}
use Rattle.table.specs.Checks.{good_chain, head_outcome, table_outcome, table_outcome_to}
use Rattle.table.proofs.Stages.{then-on}
use Rattle.scans.specs.Rows.{records, row_outcome}
use Rattle.scans.specs.declared.Row.TheVariants as row
use Rattle.checks.proofs.Told.{row-empty}

module _ (t : List ℕ) where
  abbrev pub chain_row : Outcome
  chain_row = demand_each (good_chain t) (credentials t) 6

  abbrev pub from-edges : Outcome
  from-edges = row_outcome t row.Edges 7 and_then row_outcome t row.Marks 17

  abbrev pub from-chains : Outcome
  from-chains = chain_row and_then from-edges

  abbrev pub from-cells : Outcome
  from-cells = row_outcome t row.Cells 5 and_then from-chains

  abbrev pub from-credentials : Outcome
  from-credentials = row_outcome t row.Credentials 4 and_then from-cells

  pub from-head : (head_outcome t and_then from-credentials) ≡ table_outcome t
  unfolding table_outcome_to row_outcome
  from-head = refl

  -- no edges and no automata: nothing is asked
  pub rows-empty : records t row.Edges ≡ 0 → records t row.Marks ≡ 0 → accepted 0 ≡ from-edges
  unfolding row_outcome
  rows-empty edges marks = row-empty _ _ 17 marks ∙ then-on (sym (row-empty _ _ 7 edges))

  module _ (head : head_outcome t ≡ accepted 0) where
    pub credentials-left : from-credentials ≡ table_outcome t
    credentials-left = then-on head ∙ from-head

    module _ (few : row_outcome t row.Credentials 4 ≡ accepted 0) where
      pub cells_left : from-cells ≡ table_outcome t
      cells_left = then-on few ∙ credentials-left

      module _ (cells : row_outcome t row.Cells 5 ≡ accepted 0) where
        pub chains-left : from-chains ≡ table_outcome t
        chains-left = then-on cells ∙ cells_left

        module _ (chains : chain_row ≡ accepted 0) where
          pub edges-left : from-edges ≡ table_outcome t
          edges-left = then-on chains ∙ chains-left

          pub marks-left : row_outcome t row.Edges 7 ≡ accepted 0 → row_outcome t row.Marks 17 ≡ table_outcome t
          marks-left edges = then-on edges ∙ edges-left
