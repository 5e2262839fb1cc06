-- What a proof by computation over a table computes with, under one name: a proof that says `unfolding opened` sees through the
-- accessors, the checks, and how a table is written from its records.
use mathlib.Core.List.{flat_map}
use Rattle.sets.specs.Logic.{◌and◌, ◌or◌, any_below, pick}
use Rattle.table.specs.Outcome.{◌and_then◌, demand, demand_each}
use Rattle.table.specs.Layout.{automaton, cell, cells_from, credential, edge, parts_by, same_role}
use Rattle.table.specs.Encoded.{automaton_numbers, cell_numbers, credential_numbers, edge_numbers, encoded}
use Rattle.table.specs.Checks.{cell_to, chain_ok, counts_ok, credential_to}
use Rattle.table.specs.Checks.{edge_to, good_cell_to, good_chain, good_credential_to, good_edge_to, good_mark, head_outcome}
use Rattle.table.specs.Checks.{is_name_to, is_principal_to, is_role_to, label_to, mark_ok, meaning_to}
use Rattle.table.specs.Checks.{query_outcome_to, request_outcome, table_outcome_to, within}
use Rattle.table.specs.Shop.{shop, tableT, tableU}

unfoldable pub opened : Unit {0}
unfolding ◌and◌ ◌or◌ any_below pick ◌and_then◌ demand demand_each automaton cell cells_from credential edge parts_by same_role flat_map
    automaton_numbers cell_numbers credential_numbers edge_numbers encoded cell_to chain_ok counts_ok
    credential_to edge_to good_cell_to good_chain good_credential_to good_edge_to good_mark head_outcome is_name_to is_principal_to
    is_role_to label_to mark_ok meaning_to query_outcome_to request_outcome table_outcome_to within shop tableT tableU
opened = tt
