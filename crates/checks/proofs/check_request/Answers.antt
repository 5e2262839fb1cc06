-- The table's rows, then row 8.
use Rattle.std.proofs.Common.{rules, ◌∙◌}
use Rattle.table.specs.Checks.{request_outcome}
use Rattle.table.proofs.Stages.{then-on}
use Rattle.table.proofs.Told.{stage-hands-on, stage-passed}
use Rattle.checks.proofs.check_request.Goals as goal

pub returns-in_err-check_table : goal.returns-in_err-check_table
unfolding request_outcome
returns-in_err-check_table c = stage-hands-on _ c.check_table.ensures _ _ c.in_err-check_table.was (search rules)

pub returns : goal.returns
unfolding request_outcome
returns c = c.check_query.ensures ∙ then-on (stage-passed _ c.check_table.ensures c.in_ok-check_table.was)
