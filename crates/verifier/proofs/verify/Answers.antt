-- The request's rows, then the record is judged.
use Rattle.std.proofs.Common.{rules, ◌∙◌}
use Rattle.table.proofs.Stages.{then-on}
use Rattle.table.proofs.Told.{stage-hands-on, stage-passed}
use Rattle.table.proofs.WellFormed.{request-accepted}
use Rattle.verifier.specs.Verdict.{verdict}
use Rattle.verifier.proofs.verify.Goals as goal

pub returns-in_err-check_request : goal.returns-in_err-check_request
unfolding verdict
returns-in_err-check_request c = stage-hands-on _ c.check_request.ensures _ _ c.in_err-check_request.was (search rules)

pub judge-requires-clause-well_formed : goal.judge-requires-clause-well_formed
judge-requires-clause-well_formed c = (request-accepted _ _ (stage-passed _ c.check_request.ensures c.in_ok-check_request.was)).0

pub judge-requires-clause-valid : goal.judge-requires-clause-valid
judge-requires-clause-valid c = (request-accepted _ _ (stage-passed _ c.check_request.ensures c.in_ok-check_request.was)).1

pub returns : goal.returns
unfolding verdict
returns c = c.judge.ensures ∙ then-on (stage-passed _ c.check_request.ensures c.in_ok-check_request.was)
