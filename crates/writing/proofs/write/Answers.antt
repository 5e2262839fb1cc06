-- `writing::write` meets its contract: the request's rows, then the record is written.
use Rattle.std.proofs.Common.{rules, sym, ap, ◌∙◌}
use Rattle.table.specs.Checks.{outcome_of, told}
use Rattle.table.proofs.Told.{stage-hands-on, stage-passed}
use Rattle.table.proofs.WellFormed.{request-accepted}
use Rattle.writing.specs.Writing.{writing}
use Rattle.writing.proofs.Passes.{written-past, written-stopped}
use Rattle.writing.proofs.write.Goals as goal

pub returns-in_err-check_request : goal.returns-in_err-check_request
unfolding writing outcome_of told
returns-in_err-check_request c =
    let refuses = sym c.check_request.ensures ∙ ap (outcome_of (λ _. 0)) c.in_err-check_request.was in (
      stage-hands-on _ c.check_request.ensures _ _ c.in_err-check_request.was (search rules),
      (written-stopped _ _ _ _ (sym refuses)).1,
    )

pub write_checked-requires-clause-well_formed : goal.write_checked-requires-clause-well_formed
write_checked-requires-clause-well_formed c =
    (request-accepted _ _ (stage-passed _ c.check_request.ensures c.in_ok-check_request.was)).0

pub write_checked-requires-clause-valid : goal.write_checked-requires-clause-valid
write_checked-requires-clause-valid c =
    (request-accepted _ _ (stage-passed _ c.check_request.ensures c.in_ok-check_request.was)).1

pub returns : goal.returns
returns c =
    written-past _ _ _ _ (stage-passed _ c.check_request.ensures c.in_ok-check_request.was) c.write_checked.ensures
