-- `listing::list_with` meets its contract: the checks are those of the request, then the minimal sets are listed.
use Rattle.std.proofs.Common.{rules, sym, ap, ◌∙◌}
use Rattle.table.specs.Checks.{outcome_of, told}
use Rattle.table.proofs.Stages.{then-on}
use Rattle.table.proofs.Told.{stage-hands-on, stage-passed}
use Rattle.table.proofs.WellFormed.{request-accepted}
use Rattle.listing.specs.Minimal.{listing}
use Rattle.listing.proofs.Whole.{buffer-accepted, buffer-refused}
use Rattle.listing.proofs.list_with.Goals as goal

pub returns-in_err-check_request : goal.returns-in_err-check_request
unfolding listing outcome_of told
returns-in_err-check_request c =
    let refuses = sym c.check_request.ensures ∙ ap (outcome_of (λ _. 0)) c.in_err-check_request.was in (
      stage-hands-on _ c.check_request.ensures _ _ c.in_err-check_request.was (search rules),
      sym (buffer-refused _ _ _ refuses),
    )

pub list_checked-requires-clause-well_formed : goal.list_checked-requires-clause-well_formed
list_checked-requires-clause-well_formed c =
    (request-accepted _ _ (stage-passed _ c.check_request.ensures c.in_ok-check_request.was)).0

pub list_checked-requires-clause-valid : goal.list_checked-requires-clause-valid
list_checked-requires-clause-valid c =
    (request-accepted _ _ (stage-passed _ c.check_request.ensures c.in_ok-check_request.was)).1

pub returns : goal.returns
unfolding listing
returns c =
    let accepts = stage-passed _ c.check_request.ensures c.in_ok-check_request.was in
    (c.list_checked.ensures.0 ∙ then-on accepts, c.list_checked.ensures.1 ∙ sym (buffer-accepted _ _ _ accepts))
