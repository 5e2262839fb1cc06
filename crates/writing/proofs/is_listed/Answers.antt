-- `writing::is_listed` meets its contract: a minimal set has credentials of the table alone, is admitted, and has none to spare.
use Rattle.std.proofs.Common.{sym}
use Rattle.sets.proofs.Tests.{failed, passed}
use Rattle.cuts.proofs.Least.{least-not}
use Rattle.writing.proofs.Listed.{below_all, beyond-unlisted}
use Rattle.writing.proofs.is_listed.Goals as goal

pub returns-then-set-credentials-ne0 : goal.returns-then-set-credentials-ne0
returns-then-set-credentials-ne0 c =
    let prepared = c.args.request.now.prepared in
    sym (beyond-unlisted _ prepared.well_formed _ prepared.valid _ _ c.credentials.ensures.same c.if-set-credentials-ne0.true)

pub returns-then-not-admits : goal.returns-then-not-admits
returns-then-not-admits c = sym (least-not _ _ (failed c.admits.ensures c.if-not-admits.true))

pub is_minimal-requires-clause-set_bound : goal.is_minimal-requires-clause-set_bound
is_minimal-requires-clause-set_bound c =
    below_all c.args.request.now.table.now _ _ c.credentials.ensures.same c.if-set-credentials-ne0.false

pub is_minimal-requires-clause-set_value : goal.is_minimal-requires-clause-set_value
is_minimal-requires-clause-set_value c = passed c.admits.ensures c.if-not-admits.false
