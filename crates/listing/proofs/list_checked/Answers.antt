-- `listing::list_checked` meets its contract: where what bears on the query is not admitted there is no minimal set; otherwise the
-- sets are listed, with an index of arcs where automata are attached.
use Rattle.std.proofs.Common.{refl}
use Rattle.sets.proofs.Tests.{failed}
use Rattle.table.specs.Checks.{number_of}
use Rattle.table.proofs.Told.{tells-whole}
use Rattle.relevance.proofs.Narrowing.{relevant-admits}
use Rattle.listing.proofs.Whole.{none_told, start_none, told-instead}
use Rattle.listing.proofs.list_checked.Goals as goal

pub returns-then-not-admits : goal.returns-then-not-admits
unfolding number_of
returns-then-not-admits c =
    let wf = c.requires.well_formed in
    let relevant = c.relevant-usable.ensures in
    let bears = relevant-admits _ wf _ _ relevant in
    let unproved = failed c.admits.ensures c.if-not-admits.true in
    told-instead (tells-whole _ c.into.ensures)
    (none_told _ _ _ _ _ (start_none _ _ _ relevant.fits bears wf unproved _) refl)
