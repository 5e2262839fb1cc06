-- `listing::list_admitted` meets its contract: all sets of what bears on the query are searched, and one of them is minimal.
use Rattle.table.specs.Checks.{number_of, outcome_of}
use Rattle.table.proofs.Told.{tells-whole}
use Rattle.relevance.proofs.Narrowing.{relevant-admits}
use Rattle.listing.proofs.Whole.{listed-told, longer-told, some-found, start-ended, start-held, start-ready, told-instead}
use Rattle.listing.proofs.list_admitted.Goals as goal

pub below-requires-clause-bears : goal.below-requires-clause-bears
below-requires-clause-bears c = relevant-admits _ c.args.request.now.prepared.well_formed _ _ c.requires.relevant

pub below-requires-clause-ready : goal.below-requires-clause-ready
below-requires-clause-ready c = start-ready _ _ _ c.requires.relevant.fits _

pub below-requires-clause-held : goal.below-requires-clause-held
below-requires-clause-held c = start-held _ _ _

pub returns-then-cells-found : goal.returns-then-cells-found
unfolding number_of
returns-then-cells-found c =
    let relevant = c.requires.relevant in
    let bears = relevant-admits _ c.args.request.now.prepared.well_formed _ _ relevant in
    let held = start-ended _ _ _ relevant.fits bears c.below.ensures in
    told-instead (tells-whole _ c.into.ensures) (longer-told _ _ _ _ _ held c.if-cells-found.true)

pub returns : goal.returns
unfolding outcome_of
returns c =
    let relevant = c.requires.relevant in
    let bears = relevant-admits _ c.args.request.now.prepared.well_formed _ _ relevant in
    let held = start-ended _ _ _ relevant.fits bears c.below.ensures in
    listed-told _ _ _ _ _ held (some-found _ _ _ held relevant.fits c.requires.usable_value) c.if-cells-found.false
