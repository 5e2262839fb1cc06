-- Every derivation of the queried membership uses only credentials whose role is reached.
use Rattle.relevance.proofs.Bearing.{relevant-found}
use Rattle.relevance.proofs.relevant.Goals as goal

pub returns : goal.returns
returns c =
    let found = c.reached.ensures in
    let asks = c.requires in
    relevant-found _ _ _ asks.well_formed asks.indexed asks.aimed _ _ _ found.0 found.1 c.credentials.ensures.same
    c.at_places.ensures
