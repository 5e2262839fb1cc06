-- `cuts::unmet` meets its contract: the first of the cuts that is not met is found. Assumes nothing.
use Rattle.std.proofs.Common.{rules, take}
use borrow.Author.Tests.{tests}
use Rattle.std.proofs.lemmas.Iterator.{YieldsList-from_slice}
use Rattle.std.proofs.lemmas.Iterator.Search.{find_from_yields_List}
use Rattle.sets.specs.Sets.{meets}
use Rattle.cuts.proofs.Listing.{missed, unmet-listed}
use Rattle.cuts.proofs.unmet.Goals as goal

pub returns : goal.returns
unfolding meets
returns c =
    let found =
    find_from_yields_List (missed c.args.set) _ _ c.find.result c.find.ensures.ran
    (YieldsList-from_slice (take c.args.count c.args.cuts.now) cc) (λ x b q k. search (rules, tests)) in
    cc (found, unmet-listed c.args.cuts.now c.args.count c.args.set c.requires)
