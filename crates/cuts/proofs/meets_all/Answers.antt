-- `cuts::meets_all` meets its contract: each of the first cuts is asked. Assumes nothing.
use Rattle.std.proofs.Common.{rules, ◌∙◌, take}
use borrow.Author.Tests.{tests}
use Rattle.std.proofs.lemmas.Iterator.{YieldsList-from_slice}
use Rattle.std.proofs.lemmas.Iterator.Search.{all_from_yields_List}
use Rattle.sets.specs.Sets.{meets}
use Rattle.cuts.proofs.Listing.{meets_all-listed}
use Rattle.cuts.proofs.meets_all.Goals as goal

pub returns : goal.returns
unfolding meets
returns c =
    all_from_yields_List (meets c.args.set) _ _ _ c.all.ensures.ran
    (YieldsList-from_slice (take c.args.count c.args.cuts.now) cc) (λ x b q k. search (rules, tests))
    ∙ meets_all-listed _ _ _ c.requires
