-- `cuts::sole` meets its contract: what is gathered has the only chosen members of the cuts passed. Assumes nothing.
use Rattle.std.proofs.Common.{rules, take}
use Rattle.std.proofs.lemmas.Iterator.{YieldsList-from_slice}
use Rattle.std.proofs.lemmas.Fn.{fold_over, fronts}
use Rattle.cuts.proofs.Listing.{HasSole, sole-listed, sole_more, sole-none}
use Rattle.cuts.proofs.sole.Goals as goal

pub returns : goal.returns
returns c =
    let first = take c.args.count c.args.cuts.now in
    sole-listed _ _ _ _ c.requires
    (fold_over fronts (λ y. y.now) _ (HasSole c.args.chosen) _ (λ cuts found x more f' has k. search (rules, sole_more)) c.iter.result
    first _ _ (YieldsList-from_slice {s = c.iter.result} first cc).runs (sole-none c.args.chosen) c.fold.ensures.ran)
