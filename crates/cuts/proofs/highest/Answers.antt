-- `cuts::highest` meets its contract: the greatest power of two that is not above the set is its highest member. Assumes nothing.
use Rattle.cuts.proofs.Single.{highest-in, highest_below}
use Rattle.cuts.proofs.highest.Goals as goal

pub returns : goal.returns
returns c =
    let power = c.ilog2.ensures in
    (highest-in _ _ power.power_le power.next_power_gt, highest_below _ _ power.power_le 20 c.requires.1)
