-- `candidates::outside` meets its contract: the mask of all credentials, without those of the set.
use Rattle.std.proofs.Common.{arith}
use Rattle.candidates.proofs.Growing.{all-some, outside-is}
use Rattle.candidates.proofs.outside.Goals as goal

pub overflow_sub-result : goal.overflow_sub-result
overflow_sub-result c =
    all-some _ (omega (arith, c.credentials-n.ensures.same, c.requires.well_formed.sized.counted.few_credentials))

pub returns : goal.returns
returns c =
    let pre = c.requires in
    let n = c.credentials-n.ensures.same in
    rw (← n) (outside-is _ _ (omega (arith, n, pre.well_formed.sized.counted.few_credentials)) (rw n pre.set_bound))
