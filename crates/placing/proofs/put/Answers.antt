-- Two cells change.
use Rattle.std.proofs.Common.{arith}
use Rattle.sets.proofs.Members.{one_bit}
use Rattle.placing.proofs.Putting.{put_is}
use Rattle.placing.proofs.put.Goals as goal

pub returns : goal.returns
returns c =
    let (own, (from, to)) = c.requires.numbered in
    put_is _ _ _ _ own c.wide.ensures.0 (one_bit 16 _ (omega arith)) (one_bit 16 _ (omega arith))
