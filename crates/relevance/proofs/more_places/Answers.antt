-- A role that is not new does not stand at a place, or what its credential asks was taken in before.
use Rattle.std.proofs.Common.{arith}
use Rattle.relevance.proofs.Reaching.{round-old, round-starts, round_with}
use Rattle.relevance.proofs.more_places.Goals.{then-is_new, else-is_new}
use Rattle.relevance.proofs.more_places.Goals as goal

pub loop-i-init : goal.loop-i-init
loop-i-init c = round-starts _ _ _

pub loop-i-preserved : goal.loop-i-preserved
loop-i-preserved c =
    let round = c.loop-i.invariant in
    elim c.if-is_new.branch [
      | then-is_new w ↦ round_with _ _ _ _ _ _ round w.more-is w.with_roles-more.ensures
      | else-is_new w ↦
          round-old _ _ _ _ _ _ round w.more-is _ (omega arith) c.requires.round c.role_cell.ensures.0 c.is_new.ensures
          w.if-is_new.false
    ]
