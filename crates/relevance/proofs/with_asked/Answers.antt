-- Each step takes in one more of the four.
use Rattle.relevance.proofs.Reaching.{asked-more, asked-none}
use Rattle.relevance.proofs.with_asked.Goals as goal

pub loop-k-init : goal.loop-k-init
loop-k-init c = asked-none _ _ _

pub loop-k-preserved : goal.loop-k-preserved
loop-k-preserved c =
    asked-more _ _ _ c.with-more.ensures _ _ c.loop-k.k _ c.asked_cell.ensures.0 c.loop-k.invariant
