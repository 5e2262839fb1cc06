-- Each set gets what the arc gives from its own.
use Rattle.std.proofs.Common.{arith, rules}
use Rattle.moves.proofs.Arcs.{giving-all, giving-more, giving-none}
use Rattle.moves.proofs.by_arc.Goals as goal

pub loop-k-init : goal.loop-k-init
loop-k-init c = giving-none _ _ _ _ _ (search rules)

pub loop-k-preserved : goal.loop-k-preserved
loop-k-preserved c = giving-more (omega arith) c.loop-k.invariant c.given.ensures

pub returns : goal.returns
returns c = giving-all _ (omega arith) (search rules) c.loop-k.invariant
