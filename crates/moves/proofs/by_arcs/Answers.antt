-- The arcs end with the last, or with the first that leads nowhere: those behind it give no more.
use mathlib.Core.Path.{◌∙◌}
use mathlib.Core.Logic.{inr}
use Rattle.std.proofs.Common.{arith}
use Rattle.moves.proofs.Arcs.{led-all, led-more, led-none}
use Rattle.moves.proofs.by_arcs.Goals as goal

pub loop-l-init : goal.loop-l-init
loop-l-init c = led-none _ _ _

pub returns-then-arcs-at-eq0 : goal.returns-then-arcs-at-eq0
returns-then-arcs-at-eq0 c = c.loop-l.invariant ∙ led-all _ _ _ _ c.requires.ended (omega arith) (inr c.if-arcs-at-eq0.true)

pub loop-l-preserved : goal.loop-l-preserved
loop-l-preserved c = c.by_arc-next.ensures ∙ led-more _ _ _ _ c.loop-l.invariant
