-- The sets have what the first l arcs give.
use mathlib.Core.Path.{◌≡◌}
use Rattle.moves.specs.Arcs.{led_sets}
use Rattle.moves.proofs.by_arcs.Given as goal

abbrev pub invariant-loop-l : goal.invariant-loop-l
invariant-loop-l l = l.next ≡ led_sets l.fn.arcs l.fn.place l.fn.states l.l
