-- The lines of the first sets are put.
use Rattle.lines.proofs.Lines.{LinesPut}
use Rattle.lines.proofs.put_lines.Given as goal

abbrev pub invariant-loop-set : goal.invariant-loop-set
invariant-loop-set l = LinesPut l.fn.sets l.initial.out l.set-index l.out l.next
