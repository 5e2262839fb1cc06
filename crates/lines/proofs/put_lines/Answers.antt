-- A set's line has at most ten digits.
use Rattle.std.proofs.Common.{arith}
use Rattle.lines.proofs.Lines.{lines-begin, lines-go-on}
use Rattle.lines.proofs.put_lines.Goals as goal

pub loop-set-init : goal.loop-set-init
loop-set-init c = lines-begin _ _

pub loop-set-preserved : goal.loop-set-preserved
loop-set-preserved c =
    let narrow = c.type_inv.sets c.loop-set.set-index in
    lines-go-on c.loop-set.invariant c.loop-set-test.true (omega arith) c.put_line-next.auto.out c.put_line-next.ensures
