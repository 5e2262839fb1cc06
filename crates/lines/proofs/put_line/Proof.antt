-- `lines::put_line` meets its contract: the digits, and the line's end. Assumes nothing.
use borrow.Author.Rules.{rules}
use native.Mathlib.Omega.{arith}
use Rattle.lines.proofs.Lines.{decimal-long, put_ended}
use Rattle.lines.proofs.put_line.Statement.{statement}
use Rattle.lines.proofs.put_line.Tie as tie

put-number-requires : tie.Need-put_number-next-requires
put-number-requires c κs = omega (arith, decimal-long _ c.ranges.number)

put-requires : tie.Need-put-requires
put-requires c κs =
    omega (arith, c.requires, c.put_number-next.ensures, c.put_number-next.auto.out, decimal-long _ c.ranges.number)

same_length : tie.Need-shape_of-out
same_length c = search rules

returns : tie.Need-returns
returns c =
    put_ended _ c.put_number-next.ensures c.put.ensures

pub put_line_spec : {M : Type 1} → statement M
put_line_spec =
    tie.close (tie.spec put-number-requires put-requires same_length returns)
