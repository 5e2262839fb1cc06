-- `refused `, the number, a space, and the position's line.
use Rattle.std.proofs.Common.{arith}
use Rattle.lines.proofs.Lines.{decimal-long}
use Rattle.lines.proofs.Filling.{refusal-filled}
use Rattle.lines.proofs.put_place.Goals as goal

pub put_number-next-requires : goal.put_number-next-requires
put_number-next-requires c = omega (arith, c.requires, c.put-next, decimal-long _ c.ranges.number)

pub put-next-requires-2 : goal.put-next-requires-2
put-next-requires-2 c = omega (arith, c.requires, c.put-next, c.put_number-next, decimal-long _ c.ranges.number)

pub put_line-requires : goal.put_line-requires
put_line-requires c =
    omega (arith, c.requires, c.put-next, c.put_number-next, c.put-next-2, decimal-long _ c.ranges.number)

pub returns : goal.returns
returns c =
    refusal-filled _ _ c.put-next.ensures c.put_number-next.ensures c.put-next-2.ensures c.put_line.ensures
