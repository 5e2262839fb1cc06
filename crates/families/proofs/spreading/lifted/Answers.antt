-- `families::spreading::lifted` meets its contract: one shift moves all numbers that lack the bit. Assumes nothing.
use native.Mathlib.Omega.{arith}
use lib.Pow.{pow-lt}
use Rattle.sets.proofs.Members.{one_bit}
use Rattle.families.specs.Families.{word_bits}
use Rattle.families.proofs.Lifting.{lifted-spread}
use Rattle.families.proofs.spreading.lifted.Goals as goal

pub overflow_shl-result-2 : goal.overflow_shl-result-2
overflow_shl-result-2 c =
    let i = c.args.i in
    rw (one_bit 32 i (omega arith)) (pow-lt {i = i} {j = word_bits} c.requires)

pub returns : goal.returns
returns c = rw (one_bit 32 c.args.i (omega arith)) (lifted-spread _ _ _ c.having.ensures)
