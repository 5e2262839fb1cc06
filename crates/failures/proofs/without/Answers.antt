-- `failures::without` meets its contract: the cell of the role loses the principal, if it has it.
use Rattle.std.proofs.Common.{arith, rules}
use Rattle.sets.proofs.Tests.{failed, passed}
use Rattle.sets.proofs.Members.{one_bit}
use Rattle.failures.proofs.Sparing.{spared-none, spared-one}
use Rattle.failures.proofs.without.Goals as goal

pub returns-then-not-has : goal.returns-then-not-has
returns-then-not-has c = spared-none _ _ _ (failed c.has.ensures c.if-not-has.true)

pub returns : goal.returns
returns c =
    let there = passed c.has.ensures c.if-not-has.false in
    spared-one _ _ _ (search rules) (omega arith) there _ (one_bit 32 _ (omega arith))
