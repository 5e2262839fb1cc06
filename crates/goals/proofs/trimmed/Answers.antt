-- The whole owed set stands for the family that has it.
use Rattle.goals.proofs.Testing.{trimmed-one}
use Rattle.goals.proofs.trimmed.Goals as goal

pub returns-then-has : goal.returns-then-has
returns-then-has c = trimmed-one _ _ _ c.requires c.has.ensures c.if-has.true c.only.ensures
