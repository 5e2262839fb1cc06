-- The credential is not allowed, or its cell says which role it defines.
use Rattle.std.proofs.Common.{◌∙◌}
use Rattle.sets.proofs.Tests.{failed, passed}
use Rattle.goals.proofs.Testing.{allowed-defines, unallowed}
use Rattle.goals.proofs.may_use.Goals as goal

pub returns-then-has : goal.returns-then-has
returns-then-has c =
    allowed-defines _ _ _ _ (passed c.has.ensures c.if-has.true) _ c.role_cell.ensures.0

pub returns-else-has : goal.returns-else-has
returns-else-has c = c.if-has.false ∙ unallowed _ _ _ _ (failed c.has.ensures c.if-has.false)
