-- `minimal::is_spare` meets its contract: it asks both, that the credential is there and that the set is admitted without it.
use Rattle.std.proofs.Common.{arith, ◌∙◌}
use Rattle.admission.specs.Admits.{admits}
use Rattle.minimal.proofs.Spare.{spare-in, spare-out}
use Rattle.minimal.proofs.is_spare.Goals as goal

pub returns-then-has : goal.returns-then-has
returns-then-has c = spare-in (admits _ _) _ _ (omega arith) c.has.ensures c.if-has.true c.admits.ensures

pub returns-else-has : goal.returns-else-has
returns-else-has c = c.if-has.false ∙ spare-out (admits _ _) _ _ c.has.ensures c.if-has.false
