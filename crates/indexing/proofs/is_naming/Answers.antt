-- `indexing::is_naming` meets its contract: the kind is looked at, then the principal.
use Rattle.std.proofs.Common.{◌∙◌}
use Rattle.table.proofs.Reading.{is-number, not-number}
use Rattle.indexing.proofs.Indexing.{names-by, names-not}
use Rattle.indexing.proofs.is_naming.Goals as goal

pub returns-then-is : goal.returns-then-is
returns-then-is c = names-by _ _ (is-number c.is.ensures c.if-is.true)

pub returns-else-is : goal.returns-else-is
returns-else-is c = c.if-is.false ∙ names-not _ _ (not-number c.is.ensures c.if-is.false)
