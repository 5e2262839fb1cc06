-- `families::Family::with` meets its contract: the bit of the set is put into its word. Assumes nothing.
use Rattle.families.proofs.Words.{one_more}
use borrow.Author.Rules.{rules}
use Rattle.families.proofs.Family.with.Goals as goal

pub returns : goal.returns
returns c = one_more _ _ c.requires (search rules) _ c.with.ensures
