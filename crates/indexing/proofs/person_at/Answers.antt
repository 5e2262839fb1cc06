-- `indexing::person_at` meets its contract: the test is whether a credential names the principal.
use Rattle.std.proofs.Common.{rules}
use Rattle.members.specs.Places.{is_naming, person_at}
use Rattle.indexing.specs.Indexing.{names}
use Rattle.indexing.proofs.person_at.Goals as goal

pub returns : goal.returns
unfolding person_at is_naming names
returns c = c.first_place.ensures.at (is_naming c.args.table.now c.args.principal) (λ i told answer. search rules)
