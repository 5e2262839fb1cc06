-- `indexing::role_at` meets its contract: the test is whether a credential defines the role.
use Rattle.std.proofs.Common.{rules}
use Rattle.members.specs.Places.{defines, role_at}
use Rattle.table.proofs.Equality.{role-eq}
use Rattle.indexing.proofs.role_at.Goals as goal

pub returns : goal.returns
unfolding role_at defines
returns c = c.first_place.ensures.at (defines c.args.table.now c.args.role) (λ i told answer. role-eq _ _ (search rules))
