-- The closure tells of a credential whether its role stands at one of the places.
use Rattle.std.proofs.Common.{get_or, rules}
use Rattle.sets.specs.Sets.{in_set}
use Rattle.members.specs.Members.{role_cell}
use Rattle.relevance.specs.Relevance.{defined_at}
use Rattle.relevance.proofs.at_places.Goals as goal

pub returns : goal.returns
unfolding defined_at
returns c =
    c.those.ensures (λ i. in_set c.args.places (get_or c.args.index.now (role_cell i) 0)) (λ i less told is. search rules)
