-- `indexing::parts` meets its contract: each part has its place, and behind the last part stands that of the last.
use Rattle.std.proofs.Common.{ℕ, ◌∙◌, rules, tests, arith}
use Rattle.std.proofs.iter.Serving.{serving}
use Rattle.sets.proofs.Filling.{filled}
use Rattle.table.specs.Layout.{parts, role}
use Rattle.members.specs.Members.{padded}
use Rattle.members.specs.Places.{role_at}
use Rattle.indexing.proofs.Indexing.{held-some, part-at, parts-at}
use Rattle.indexing.proofs.parts.Goals as goal

pub overflow_sub-last : goal.overflow_sub-last
overflow_sub-last c = omega (arith, held-some _ _ _ (c.as_slice-roles.ensures ∙ c.chain-chain.ensures) c.requires.first_value)

pub from_fn-requires : goal.from_fn-requires
from_fn-requires c =
    let some = held-some _ _ _ (c.as_slice-roles.ensures ∙ c.chain-chain.ensures) c.requires.first_value in
    grind serving

pub returns : goal.returns
returns c =
    let t = c.args.table.now in
    let holds = c.as_slice-roles.ensures ∙ c.chain-chain.ensures in
    let some = held-some _ _ _ holds c.requires.first_value in
    let own = λ (k : ℕ). part-at _ _ _ holds k (role 0 0) some in
    parts-at _ _ _ c.requires.well_formed.sized.counted.few_credentials c.from_fn.ensures.items.long
    (filled _ _ (λ k. role_at t (padded (parts t c.args.first) k)) (λ k y q h. (search rules, search (rules, tests, own k)))
    _ 0 c.from_fn.ensures.items)
