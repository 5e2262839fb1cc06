-- `failures::joined` meets its contract: each place has the principals of both.
use Rattle.std.proofs.Common.{get_or, bit_or, rules}
use Rattle.sets.proofs.Filling.{filled}
use Rattle.failures.proofs.joined.Goals as goal

pub returns : goal.returns
returns c =
    let one = c.args.one.persons in
    let other = c.args.other.persons in
    filled _ _ (λ r. bit_or (get_or one r 0) (get_or other r 0)) (λ r y q k. search rules) _ 0 c.from_fn.ensures.items
