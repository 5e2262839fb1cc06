-- `families::Family::or` meets its contract: each word of the union has the sets of both words. Assumes nothing.
use Rattle.std.proofs.Common.{rules, bit_or}
use Rattle.sets.proofs.Filling.{filled}
use Rattle.families.proofs.Words.{either-word, word}
use Rattle.families.proofs.Family.or.Goals as goal

pub returns : goal.returns
returns c =
    either-word c.args.self c.args.other _
    (filled _ _ (λ j. bit_or (word c.args.self j) (word c.args.other j)) (λ j y q k. search rules) _ 0 c.from_fn.ensures.items)
