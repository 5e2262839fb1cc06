-- `bwlchareg::bwlchareg_write` tells what `write` answers, and leaves the cells as `write` does.
use Rattle.std.proofs.Common.{◌≡◌, ◌∙◌, rules}
use Rattle.answers.proofs.Answers.{told-mapped}
use Rattle.bwlchareg.proofs.bwlchareg_write.Goals as goal

pub returns : goal.returns
returns c =
    let (outcome, cells) = rw c.query_of-query.ensures at c.write.ensures in
    (c.answer.ensures ∙ told-mapped (λ len. len) _ (λ a n p. search rules) _ _ c.map.ensures.cases ∙ outcome, cells)
