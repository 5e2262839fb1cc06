-- `bwlchareg::bwlchareg_list` tells what `list` answers, and leaves the buffer as `list` does.
use Rattle.std.proofs.Common.{◌≡◌, ◌∙◌, rules}
use Rattle.answers.proofs.Answers.{told-mapped}
use Rattle.bwlchareg.proofs.bwlchareg_list.Goals as goal

pub returns : goal.returns
returns c =
    let (outcome, buffer) = rw c.query_of-query.ensures at c.list.ensures in
    (c.answer.ensures ∙ told-mapped (λ count. count) _ (λ a n p. search rules) _ _ c.map.ensures.cases ∙ outcome, buffer)
