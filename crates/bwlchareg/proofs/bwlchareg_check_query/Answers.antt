-- `bwlchareg::bwlchareg_check_query` tells what `check_request` answers.
use Rattle.std.proofs.Common.{◌≡◌, ◌∙◌, rules}
use Rattle.answers.proofs.Answers.{told-mapped}
use Rattle.bwlchareg.proofs.bwlchareg_check_query.Goals as goal

pub returns : goal.returns
returns c =
    c.answer.ensures ∙ told-mapped (λ _. 0) _ (λ a n p. search rules) _ _ c.map.ensures.cases
    ∙ rw c.query_of-query.ensures at c.check_request.ensures
