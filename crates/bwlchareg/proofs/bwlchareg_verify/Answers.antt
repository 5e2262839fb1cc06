-- `bwlchareg::bwlchareg_verify` tells what `verify` answers.
use Rattle.std.proofs.Common.{◌≡◌, ◌∙◌, rules}
use Rattle.answers.proofs.Answers.{told-mapped}
use Rattle.bwlchareg.proofs.bwlchareg_verify.Goals as goal

pub returns : goal.returns
returns c =
    c.answer.ensures ∙ told-mapped (λ used. used) _ (λ a n p. search rules) _ _ c.map.ensures.cases
    ∙ rw c.query_of-query.ensures at c.verify.ensures
