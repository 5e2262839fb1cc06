-- `bwlchareg::bwlchareg_check` tells what `check_table` answers.
use Rattle.std.proofs.Common.{◌≡◌, ◌∙◌, rules}
use Rattle.answers.proofs.Answers.{told-mapped}
use Rattle.bwlchareg.proofs.bwlchareg_check.Goals as goal

pub returns : goal.returns
returns c = c.answer.ensures ∙ told-mapped (λ _. 0) _ (λ a n p. search rules) _ _ c.map.ensures.cases ∙ c.check_table.ensures
