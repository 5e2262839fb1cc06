-- The result 0 says that the value is accepted, and no reason has the number 0.
use Rattle.table.specs.Checks.{outcome_of, told}
use Rattle.answers.specs.Answer.{answered}
use Rattle.answers.proofs.Answers.{answered-refusal}
use Rattle.answers.proofs.answer.Goals as goal

pub returns-in-Ok : goal.returns-in-Ok
unfolding answered outcome_of
returns-in-Ok c = rw c.in-Ok.is

pub returns-in-Err : goal.returns-in-Err
unfolding outcome_of told
returns-in-Err c = rw (c.into.ensures, c.in-Err.is) (answered-refusal c.in-Err.why.reason _)
