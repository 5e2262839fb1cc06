-- A row tells what was found of its records.
use Rattle.checks.proofs.Told.{row-passes, row-stops}
use Rattle.checks.proofs.rows.none_bad.Goals as goal

pub returns-in-Some : goal.returns-in-Some
returns-in-Some c = λ ok n bad. row-stops ok n bad _ c.in-Some.is

pub returns-in-None : goal.returns-in-None
returns-in-None c = λ ok n bad. row-passes ok n bad _ c.in-None.is
