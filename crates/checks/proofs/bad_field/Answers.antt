-- A query is refused with 8.
use Rattle.table.specs.Checks.{number_of}
use Rattle.table.specs.declared.Reason.TheVariants as reason
use Rattle.table.proofs.Told.{told-at}
use Rattle.checks.proofs.bad_field.Goals as goal

pub returns : goal.returns
unfolding number_of
returns c = told-at reason.Query _
