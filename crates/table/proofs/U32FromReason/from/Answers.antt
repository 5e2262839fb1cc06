-- The declaration gives each reason the definition's number.
use Rattle.std.proofs.Common.{◌≡◌, ◌+◌, refl}
use denote.Enum.Declared.{tag_of}
use Rattle.table.specs.Checks.{number_of}
use Rattle.table.specs.contracts.Reason.{the_type}
use Rattle.table.specs.declared.Reason.{Reason}
use Rattle.table.specs.declared.Reason.TheVariants as reason
use Rattle.table.proofs.U32FromReason.from.Goals as goal

as-declared : (r : Reason) → tag_of the_type r + 1 ≡ number_of r
unfolding number_of
as-declared reason.ShortHead = refl
as-declared reason.CountOverLimit = refl
as-declared reason.WrongLength = refl
as-declared reason.Credential = refl
as-declared reason.Cell = refl
as-declared reason.Chain = refl
as-declared reason.Edge = refl
as-declared reason.Query = refl
as-declared reason.NoMinimalSet = refl
as-declared reason.LongerThanBuffer = refl
as-declared reason.RecordLength = refl
as-declared reason.Node = refl
as-declared reason.Branch = refl
as-declared reason.Word = refl
as-declared reason.NotListed = refl
as-declared reason.LongerRecord = refl
as-declared reason.Mark = refl

pub returns : goal.returns
returns c = as-declared c.args.reason
