-- The law of agreement, stated for tables.
use Rattle.table.specs.Layout.{credentials}
use Rattle.agreement.specs.Meaning.{meaning}
use Rattle.agreement.specs.Promised.{AcceptedAlike}
use Rattle.agreement.proofs.Tables.{accepted-in, in-accepted}
use Rattle.agreement.proofs.Agreeing.{accepted-carried}
use Rattle.agreement.proofs.Recording.{alike-agrees}

pub accepted-alike : AcceptedAlike
accepted-alike t t' mine theirs to from alike q rec S among a =
    in-accepted t' q _ _
    (accepted-carried (meaning t) (meaning t') (credentials t) (credentials t') mine theirs to from
    (alike-agrees t t' mine theirs to from alike) q rec S among (accepted-in t q rec S a))
