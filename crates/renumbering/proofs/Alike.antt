-- Verdicts, sets that admit a record and minimal sets of tables that are alike.
use mathlib.Core.List.{List}
use mathlib.Core.Bool.{Bool}
use Prim.Native.Nat.{ℕ}
use Rattle.table.specs.Layout.{credentials}
use Rattle.table.specs.Checks.{AcceptedTable, Valid}
use Rattle.table.specs.declared.Query.{Query}
use Rattle.verifier.proofs.DemandTwo.{demand-two}
use Rattle.listing.specs.Demands.{Minimal, Used}
use Rattle.agreement.specs.Meaning.{UsedIn, meaning}
use Rattle.agreement.specs.Agrees.{Agrees, MinimalOf}
use Rattle.agreement.proofs.Tables.{accepted-in, in-accepted}
use Rattle.agreement.proofs.Agreeing.{admitted-carried, minimal-agrees}
use Rattle.agreement.proofs.Recording.{alike-agrees}
use Rattle.agreement.proofs.Promised.{accepted-alike}
use Rattle.renumbering.specs.Promised.{AdmittedAlike, Both, MinimalAlike, VerdictAlike}

-- what a table's meaning says of used sets is what the verifier says
module _ (t : List ℕ) (q : Query) (table : AcceptedTable t) (valid : Valid q) where
  pub used-in : (S : ℕ) → Used t q S → UsedIn (meaning t) q S
  used-in S (rec, e) = (rec, accepted-in t q rec S ((demand-two t q rec S table valid).0 e))

  pub in-used : (S : ℕ) → UsedIn (meaning t) q S → Used t q S
  in-used S (rec, a) = (rec, (demand-two t q rec S table valid).1 (in-accepted t q rec S a))

  pub minimal-in : (S : ℕ) → Minimal t q S → MinimalOf (UsedIn (meaning t) q) S
  minimal-in S m = record { used = used-in S m.used; least = λ T used within. m.least T (in-used T used) within }

  pub in-minimal : (S : ℕ) → MinimalOf (UsedIn (meaning t) q) S → Minimal t q S
  in-minimal S m = record { used = in-used S m.used; least = λ T used within. m.least T (used-in T used) within }

pub verdict-alike : VerdictAlike
verdict-alike t t' q mine theirs to from b rec S among told =
    (demand-two t' q _ _ b.table' b.valid).1
    (accepted-alike t t' mine theirs to from b.alike q rec S among ((demand-two t q rec S b.table b.valid).0 told))

module _ (t t' : List ℕ) (q : Query) (mine theirs : ℕ → Bool) (to from : ℕ → ℕ) (b : Both t t' q mine theirs to from) where
  abbrev agrees : Agrees (meaning t) (meaning t') (credentials t) (credentials t') mine theirs to from
  agrees = alike-agrees t t' mine theirs to from b.alike

pub admitted-alike : AdmittedAlike
admitted-alike t t' q mine theirs to from b S among (T, used, within) =
    let (T', used', within') = admitted-carried (meaning t) (meaning t') (credentials t) (credentials t') mine theirs to from
    (agrees t t' q mine theirs to from b) q S among (T, used-in t q b.table b.valid T used, within) in
    (T', in-used t' q b.table' b.valid T' used', within')

pub minimal-alike : MinimalAlike
minimal-alike t t' q mine theirs to from b S among m =
    in-minimal t' q b.table' b.valid _
    (minimal-agrees (meaning t) (meaning t') (credentials t) (credentials t') mine theirs to from
    (agrees t t' q mine theirs to from b) q S among (minimal-in t q b.table b.valid S m))
