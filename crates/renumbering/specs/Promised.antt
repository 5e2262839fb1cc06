-- The law of agreement for tables: what the verifier accepts, which sets admit a record, which are minimal, and the lists.
-- `Alike` is the same seen from the other side (crates/agreement/specs/Promised.antt), so each of these goes both ways.
use Rattle.std.specs.Prelude.{ℕ, ◌^◌, ◌≡◌, List, map, Bool}
use Rattle.table.specs.Outcome.Outcome.{accepted}
use Rattle.table.specs.Layout.{credentials}
use Rattle.table.specs.Checks.{AcceptedTable, Valid}
use Rattle.table.specs.declared.Query.{Query}
use Rattle.verifier.specs.Verdict.{verdict}
use Rattle.listing.specs.Demands.{Admitted, Minimal, Used}
use Rattle.listing.specs.Minimal.{minimal_sets}
use Rattle.agreement.specs.Agrees.{Among, KeepsOrder, renamed_record, renumbered}
use Rattle.agreement.specs.Records.{Alike}
use Rattle.renumbering.specs.Lists.{sorted_below}

-- two accepted tables whose credentials of some numbers say the same, and a valid query
pub record Both (t t' : List ℕ) (q : Query) (mine theirs : ℕ → Bool) (to from : ℕ → ℕ) : Type 0 where
  pub table : AcceptedTable t
  pub table' : AcceptedTable t'
  pub valid : Valid q
  pub alike : Alike t t' mine theirs to from

-- such credentials of one table by their numbers in the other
abbrev pub counterparts : List ℕ → (ℕ → Bool) → (ℕ → ℕ) → ℕ → ℕ
counterparts t' theirs from S = renumbered theirs from (credentials t') S

-- a record that uses none but such credentials is accepted there with its credentials renumbered
abbrev pub VerdictAlike : Type 0
VerdictAlike =
    (t t' : List ℕ) (q : Query) (mine theirs : ℕ → Bool) (to from : ℕ → ℕ) → Both t t' q mine theirs to from
    → (rec : List ℕ) (S : ℕ) → Among mine S → verdict t q rec ≡ accepted S
    → verdict t' q (renamed_record to rec) ≡ accepted (counterparts t' theirs from S)

-- a set of such credentials that admits a record does so there
abbrev pub AdmittedAlike : Type 0
AdmittedAlike =
    (t t' : List ℕ) (q : Query) (mine theirs : ℕ → Bool) (to from : ℕ → ℕ) → Both t t' q mine theirs to from
    → (S : ℕ) → Among mine S → Admitted t q S → Admitted t' q (counterparts t' theirs from S)

-- and a minimal one is minimal there
abbrev pub MinimalAlike : Type 0
MinimalAlike =
    (t t' : List ℕ) (q : Query) (mine theirs : ℕ → Bool) (to from : ℕ → ℕ) → Both t t' q mine theirs to from
    → (S : ℕ) → Among mine S → Minimal t q S → Minimal t' q (counterparts t' theirs from S)

-- every accepted record uses none but such credentials
abbrev pub UsesAmong : List ℕ → Query → (ℕ → Bool) → Type 0
UsesAmong t q mine = (S : ℕ) → Used t q S → Among mine S

-- then the list there is this one, renumbered and sorted afresh
abbrev pub ListsAlike : Type 0
ListsAlike =
    (t t' : List ℕ) (q : Query) (mine theirs : ℕ → Bool) (to from : ℕ → ℕ) → Both t t' q mine theirs to from
    → UsesAmong t q mine → UsesAmong t' q theirs
    → minimal_sets t' q ≡ sorted_below (2 ^ credentials t') (map (counterparts t' theirs from) (minimal_sets t q))

-- and where the renumbering keeps the order nothing has to be sorted
abbrev pub ListsInOrder : Type 0
ListsInOrder =
    (t t' : List ℕ) (q : Query) (mine theirs : ℕ → Bool) (to from : ℕ → ℕ) → Both t t' q mine theirs to from
    → UsesAmong t q mine → UsesAmong t' q theirs → KeepsOrder mine to
    → minimal_sets t' q ≡ map (counterparts t' theirs from) (minimal_sets t q)
