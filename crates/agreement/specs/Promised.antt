-- The law of agreement for tables, as far as records go. crates/renumbering/specs/Promised.antt has what it says of sets and
-- lists.
use Rattle.std.specs.Prelude.{ℕ, List, Bool}
use Rattle.table.specs.Layout.{credentials}
use Rattle.table.specs.declared.Query.{Query}
use Rattle.derivation.specs.Accepted.{Accepted}
use Rattle.agreement.specs.Agrees.{Among, renamed_record, renumbered}
use Rattle.agreement.specs.Records.{Alike}

-- a record that uses none but such credentials is accepted there with its credentials renumbered; its used set likewise
abbrev pub AcceptedAlike : Type 0
AcceptedAlike =
    (t t' : List ℕ) (mine theirs : ℕ → Bool) (to from : ℕ → ℕ) → Alike t t' mine theirs to from
    → (q : Query) (rec : List ℕ) (S : ℕ) → Among mine S → Accepted t q rec S
    → Accepted t' q (renamed_record to rec) (renumbered theirs from (credentials t') S)

-- being alike is the same seen from the other side
abbrev pub AlikeBack : Type 0
AlikeBack =
    (t t' : List ℕ) (mine theirs : ℕ → Bool) (to from : ℕ → ℕ) → Alike t t' mine theirs to from → Alike t' t theirs mine from to
