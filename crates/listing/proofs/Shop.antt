-- docs/DEFINITION.md, "The shop example": all rows marked •, those that list and those that judge a record, as one list of
-- inputs and expected results with one lemma for the list.
use mathlib.Core.Path.{◌≡◌, refl}
use mathlib.Core.List.{List, [], ◌∷◌}
use Prim.Native.Nat.{ℕ}
use lib.ListN.{length}
use Rattle.table.specs.Outcome.{Outcome}
use Rattle.table.specs.Outcome.Outcome.{accepted, refused}
use Rattle.table.specs.Encoded.{encoded}
use Rattle.table.specs.Checks.{as_query}
use Rattle.table.specs.Shop.{ann_asks, tableT, tableU}
use Rattle.table.specs.declared.Query.{Query}
use Rattle.sets.specs.Sets.{part, set_of}
use Rattle.automata.specs.Together.{accepting_set, each, moved_sets, starting_sets, together}
use Rattle.attached.specs.Attached.{automata_of, automata_up_to}
use Rattle.verifier.specs.Verdict.{verdict}
use Rattle.verifier.proofs.Shop as records
use Rattle.members.specs.Places.{defines, is_naming, is_person, least, person_at, role_at}
use Rattle.members.specs.Above.{is_above, nothing_above, pair_above, with_goal, with_pair}
use Rattle.members.specs.Trying.{every_goal, may_use, proved_premises, proves_by}
use Rattle.goals.specs.Goals.{stepped}
use Rattle.search.specs.Search.{ends, provable, proves, shares}
use Rattle.settling.specs.Settling.{among, without_all}
use Rattle.admission.specs.Admits.{admits, admits_by, admits_to, with_every, with_owed}
use Rattle.cuts.specs.Cuts.{is_least}
use Rattle.sorted.specs.Sorted.{laid, those}
use Rattle.listing.specs.Minimal.{afterwards, buffer_after, counted, listing, minimal_sets}

-- what a list computes with
unfoldable pub opened : Unit {0}
unfolding records.opened part set_of accepting_set each moved_sets starting_sets together automata_of automata_up_to defines is_naming
    is_person least person_at role_at is_above nothing_above pair_above with_goal with_pair every_goal may_use proved_premises proves_by
    provable proves shares ends stepped admits admits_by admits_to among with_every with_owed without_all is_least laid those afterwards buffer_after counted listing
    minimal_sets
opened = tt

pub data ShopRow : Type 0 where
  -- a table and a query are listed into a buffer: what is told, and what the buffer holds afterwards
  lists : (table : List ℕ) (query : Query) (buffer : List ℕ) (outcome : Outcome) (after : List ℕ) → ShopRow
  -- a record is judged
  judges : (row : records.ShopRow) → ShopRow

-- the record rows stand in crate verifier
judging : List records.ShopRow → List ShopRow
judging [] = []
judging (row ∷ rows) = judges row ∷ judging rows

pub shop_rows : List ShopRow
shop_rows =
    lists tableT (ann_asks 2) (9 ∷ 9 ∷ 9 ∷ 9 ∷ []) (accepted 2) (7 ∷ 8 ∷ 9 ∷ 9 ∷ [])
    ∷ lists tableT (ann_asks 1) (9 ∷ 9 ∷ []) (accepted 1) (8 ∷ 9 ∷ [])
    ∷ lists tableU (ann_asks 2) (9 ∷ 9 ∷ []) (accepted 1) (8 ∷ 9 ∷ [])
    ∷ lists tableU (as_query 4 2 2 1) (9 ∷ 9 ∷ []) (accepted 1) (4 ∷ 9 ∷ [])
    ∷ lists tableT (ann_asks 2) (9 ∷ []) (refused 10 0) (7 ∷ [])
    ∷ lists (encoded [] [] [] []) (ann_asks 2) (9 ∷ 9 ∷ []) (refused 9 0) (9 ∷ 9 ∷ [])
    ∷ judging records.record_rows

-- every row's result is the expected one
pub RowsHold : List ShopRow → Type 0
RowsHold [] = Unit {0}
RowsHold (lists t q buffer outcome after ∷ rows) =
    (listing t q (length buffer) ≡ outcome) × (buffer_after t q buffer ≡ after) × RowsHold rows
RowsHold (judges row ∷ rows) = (verdict row.table row.query row.rec ≡ row.outcome) × RowsHold rows

judged : (rows : List records.ShopRow) → records.RowsHold rows → RowsHold (judging rows)
unfolding RowsHold judging records.RowsHold
judged [] h = tt
judged (row ∷ rows) h = (h.0, judged rows h.1)

pub shop-rows : RowsHold shop_rows
unfolding opened RowsHold shop_rows
shop-rows =
    (refl, refl, (refl, refl, (refl, refl, (refl, refl, (refl, refl, (refl, refl, judged records.record_rows records.record-rows))))))
