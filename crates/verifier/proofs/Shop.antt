-- docs/DEFINITION.md, "The shop example": the record rows marked •, as one list of inputs and expected outcomes with one lemma
-- for it.
use mathlib.Core.Path.{◌≡◌, refl}
use mathlib.Core.List.{List, [], ◌∷◌}
use Prim.Native.Nat.{ℕ}
use Rattle.table.specs.Outcome.{Outcome}
use Rattle.table.specs.Outcome.Outcome.{accepted, refused}
use Rattle.table.specs.Shop.{ann_asks, tableT, tableU}
use Rattle.table.specs.declared.Query.{Query}
use Rattle.table.proofs.Opened as table
use Rattle.sets.specs.Sets.{in_set, meets}
use Rattle.edges.specs.Edges.{leads, matches}
use Rattle.automata.specs.Automata.{accepts, accepts_from, moved, moved_by, run_by, starting}
use Rattle.derivation.specs.Rules.{asks_by, fresh, premises, premises_by, same_goal, usable, usable_by}
use Rattle.derivation.specs.Forest.{count_from, used_from, used_set}
use Rattle.derivation.specs.Words.{demanded_by, every_word, met, some_word, uses_by, words_by}
use Rattle.entering.specs.Entry.{admitted, entry_by}
use Rattle.reader.specs.Reading.{entered, followed, joined, read_all, reader_by}
use Rattle.verifier.specs.Verdict.{judged_by, verdict}

-- what a verdict computes with
unfoldable pub opened : Unit {0}
unfolding table.opened in_set meets accepts accepts_from leads matches moved moved_by run_by starting asks_by fresh premises premises_by usable usable_by same_goal
    count_from used_from used_set every_word some_word demanded_by met uses_by words_by admitted entered entry_by followed joined read_all
    reader_by judged_by verdict
opened = tt

pub record ShopRow : Type 0 where
  pub table : List ℕ
  pub query : Query
  pub rec : List ℕ
  pub outcome : Outcome

row : List ℕ → ℕ → List ℕ → Outcome → ShopRow
row t depth rec outcome = record { table = t; query = ann_asks depth; rec = rec; outcome = outcome }

pub record_rows : List ShopRow
record_rows =
    row tableT 2 (1 ∷ 2 ∷ 2 ∷ 0 ∷ 3 ∷ 0 ∷ []) (accepted 7)
    ∷ row tableU 2 (1 ∷ 2 ∷ 2 ∷ 0 ∷ 3 ∷ 0 ∷ []) (refused 14 1)
    ∷ row tableT 1 (1 ∷ 2 ∷ 2 ∷ 0 ∷ 3 ∷ 0 ∷ []) (refused 13 2)
    ∷ row tableT 2 (1 ∷ 2 ∷ 2 ∷ 0 ∷ []) (refused 11 3)
    ∷ row tableT 2 (1 ∷ 4 ∷ 2 ∷ 0 ∷ 3 ∷ 0 ∷ []) (refused 12 2)
    ∷ []

-- every row's verdict is the expected one
unfoldable pub RowsHold : List ShopRow → Type 0
RowsHold [] = Unit {0}
RowsHold (r ∷ rows) = (verdict r.table r.query r.rec ≡ r.outcome) × RowsHold rows

pub record-rows : RowsHold record_rows
unfolding opened RowsHold record_rows row
record-rows = (refl, (refl, (refl, (refl, (refl, tt)))))
