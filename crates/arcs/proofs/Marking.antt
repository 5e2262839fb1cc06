-- What stays true of an index when cells of one row change, or the mark of a row.
use mathlib.Core.Path.{◌≡◌, refl, sym, ◌∙◌}
use mathlib.Core.List.{List}
use mathlib.Core.Logic.{◌⊎◌, inl, inr, ⊎_elim}
use Prim.Native.Nat.{ℕ, zero, suc, ◌+◌, ◌*◌, ◌<◌, ◌≤◌}
use native.Mathlib.Omega.{arith}
use native.Mathlib.Decide.{dec_lt, ℕ_discrete}
use lib.ListN.{get_or, length, set, length-set}
use lib.Seq.{get_or-set_same, get_or-set_other}
use Rattle.table.specs.Limits.{most_automata, most_credentials}
use Rattle.table.specs.Layout.{credential, credentials}
use Rattle.table.specs.declared.Role.{Role}
use Rattle.moves.specs.Arcs.{Arcs, ArcRow, arc_cells, first_row, from_cell, index_cells, led, made, made_cell, most_arcs, row_cells}
use Rattle.placing.specs.Placing.{Elsewhere, row_cell}
use Rattle.placing.proofs.Cells.{arc-in-row}

-- the same cells of a row
abbrev pub SameRow : ℕ → List ℕ → List ℕ → Type 0
SameRow q before after = (x : ℕ) → x < row_cells → get_or after (row_cell q x) 0 ≡ get_or before (row_cell q x) 0

module _ (q : ℕ) (before after : List ℕ) (same : SameRow q before after) where
  from-same : (l k : ℕ) → l < most_arcs → k ≤ most_automata → get_or after (from_cell q l k) 0 ≡ get_or before (from_cell q l k) 0
  from-same l k less few = rw (arc-in-row q l k) (same (arc_cells * l + k) (omega arith))

  led-same : (k x n : ℕ) → k < most_automata → n ≤ most_arcs → led after q k x n ≡ led before q k x n
  unfolding led
  led-same k x zero less few = refl
  led-same k x (suc n) less few =
      let to = from-same n most_automata (omega arith) (omega arith) in
      rw (from-same n k (omega arith) (omega arith), to, led-same k x n less (omega arith))

  pub row_same : {t : List ℕ} {r : Role} → ArcRow t r before q → ArcRow t r after q
  row_same row =
      record {
        moves = λ k x less. led-same k x most_arcs less (omega arith) ∙ row.moves k x less;
        ended = λ l m below few none.
            from-same m most_automata few (omega arith)
            ∙ row.ended l m below few (sym (from-same l most_automata (omega arith) (omega arith)) ∙ none);
      }

-- cells of the row of credential p + 1 have changed, which has not been made
module _ {p : ℕ} {before after : List ℕ} (e : Elsewhere p before after) where
  other_row : (q : ℕ) → (q ≡ p → ⊥) → SameRow q before after
  other_row q other x less = e.others (row_cell q x) (side (dec_lt q p))
    where
      side : Dec (q < p) → (row_cell q x < row_cell p 0) ⊎ (row_cell p row_cells ≤ row_cell q x)
      side (yes below) = inl (omega arith)
      side (no above) = inr (omega arith)

  pub head-same : (x : ℕ) → x < first_row → get_or after x 0 ≡ get_or before x 0
  head-same x less = e.others x (inl (omega arith))

  pub arcs-elsewhere : {t : List ℕ} → credentials t ≤ most_credentials → Arcs t before → (get_or before (made_cell p) 0 ≡ made → ⊥)
      → Arcs t after
  arcs-elsewhere {t} few a unmade =
      record {
        room = ⊎_elim (λ none. inl (e.room ∙ none)) (λ full. inr (e.room ∙ full)) a.room;
        accepts = λ k less full. head-same k (omega arith) ∙ a.accepts k less (sym e.room ∙ full);
        rows = λ q there is. rows q there (sym (head-same (made_cell q) (omega arith)) ∙ is) (ℕ_discrete q p);
      }
    where
      rows : (q : ℕ) → q < credentials t → get_or before (made_cell q) 0 ≡ made → Dec (q ≡ p)
          → ArcRow t (credential t (suc q)).role after q
      rows q there is (yes own) = absurd (unmade (rw (sym own) is))
      rows q there is (no other) = row_same q before after (other_row q other) (a.rows q there is)

-- the mark of that row has changed
pub arcs-marked : {t : List ℕ} {arcs : List ℕ} (p v : ℕ) → Arcs t arcs → length arcs ≡ index_cells → p < credentials t
    → credentials t ≤ most_credentials → (v ≡ made → ArcRow t (credential t (suc p)).role arcs p) → Arcs t (set arcs (made_cell p) v)
arcs-marked {t} {arcs} p v a full there few row =
    record {
      room = inr (length-set arcs _ v ∙ full);
      accepts = λ k less size. other k (omega arith) ∙ a.accepts k less full;
      rows = λ q in_table is. rows q in_table is (ℕ_discrete q p);
    }
  where
    other : (x : ℕ) → (x ≡ made_cell p → ⊥) → get_or (set arcs (made_cell p) v) x 0 ≡ get_or arcs x 0
    other x apart = get_or-set_other arcs (made_cell p) x v 0 apart

    same : (q : ℕ) → SameRow q arcs (set arcs (made_cell p) v)
    same q x less = other (row_cell q x) (omega arith)

    rows : (q : ℕ) → q < credentials t → get_or (set arcs (made_cell p) v) (made_cell q) 0 ≡ made → Dec (q ≡ p)
        → ArcRow t (credential t (suc q)).role (set arcs (made_cell p) v) q
    rows q in_table is (yes own) =
        rw own
        (row_same p arcs _ (same p)
        (row (sym (get_or-set_same arcs (made_cell p) v 0 (omega (arith, full))) ∙ rw own at is)))
    rows q in_table is (no apart) =
        row_same q arcs _ (same q) (a.rows q in_table (sym (other (made_cell q) (omega arith)) ∙ is))
