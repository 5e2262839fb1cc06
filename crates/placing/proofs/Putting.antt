-- An arc with one edge more: it is what the code makes, and which cells change.
use mathlib.Core.Path.{◌≡◌, refl, ◌∙◌}
use mathlib.Core.List.{List}
use Prim.Native.Nat.{ℕ, ◌-◌, ◌^◌, ◌<◌, ◌≤◌}
use native.Mathlib.Omega.{arith}
use lib.ListN.{get_or, length, set, length-set}
use lib.Seq.{get_or-set_same, get_or-set_other}
use lib.Bits.{bit_or}
use Rattle.table.specs.Limits.{most_automata, most_credentials}
use Rattle.table.specs.Layout.{Numbered}
use Rattle.table.specs.declared.Edge.{Edge}
use Rattle.moves.specs.Arcs.{from_cell, index_cells, most_arcs, to_cell}
use Rattle.placing.specs.Placing.{Elsewhere, arc_with}
use Rattle.placing.proofs.Cells.{arc-in-row, outside-row}

-- arc l is one of the row's, and the edge's automaton and `to` state are of those that there may be
pub record Fits (arcs : List ℕ) (p l : ℕ) (e : Edge) : Type 0 where
  pub size : length arcs ≡ index_cells
  pub there : p < most_credentials
  pub less : l < most_arcs
  pub own : Numbered most_automata e.automaton
  pub state : e.to < most_arcs

-- the cell of the edge's automaton
abbrev pub own_cell : ℕ → ℕ → Edge → ℕ
own_cell p l e = from_cell p l (e.automaton - 1)

-- as the code puts the edge: w is its automaton, and the two masks are those of its states. The two cells are not one
pub put_is : (arcs : List ℕ) (p l : ℕ) (e : Edge) {w to from : ℕ} → Numbered most_automata e.automaton → w ≡ e.automaton
    → to ≡ 2 ^ e.to → from ≡ 2 ^ e.from → let leading = set arcs (to_cell p l) to in let own = from_cell p l (w - 1) in
    set leading own (bit_or (get_or leading own 0) from) ≡ arc_with arcs p l e
unfolding arc_with
put_is arcs p l e there automaton leads comes =
    let apart : own_cell p l e ≡ to_cell p l → ⊥ = λ at. omega (arith, at, there.first, there.last) in
    rw (automaton, leads, comes, get_or-set_other arcs (to_cell p l) (own_cell p l e) (2 ^ e.to) 0 apart)

module _ {arcs : List ℕ} {p l : ℕ} {e : Edge} (fits : Fits arcs p l e) where
  pub put-room : (to : ℕ) {w : ℕ} → w ≡ e.automaton → from_cell p l (w - 1) < length (set arcs (to_cell p l) to)
  put-room to automaton =
      omega (arith, fits.size, fits.there, fits.less, fits.own.last, automaton, length-set arcs (to_cell p l) to)

  abbrev after : List ℕ
  after = arc_with arcs p l e

  abbrev leading : List ℕ
  leading = set arcs (to_cell p l) (2 ^ e.to)

  pub to-changed : get_or after (to_cell p l) 0 ≡ 2 ^ e.to
  unfolding arc_with
  to-changed =
      get_or-set_other leading (own_cell p l e) (to_cell p l) _ 0 (λ at. omega (arith, at, fits.own.first, fits.own.last))
      ∙ get_or-set_same arcs (to_cell p l) _ 0 (omega (arith, fits.size))

  pub from-changed : get_or after (own_cell p l e) 0 ≡ bit_or (get_or arcs (own_cell p l e) 0) (2 ^ e.from)
  unfolding arc_with
  from-changed = get_or-set_same leading (own_cell p l e) _ 0 (put-room (2 ^ e.to) refl)

  pub others-kept : (x : ℕ) → (x ≡ to_cell p l → ⊥) → (x ≡ own_cell p l e → ⊥) → get_or after x 0 ≡ get_or arcs x 0
  unfolding arc_with
  others-kept x not-to not_own =
      get_or-set_other leading (own_cell p l e) x _ 0 not_own ∙ get_or-set_other arcs (to_cell p l) x (2 ^ e.to) 0 not-to

  -- the cells of other arcs stay
  pub arc-kept : (m k : ℕ) → k ≤ most_automata → (m ≡ l → ⊥) → get_or after (from_cell p m k) 0 ≡ get_or arcs (from_cell p m k) 0
  arc-kept m k few apart =
      others-kept (from_cell p m k)
      (λ at. apart (omega (arith, at, few))) (λ at. apart (omega (arith, at, few, fits.own.first, fits.own.last)))

  -- and so do those outside of the row
  pub put-elsewhere : Elsewhere p arcs after
  unfolding arc_with
  put-elsewhere =
      record {
        room = length-set leading (own_cell p l e) _ ∙ length-set arcs (to_cell p l) (2 ^ e.to);
        others = λ x out. others-kept x
            (λ at. outside-row p x _ out (omega (arith, fits.less)) (at ∙ arc-in-row p l most_automata))
            (λ at. outside-row p x _ out (omega (arith, fits.less, fits.own.last)) (at ∙ arc-in-row p l (e.automaton - 1)));
      }
