-- The index of arcs: where there is none nothing is claimed; arc by arc the sets of all eight automata move on together, and by
-- all arcs of a row as by the edges.
use mathlib.Core.Path.{◌≡◌, refl, sym, ap, ◌∙◌}
use mathlib.Core.List.{List}
use mathlib.Core.Bool.{Bool, true, false}
use mathlib.Core.Logic.{◌⊎◌, inl, ⊎_elim}
use Prim.Native.Nat.{ℕ, zero, suc, ◌+◌, ◌-◌, ◌*◌, ◌<◌, ◌≤◌}
use native.Mathlib.Omega.{arith}
use native.Mathlib.Nat.{eq-or-lt_of_le}
use native.Mathlib.Numerals.{add-one, sub-one}
use native.Mathlib.Decide.{dec_lt}
use lib.ListN.{get_or, length, replicate, set, get_or-replicate, get_or-eq_default}
use lib.Bits.{bit_or, and_zero_r, or_zero_r}
use lib.Dec.{eqb, ltb}
use borrow.Author.Tests.{eqb-true, lt-ltb, le-ltb}
use Rattle.sets.specs.Logic.{◌and◌, pick}
use Rattle.sets.specs.Sets.{meets, set_of}
use Rattle.sets.proofs.Tests.{pick_same}
use Rattle.sets.proofs.Members.{meets-not, same-members, set_of-members}
use Rattle.table.specs.Limits.{most_automata}
use Rattle.table.specs.Layout.{automata, automaton, credential, credentials}
use Rattle.table.specs.Holding.{WellFormed}
use Rattle.table.specs.declared.Role.{Role}
use Rattle.automata.specs.Automata.{accepts_from}
use Rattle.moves.specs.Arcs.{Arcs, Ended, ArcRow, accepting, accepting_cell, arc_cells, first_row, from_cell, index_cells}
use Rattle.moves.specs.Arcs.{led, led_sets, made, made_cell, most_arcs, row_cells, to_cell, with_arc}
use Rattle.automata.specs.Together.{accepting_set, moved_sets, set_for}
use Rattle.automata.specs.declared.StateSets.{StateSets}
use Rattle.automata.proofs.Each.{together_at, together-is, together-same}
use Rattle.automata.proofs.Together.{accepts_at, within_first}
use Rattle.automata.proofs.Written.{Written, unwritten, written, written-more, written_none}

-- where there is no cell no row has been made
pub unmade : (arcs : List ℕ) (p : ℕ) → length arcs ≡ 0 → get_or arcs (made_cell p) 0 ≡ made → ⊥
unmade arcs p none is = omega (arith, is, get_or-eq_default arcs 0 {n = made_cell p} (omega (arith, none)))

-- no cells are an index of every table
pub no-arcs : (t : List ℕ) (arcs : List ℕ) → length arcs ≡ 0 → Arcs t arcs
no-arcs t arcs none =
    record {
      room = inl none;
      accepts = λ k small full. absurd (omega (arith, none, full));
      rows = λ p there is. absurd (unmade arcs p none is);
    }

-- an index that has a cell has them all
pub index-whole : {cells : ℕ} → (cells ≡ 0) ⊎ (cells ≡ index_cells) → (cells ≡ 0 → ⊥) → cells ≡ index_cells
index-whole room some = ⊎_elim (λ none. absurd (some none)) (λ full. full) room

-- and so has one in which the code has found a row made, which then has the arcs of its credential's role
pub row_made : {t : List ℕ} {arcs : List ℕ} (p : ℕ) {flag : Bool} → Arcs t arcs → p < credentials t
    → flag ≡ eqb (get_or arcs (made_cell p) 0) made → flag ≡ true
    → (length arcs ≡ index_cells) × ArcRow t (credential t (suc p)).role arcs p
row_made {t} {arcs} p a there test on =
    let is = eqb-true _ _ (sym test ∙ on) in
    (index-whole a.room (λ none. unmade arcs p none is), a.rows p there is)

-- the sets `old` with what the arc at a cell gives, which leads to `to`: the code has done the first k
abbrev gives : List ℕ → ℕ → StateSets → List ℕ → ℕ → ℕ → ℕ
gives arcs at from old to k = bit_or (get_or old (k - 1) 0) (pick (meets (set_for from k) (get_or arcs (at + (k - 1)) 0)) to 0)

pub record Giving (arcs : List ℕ) (at : ℕ) (from : StateSets) (old : List ℕ) (to k : ℕ) (l : List ℕ) : Type 0 where
  pub few : k ≤ most_automata
  pub eight : length old ≡ most_automata
  pub places : Written (gives arcs at from old to) old k l

pub giving-none : (arcs : List ℕ) (at : ℕ) (from : StateSets) (old : List ℕ) (to : ℕ) → length old ≡ most_automata
    → Giving arcs at from old to 0 old
giving-none arcs at from old to size = record { few = omega arith; eight = size; places = written_none _ old }

pub giving-more : {arcs : List ℕ} {at : ℕ} {from : StateSets} {old : List ℕ} {to k : ℕ} {l : List ℕ} {given : ℕ}
    → k < most_automata → Giving arcs at from old to k l
    → given ≡ pick (meets (get_or from.sets k 0) (get_or arcs (at + k) 0)) to 0
    → Giving arcs at from old to (k + 1) (set l k (bit_or (get_or l k 0) given))
giving-more {old = old} {k = k} less g is =
    let room : k < length old = omega (arith, less, g.eight) in
    let place : k + 1 - 1 ≡ k = omega arith in
    record {
      few = omega arith;
      eight = g.eight;
      places = written-more _ old g.places room (rw (place, is, unwritten _ old g.places room (omega arith)));
    }

pub giving-all : {arcs : List ℕ} {at : ℕ} {from : StateSets} (next : StateSets) {to k : ℕ} {l : List ℕ} → most_automata ≤ k
    → to ≡ get_or arcs (at + most_automata) 0 → Giving arcs at from next.sets to k l
    → record { sets = l } ≡ with_arc arcs at from next
unfolding with_arc
giving-all {arcs} {at} {from} next {l = l} all leads g =
    together-is _ l (g.places.size ∙ g.eight) (λ j less.
    written _ next.sets g.places (omega (arith, less, g.eight)) (omega (arith, less, all))
    ∙ ap (λ (x : ℕ). gives arcs at from next.sets x (suc j)) leads)

-- by no arc nothing is reached
pub led-none : (arcs : List ℕ) (p : ℕ) (from : StateSets) → record { sets = replicate most_automata 0 } ≡ led_sets arcs p from 0
unfolding led_sets led
led-none arcs p from = together-is _ (replicate most_automata 0) refl (λ j less. get_or-replicate most_automata j 0 0 less)

-- one arc more
pub led-more : (arcs : List ℕ) (p l : ℕ) (from : StateSets) {next : StateSets} → next ≡ led_sets arcs p from l
    → with_arc arcs (first_row + row_cells * p + arc_cells * l) from next ≡ led_sets arcs p from (l + 1)
unfolding with_arc led_sets led
led-more arcs p l from {next} is = together-same _ _ one
  where
    so_far : (k : ℕ) → k < most_automata → set_for next (suc k) ≡ led arcs p k (set_for from (suc k)) l
    so_far k less = rw (is, sub-one (suc k)) (together_at _ k less ∙ rw (sub-one (suc k)))

    one : (k : ℕ) → k < most_automata
        → gives arcs (first_row + row_cells * p + arc_cells * l) from next.sets (get_or arcs (to_cell p l) 0) (suc k)
        ≡ led arcs p (suc k - 1) (set_for from (suc k)) (l + 1)
    one k less =
        let e : suc k - 1 ≡ k = omega arith in
        let same = ap (λ q. led arcs p q (set_for from (suc k)) l) e in
        rw (add-one l, so_far k less, same, e)

-- and where one leads nowhere, those behind it give no more
pub led-ended : (arcs : List ℕ) (p k x l n : ℕ) → Ended arcs p → l ≤ n → n ≤ most_arcs → get_or arcs (to_cell p l) 0 ≡ 0
    → led arcs p k x l ≡ led arcs p k x n
unfolding led
led-ended arcs p k x l zero ended below few none = let first : l ≡ 0 = omega arith in rw first
led-ended arcs p k x l (suc n) ended below few none =
    ⊎_elim
    (λ same. rw same)
    (λ less.
    let nowhere = ended l n (omega arith) (omega arith) none in
    led-ended arcs p k x l n ended (omega arith) (omega arith) none
    ∙ sym (rw (nowhere, pick_same (meets x (get_or arcs (from_cell p n k) 0)) refl) (or_zero_r (led arcs p k x n))))
    (eq-or-lt_of_le below)

pub led-all : (arcs : List ℕ) (p l : ℕ) (from : StateSets) → Ended arcs p → l ≤ most_arcs
    → ((l ≡ most_arcs) ⊎ (get_or arcs (to_cell p l) 0 ≡ 0)) → led_sets arcs p from l ≡ led_sets arcs p from most_arcs
unfolding led_sets
led-all arcs p l from ended few = ⊎_elim
    (λ all. rw all)
    (λ none. together-same _ _ (λ k less. led-ended arcs p _ _ l most_arcs ended few (omega arith) none))

-- the arcs of a row move the sets as the edges do
pub row-moves : (t : List ℕ) (r : Role) (arcs : List ℕ) (p : ℕ) (from : StateSets) → ArcRow t r arcs p
    → led_sets arcs p from most_arcs ≡ moved_sets t r from
unfolding led_sets moved_sets
row-moves t r arcs p from row = together-same _ _ (λ k less. rw (sub-one (suc k)) (row.moves k _ less))

-- no set meets the empty one
pub meets-zero : (x : ℕ) → meets x 0 ≡ false
meets-zero x = meets-not x 0 (and_zero_r x)

-- the automata that accept, by the accepting sets of the index
abbrev pub accepts_in : List ℕ → StateSets → ℕ → Bool
accepts_in arcs s k = meets (get_or s.sets k 0) (get_or arcs (accepting_cell k) 0)

module _ {t arcs : List ℕ} (s : StateSets) (wf : WellFormed t) (a : Arcs t arcs) (full : length arcs ≡ index_cells) where
  -- automaton k + 1 accepts alike, and beyond the table's automata the index has no accepting state
  cell-is : (k : ℕ) → k < most_automata
      → accepts_in arcs s k ≡ meets (get_or s.sets k 0) (pick (ltb k (automata t)) (automaton t (suc k)).accepting 0)
  unfolding accepting
  cell-is k less = rw (a.accepts k less full, within_first (automata t) k)

  same-accepts : (k : ℕ) → Dec (k < automata t) → Dec (k < most_automata)
      → (ltb k most_automata and accepts_in arcs s k) ≡ (ltb k (automata t) and accepts_at t s k)
  unfolding accepts_from pick ◌and◌
  same-accepts k (yes there) few =
      let less : k < most_automata = omega (arith, wf.sized.counted.few_automata) in
      rw (lt-ltb k most_automata less, lt-ltb k (automata t) there) (cell-is k less ∙ rw (lt-ltb k (automata t) there))
  same-accepts k (no beyond) (yes less) =
      let none = le-ltb k (automata t) (omega arith) in
      rw (none, lt-ltb k most_automata less) (cell-is k less ∙ rw none (meets-zero (get_or s.sets k 0)))
  same-accepts k (no beyond) (no more) =
      rw (le-ltb k (automata t) (omega arith), le-ltb k most_automata (omega arith))

  pub accepting-in : (n : ℕ) → n ≡ most_automata → set_of (accepts_in arcs s) n ≡ accepting_set t s
  unfolding accepting_set
  accepting-in n all =
      rw all (same-members _ _ (λ k.
      set_of-members (accepts_in arcs s) most_automata k ∙ same-accepts k (dec_lt k (automata t)) (dec_lt k most_automata)
      ∙ sym (set_of-members (accepts_at t s) (automata t) k)))
