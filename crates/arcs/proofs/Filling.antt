-- Edge by edge: how the arcs of a row come to move every set as the edges do.
use mathlib.Core.Path.{◌≡◌, refl, sym, ap, ◌∙◌}
use mathlib.Core.List.{List}
use mathlib.Core.Bool.{true, false}
use mathlib.Core.Logic.{◌⊎◌, inl, inr, ⊎_elim}
use Prim.Native.Nat.{ℕ, suc, ◌+◌, ◌*◌, ◌^◌, ◌<◌, ◌≤◌}
use native.Mathlib.Omega.{arith}
use native.Mathlib.Numerals.{add-one}
use native.Mathlib.Decide.{dec_lt, ℕ_discrete}
use lib.ListN.{get_or}
use lib.Pow.{pow_pos}
use lib.Dec.{eqb}
use Rattle.sets.specs.Logic.{◌and◌, pick}
use Rattle.sets.specs.Sets.{in_set}
use Rattle.sets.proofs.Tests.{and_assoc, and-false, and-true}
use Rattle.sets.proofs.Members.{same-members}
use Rattle.table.specs.Limits.{most_automata}
use Rattle.table.specs.Layout.{edge, edges}
use Rattle.table.specs.declared.Edge.{Edge}
use Rattle.table.specs.declared.Role.{Role}
use Rattle.edges.specs.Edges.{leads, matches}
use Rattle.automata.specs.Automata.{moved, moved_by}
use Rattle.moves.specs.Arcs.{Ended, ArcRow, arc_cells, from_cell, led, most_arcs, to_cell}
use Rattle.moves.proofs.Arcs.{led-ended}
use Rattle.automata.proofs.Moves.{leads_to, moved-next}
use Rattle.placing.specs.Placing.{Cleared, ArcFound, arc_with}
use Rattle.arcs.specs.Filling.{Filling, MaskOf}
use Rattle.placing.proofs.Cells.{arc-in-row}
use Rattle.placing.proofs.Putting.{Fits, arc-kept, to-changed}
use Rattle.arcs.proofs.Reaching.{edge_reaches, led-changed}

-- where a row is blank no arc leads anywhere, and nothing is moved, as by no edge
module _ {p : ℕ} {before after : List ℕ} (c : Cleared p before after) where
  blank-cell : (l k : ℕ) → l < most_arcs → k ≤ most_automata → get_or after (from_cell p l k) 0 ≡ 0
  blank-cell l k less few = rw (arc-in-row p l k) (c.blank (arc_cells * l + k) (omega arith))

  blank-ended : Ended after p
  blank-ended l m below few none = blank-cell m most_automata few (omega arith)

  pub filling-none : (t : List ℕ) (r : Role) → Filling t r after p 0
  unfolding moved_by led
  filling-none t r =
      record {
        moves = λ k x less.
            let none = blank-cell 0 most_automata (omega arith) (omega arith) in
            sym (led-ended after p k x 0 most_arcs blank-ended (omega arith) (omega arith) none);
        ended = blank-ended;
        bare = λ l k few less none. blank-cell l k few (omega arith);
        named = λ l less some. absurd (some (blank-cell l most_automata less (omega arith)));
        apart = λ l m less few some same. absurd (some (blank-cell l most_automata less (omega arith)));
      }

-- an edge that matches the role leads on where its `from` state is in the set
leads-reach : (k : ℕ) (r : Role) (x s : ℕ) (e : Edge) → matches e r ≡ true
    → (leads k r x e and eqb e.to s) ≡ edge_reaches e k x s
unfolding leads
leads-reach k r x s e on = rw (on, and-true (in_set x e.from)) (and_assoc _ _ _)

-- edge n + 1, which the code has read as e
module _ {t : List ℕ} {r : Role} {arcs : List ℕ} {p n : ℕ} (f : Filling t r arcs p n) (e : Edge) (read : e ≡ edge t (n + 1)) where
  -- it does not match, and moves nothing
  moves-past : matches e r ≡ false → (k x : ℕ) → moved_by (edge t) k r x n ≡ moved_by (edge t) k r x (n + 1)
  unfolding moved_by leads pick
  moves-past off k x =
      let none : matches (edge t (suc n)) r ≡ false = rw (read, add-one n) at off in
      rw (add-one n, none, and-false (in_set x (edge t (suc n)).from), and-false (eqb (edge t (suc n)).automaton k))

  pub filling-past : matches e r ≡ false → Filling t r arcs p (n + 1)
  filling-past off =
      record {
        moves = λ k x less. f.moves k x less ∙ moves-past off (suc k) x;
        ended = f.ended;
        bare = f.bare;
        named = f.named;
        apart = f.apart;
      }

  -- it matches, and goes into the arc that has been found
  module _ (l : ℕ) (fits : Fits arcs p l e) (found : ArcFound arcs p (2 ^ e.to) l) (on : matches e r ≡ true) where
    abbrev more : List ℕ
    more = arc_with arcs p l e

    to-or-bare : (k : ℕ) → k < most_automata → (get_or arcs (to_cell p l) 0 ≡ 2 ^ e.to) ⊎ (get_or arcs (from_cell p l k) 0 ≡ 0)
    to-or-bare k few = ⊎_elim inl (λ none. inr (f.bare l k fits.less few none)) (found.here fits.less)

    edge_leads : (k x s : ℕ) → edge_reaches e (suc k) x s ≡ leads_to t (suc k) r x s (suc n)
    edge_leads k x s =
        sym (leads-reach (suc k) r x s e on)
        ∙ ap (λ d. leads (suc k) r x d and eqb d.to s) (read ∙ ap (edge t) (add-one n))

    -- an arc that leads nowhere still did so before, and stands behind arc l
    nowhere : (m : ℕ) → get_or more (to_cell p m) 0 ≡ 0 → (get_or arcs (to_cell p m) 0 ≡ 0) × (m ≡ l → ⊥)
    nowhere m none = go (ℕ_discrete m l)
      where
        go : Dec (m ≡ l) → (get_or arcs (to_cell p m) 0 ≡ 0) × (m ≡ l → ⊥)
        go (yes same) = absurd (omega (arith, pow_pos e.to, sym (to-changed fits) ∙ rw same at none))
        go (no apart) = (sym (arc-kept fits m most_automata (omega arith) apart) ∙ none, apart)

    behind : (m : ℕ) → get_or arcs (to_cell p m) 0 ≡ 0 → (m ≡ l → ⊥) → Dec (m < l) → l < m
    behind m none apart (yes before) = absurd (found.passed m before none)
    behind m none apart (no not-before) = omega arith

    -- no other arc leads to the edge's `to` state
    alone : (m : ℕ) → m < most_arcs → get_or arcs (to_cell p m) 0 ≡ 2 ^ e.to → m ≡ l
    alone m few is = ⊎_elim there nowhere-yet (found.here fits.less)
      where
        there : get_or arcs (to_cell p l) 0 ≡ 2 ^ e.to → m ≡ l
        there same = f.apart m l few fits.less (λ none. omega (arith, pow_pos e.to, sym is ∙ none)) (is ∙ sym same)

        side : Dec (m < l) → (m < l) ⊎ (l ≤ m)
        side (yes before) = inl before
        side (no not-before) = inr (omega arith)

        nowhere-yet : get_or arcs (to_cell p l) 0 ≡ 0 → m ≡ l
        nowhere-yet none = ⊎_elim
            (λ before. absurd (found.others m before is))
            (λ behind. absurd (omega (arith, pow_pos e.to, sym is ∙ f.ended l m behind few none)))
            (side (dec_lt m l))

    to-now : (m : ℕ) → (m ≡ l → ⊥) → get_or more (to_cell p m) 0 ≡ get_or arcs (to_cell p m) 0
    to-now m apart = arc-kept fits m most_automata (omega arith) apart

    named-now : (m : ℕ) → m < most_arcs → (get_or more (to_cell p m) 0 ≡ 0 → ⊥) → Dec (m ≡ l) → MaskOf most_arcs (get_or more (to_cell p m) 0)
    named-now m few some (yes same) = rw (same, to-changed fits) (e.to, (fits.state, refl))
    named-now m few some (no apart) = rw (to-now m apart) (f.named m few (λ none. some (to-now m apart ∙ none)))

    apart-now : (m o : ℕ) → m < most_arcs → o < most_arcs → (get_or more (to_cell p m) 0 ≡ 0 → ⊥)
        → get_or more (to_cell p m) 0 ≡ get_or more (to_cell p o) 0 → Dec (m ≡ l) → Dec (o ≡ l) → m ≡ o
    apart-now m o few small some same (yes own) (yes too) = own ∙ sym too
    apart-now m o few small some same (yes own) (no other) =
        own ∙ sym (alone o small (sym (to-now o other) ∙ sym same ∙ rw own (to-changed fits)))
    apart-now m o few small some same (no one) (yes too) =
        alone m few (sym (to-now m one) ∙ same ∙ rw too (to-changed fits)) ∙ sym too
    apart-now m o few small some same (no one) (no other) =
        f.apart m o few small (λ none. some (to-now m one ∙ none)) (sym (to-now m one) ∙ same ∙ to-now o other)

    pub filling-more : Filling t r more p (n + 1)
    filling-more =
        record {
          moves = λ k x few. same-members _ _ (λ s.
              led-changed fits k x s few (to-or-bare k few)
              ∙ rw (f.moves k x few, edge_leads k x s, add-one n) (sym (moved-next t (suc k) r x n s)));
          ended = λ m o below few none.
              let (old, apart) = nowhere m none in
              let after-l = behind m old apart (dec_lt m l) in
              arc-kept fits o most_automata (omega arith) (λ same. omega (arith, after-l, below, same))
              ∙ f.ended m o below few old;
          bare = λ m k few small none.
              let (old, apart) = nowhere m none in
              arc-kept fits m k (omega arith) apart ∙ f.bare m k few small old;
          named = λ m few some. named-now m few some (ℕ_discrete m l);
          apart = λ m o few small some same. apart-now m o few small some same (ℕ_discrete m l) (ℕ_discrete o l);
        }

-- all edges have been taken
pub filling-all : {t : List ℕ} {r : Role} {arcs : List ℕ} {p n : ℕ} → Filling t r arcs p n → n ≡ edges t → ArcRow t r arcs p
unfolding moved
filling-all f all = record { moves = λ k x less. f.moves k x less ∙ rw all; ended = f.ended }
