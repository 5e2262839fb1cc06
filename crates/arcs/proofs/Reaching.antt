-- What the arcs of a row reach, state by state; with one edge more they reach what they reached, and what the edge leads to.
use mathlib.Core.Path.{◌≡◌, sym, ap, ◌∙◌}
use mathlib.Core.List.{List}
use mathlib.Core.Bool.{Bool}
use mathlib.Core.Logic.{◌⊎◌, ⊎_elim}
use Prim.Native.Nat.{ℕ, zero, suc, ◌^◌, ◌<◌}
use native.Mathlib.Omega.{arith}
use native.Mathlib.Decide.{ℕ_discrete}
use lib.ListN.{get_or}
use lib.Dec.{eqb}
use borrow.Author.Tests.{eq-eqb, ne_eqb}
use Rattle.sets.specs.Logic.{◌and◌, ◌or◌, any_below}
use Rattle.sets.specs.Sets.{in_set, meets}
use Rattle.sets.proofs.Tests.{or-and, or-false}
use Rattle.sets.proofs.Members.{in_set-or, in_set-pow, in_set-zero}
use Rattle.table.specs.Limits.{most_automata}
use Rattle.table.specs.declared.Edge.{Edge}
use Rattle.moves.specs.Arcs.{from_cell, led, most_arcs, to_cell}
use Rattle.moves.proofs.Arcs.{meets-zero}
use Rattle.placing.specs.Placing.{arc_with}
use Rattle.arcs.proofs.Meeting.{any-changed, in_set-given, meets-more}
use Rattle.placing.proofs.Putting.{Fits, arc-kept, from-changed, others-kept, own_cell, to-changed}

-- arc l leads automaton k + 1 from the set x to state s
abbrev reaches : List ℕ → ℕ → ℕ → ℕ → ℕ → ℕ → Bool
reaches arcs p k x s l = meets x (get_or arcs (from_cell p l k) 0) and in_set (get_or arcs (to_cell p l) 0) s

-- and so does an edge, once it matches
abbrev pub edge_reaches : Edge → ℕ → ℕ → ℕ → Bool
edge_reaches e k x s = eqb e.automaton k and in_set x e.from and eqb e.to s

reaches-alike : (x s : ℕ) {from to from' to' : ℕ} → from ≡ from' → to ≡ to'
    → (meets x from and in_set to s) ≡ (meets x from' and in_set to' s)
reaches-alike x s one two = cc

-- a state is reached by the first n arcs where one of them leads to it
led-reaches : (arcs : List ℕ) (p k x n s : ℕ) → in_set (led arcs p k x n) s ≡ any_below (reaches arcs p k x s) n
unfolding led any_below
led-reaches arcs p k x zero s = in_set-zero s
led-reaches arcs p k x (suc n) s =
    in_set-or (led arcs p k x n) _ s
    ∙ rw (led-reaches arcs p k x n s, in_set-given (meets x (get_or arcs (from_cell p n k) 0)) (get_or arcs (to_cell p n) 0) s)

-- arc l with an edge; before, it led to the edge's `to` state, or for automaton k + 1 from nowhere
module _ {arcs : List ℕ} {p l : ℕ} {e : Edge} (fits : Fits arcs p l e) (k x s : ℕ) (few : k < most_automata) where
  abbrev after : List ℕ
  after = arc_with arcs p l e

  reached-before : (get_or arcs (to_cell p l) 0 ≡ 2 ^ e.to) ⊎ (get_or arcs (from_cell p l k) 0 ≡ 0)
      → reaches arcs p k x s l ≡ (meets x (get_or arcs (from_cell p l k) 0) and in_set (2 ^ e.to) s)
  unfolding ◌and◌
  reached-before = ⊎_elim (λ same. rw same) (λ bare. rw (bare, meets-zero x))

  reached-after : Dec (e.automaton ≡ suc k)
      → reaches after p k x s l
      ≡ ((meets x (get_or arcs (from_cell p l k) 0) and in_set (2 ^ e.to) s) or edge_reaches e (suc k) x s)
  unfolding ◌and◌
  reached-after (yes mine) =
      let cell : from_cell p l k ≡ own_cell p l e = omega (arith, mine) in
      let old = meets x (get_or arcs (own_cell p l e) 0) in
      let new = from-changed fits in
      rw (to-changed fits, eq-eqb e.automaton (suc k) mine, cell, new)
      (ap (λ b. b and in_set (2 ^ e.to) s) (meets-more x (get_or arcs (own_cell p l e) 0) e.from)
      ∙ or-and old (in_set x e.from) (in_set (2 ^ e.to) s)
      ∙ ap (λ b. (old and in_set (2 ^ e.to) s) or (in_set x e.from and b)) (in_set-pow e.to s))
  reached-after (no theirs) =
      let apart : from_cell p l k ≡ own_cell p l e → ⊥ = λ at. theirs (omega (arith, at, few, fits.own.first)) in
      let kept = others-kept fits (from_cell p l k) (λ at. omega (arith, at, few)) apart in
      rw (to-changed fits, kept, ne_eqb e.automaton (suc k) theirs) (sym (or-false _))

  pub led-changed : (get_or arcs (to_cell p l) 0 ≡ 2 ^ e.to) ⊎ (get_or arcs (from_cell p l k) 0 ≡ 0)
      → in_set (led after p k x most_arcs) s ≡ (in_set (led arcs p k x most_arcs) s or edge_reaches e (suc k) x s)
  led-changed before =
      let more = edge_reaches e (suc k) x s in
      led-reaches after p k x most_arcs s
      ∙ any-changed (reaches arcs p k x s) (reaches after p k x s) most_arcs l more fits.less
      (λ m apart. reaches-alike x s (arc-kept fits m k (omega arith) apart) (arc-kept fits m most_automata (omega arith) apart))
      (reached-after (ℕ_discrete e.automaton (suc k)) ∙ ap (λ b. b or more) (sym (reached-before before)))
      ∙ ap (λ b. b or more) (sym (led-reaches arcs p k x most_arcs s))
