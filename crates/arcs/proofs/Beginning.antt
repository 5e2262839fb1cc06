-- An index that has no row yet: the accepting sets of the first k automata stand, and every other cell is 0.
use mathlib.Core.Path.{◌≡◌, ◌∙◌}
use mathlib.Core.List.{List}
use mathlib.Core.Logic.{inr}
use Prim.Native.Nat.{ℕ, ◌<◌, ◌≤◌}
use native.Mathlib.Omega.{arith}
use lib.ListN.{get_or, length, replicate, get_or-replicate, length-replicate}
use Rattle.table.specs.Layout.{automata, automaton, credentials}
use Rattle.table.specs.Holding.{WellFormed}
use Rattle.moves.specs.Arcs.{Arcs, accepting, index_cells, made, made_cell}
use Rattle.automata.proofs.Together.{within_first}
use Rattle.automata.proofs.Written.{Written, unwritten}

abbrev pub Begun : List ℕ → List ℕ → ℕ → List ℕ → Type 0
Begun t = Written (λ j. (automaton t j).accepting)

-- the length stays
pub begun-whole : {f : ℕ → ℕ} {before : List ℕ} {k : ℕ} {arcs : List ℕ} → before ≡ replicate index_cells 0
    → Written f before k arcs → length arcs ≡ index_cells
begun-whole blank b = b.size ∙ rw blank (length-replicate {A = ℕ} index_cells 0)

-- all automata have been taken
pub begun_all : (t before : List ℕ) (k : ℕ) (arcs : List ℕ) → WellFormed t → before ≡ replicate index_cells 0 → k ≡ automata t
    → Begun t before k arcs → Arcs t arcs
unfolding accepting
begun_all t before k arcs wf blank all b =
    record {
      room = inr (begun-whole blank b);
      accepts = λ j less full.
          rw (within_first (automata t) j, ← all) (b.here j (inside (omega arith)) ∙ rw (was-blank {j = j} (omega arith)));
      rows = λ p there is. absurd (unmade p there is);
    }
  where
    inside : {j : ℕ} → j < index_cells → j < length before
    inside less = rw blank (omega (arith, less, length-replicate {A = ℕ} index_cells 0))

    was-blank : {j : ℕ} → j < index_cells → get_or before j 0 ≡ 0
    was-blank {j} less = rw blank (get_or-replicate {A = ℕ} index_cells j 0 0 less)

    unmade : (p : ℕ) → p < credentials t → get_or arcs (made_cell p) 0 ≡ made → ⊥
    unmade p there is =
        let few = wf.sized.counted in
        let cell : made_cell p < index_cells = omega (arith, few.few_credentials) in
        let later : k ≤ made_cell p = omega (arith, few.few_automata) in
        omega (arith, is, unwritten _ before b (inside cell) later ∙ was-blank cell)
