-- In tables that differ in nothing but their credentials, equal credentials say the same.
use mathlib.Core.Path.{◌≡◌, refl, ap}
use mathlib.Core.List.{List, ◌∷◌, map}
use Prim.Native.Nat.{ℕ, zero, suc, ◌≤◌}
use native.Mathlib.Omega.{arith}
use native.Mathlib.Decide.{ℕ_discrete}
use borrow.Author.Tests.{eq-eqb, ne_eqb}
use Rattle.sets.specs.Logic.{pick}
use Rattle.table.specs.Limits.{most_parts}
use Rattle.table.specs.Layout.{Numbered, automata, cell, cells, cells_from, credential, credentials, edges, parts_by}
use Rattle.table.specs.Holding.{WellFormed}
use Rattle.table.specs.declared.Cell.{Cell}
use Rattle.table.specs.declared.Role.{Role}
use Rattle.table.proofs.WellFormed.{wf-cell, wf-credential}
use Rattle.derivation.specs.Rules.{usable}
use Rattle.agreement.specs.Records.{HasEdges, SameBeside, SameConstraint, SameCredential}
use Rattle.agreement.specs.Records.SameConstraint.{constrained, free}

-- the parts of a chain are the same by any cells that are the same from 1 to q, where none leads beyond q
module _ (cell cell' : ℕ → Cell) (q : ℕ) (same : (j : ℕ) → Numbered q j → cell' j ≡ cell j)
    (within : (j : ℕ) → Numbered q j → (cell j).next ≤ q) where
  abbrev roles : (ℕ → Cell) → ℕ → ℕ → List Role
  roles by most j = map (λ (k : ℕ). (by k).role) (cells_from by most j)

  roles-alike : (most j : ℕ) → j ≤ q → roles cell' most j ≡ roles cell most j
  unfolding cells_from pick
  roles-alike zero j inside = refl
  roles-alike (suc most) j inside = go (ℕ_discrete j 0) (roles-alike most)
    where
      go : Dec (j ≡ 0) → ((i : ℕ) → i ≤ q → roles cell' most i ≡ roles cell most i)
          → roles cell' (suc most) j ≡ roles cell (suc most) j
      go (yes ends) later = rw (eq-eqb j 0 ends)
      go (no goes_on) later =
          let there : Numbered q j = omega arith in
          rw (ne_eqb j 0 goes_on, same j there) (ap (λ (l : List Role). (cell j).role ∷ l) (later _ (within j there)))

  pub parts-alike : (j : ℕ) → j ≤ q → parts_by cell' j ≡ parts_by cell j
  unfolding parts_by
  parts-alike j inside = roles-alike (suc most_parts) j inside

module _ (t t' : List ℕ) (wf : WellFormed t) (same : SameBeside t t') where
  edges-on : (k : ℕ) → HasEdges t k t' k
  edges-on k x there own =
      let e = same.edge x there in (
        x,
        rw same.edges there,
        record {
          automaton = rw e own;
          from = rw e;
          label = rw e;
          role = rw e;
          to = rw e;
        },
      )

  edges-back : (k : ℕ) → HasEdges t' k t k
  edges-back k x there own =
      let inside : Numbered (edges t) x = rw same.edges at there in
      let e = same.edge x inside in (
        x,
        inside,
        record {
          automaton = rw e at own;
          from = rw e;
          label = rw e;
          role = rw e;
          to = rw e;
        },
      )

  constraint-same : (k : ℕ) → k ≤ automata t → SameConstraint t k t' k
  constraint-same k inside = go (ℕ_discrete k 0)
    where
      go : Dec (k ≡ 0) → SameConstraint t k t' k
      go (yes none) = free none none
      go (no some) =
          let there : Numbered (automata t) k = omega arith in
          let e = same.automaton k there in
          constrained record {
            there = there;
            there' = rw same.automata there;
            starting = rw e;
            accepting = rw e;
            mark = rw e;
            edges = edges-on k;
            edges' = edges-back k;
          }

  pub beside_same : (c c' : ℕ) → Numbered (credentials t) c → usable t' c' ≡ usable t c → credential t' c' ≡ credential t c
      → SameCredential t c t' c'
  beside_same c c' there may e =
      let range = wf-credential t wf c there in
      let alike = parts-alike (cell t) (cell t') (cells t) same.cell (λ j h. (wf-cell t wf j h).next) in
      record {
        usable = may;
        role = rw e;
        kind = rw e;
        second = rw e;
        first = λ other. rw e;
        parts = λ four. rw e (alike (credential t c).first (range.intersection four).last);
        constraint = rw e (constraint-same (credential t c).automaton range.automaton);
      }
