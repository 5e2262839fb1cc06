-- What readers rely on in a record that passes its check: the ranges of its fields.
use mathlib.Core.Path.{◌≡◌, refl, sym, ap, ◌∙◌}
use mathlib.Core.List.{List}
use mathlib.Core.Bool.{Bool, true, false}
use Prim.Native.Nat.{ℕ, ◌≤◌}
use native.Mathlib.Omega.{arith}
use borrow.Author.Tests.{eqb-true, le-leb, leb-true}
use Rattle.sets.specs.Logic.{◌and◌}
use Rattle.table.specs.Limits.{most_principals, last_state}
use Rattle.table.specs.Layout.{Numbered, automata, cell, cells, credential, edge, principal}
use Rattle.table.specs.Checks.{cell_to, credential_to, edge_to, is_principal, is_principal_to, meaning_ok, within}
use Rattle.table.specs.Checks.{good_cell, good_cell_to, good_credential, good_credential_to, good_edge, good_edge_to}
use Rattle.table.specs.declared.Credential.{Credential}
use Rattle.table.specs.declared.Cell.{Cell}
use Rattle.table.specs.declared.Edge.{Edge}
use Rattle.sets.proofs.Tests.{and_both, and_first, and_second, and_parts, false-true, or-either}
use Rattle.table.proofs.Meanings.{kind-4, kind-none}

pub record CredentialRange (q a : ℕ) (c : Credential) : Type 0 where
  pub kind : Numbered 4 c.kind
  pub intersection : c.kind ≡ 4 → Numbered q c.first
  pub automaton : c.automaton ≤ a

pub record CellRange (q : ℕ) (c : Cell) : Type 0 where
  pub next : c.next ≤ q

pub record EdgeRange (a : ℕ) (e : Edge) : Type 0 where
  pub automaton : Numbered a e.automaton
  pub from : e.from ≤ last_state
  pub to : e.to ≤ last_state

pub within-bounds : (low high x : ℕ) → within low high x ≡ true → (low ≤ x) × (x ≤ high)
unfolding within
within-bounds low high x e = and_parts (leb-true low x) (leb-true x high) e

pub within-range : (n x : ℕ) → within 1 n x ≡ true → Numbered n x
within-range n x e = let (first, last) = within-bounds 1 n x e in record { first = first; last = last }

pub range-within : (n x : ℕ) → Numbered n x → within 1 n x ≡ true
unfolding within
range-within n x h = and_both (le-leb 1 x h.first) (le-leb x n h.last)

pub principal-range : (x : ℕ) → is_principal (principal x) ≡ true → Numbered most_principals x
unfolding is_principal_to
principal-range x e = within-range most_principals x e

-- every kind but 1 to 4 is refused
kind-known : (kind first second q : ℕ) → meaning_ok kind first second q ≡ true → Numbered 4 kind
unfolding within ◌and◌
kind-known kind first second q ok = go (within 1 4 kind) refl
  where
    go : (b : Bool) → within 1 4 kind ≡ b → Numbered 4 kind
    go true e = within-range 4 kind e
    go false e = absurd (false-true (sym (kind-none kind first second q (no 1 refl) (no 2 refl) (no 3 refl) (no 4 refl)) ∙ ok))
      where
        no : (k : ℕ) → within 1 4 k ≡ true → kind ≡ k → ⊥
        no k inside same = false-true (sym e ∙ ap (within 1 4) same ∙ inside)

module _ (t : List ℕ) (i : ℕ) where
  pub credential-range : good_credential t i ≡ true → CredentialRange (cells t) (automata t) (credential t i)
  unfolding good_credential_to credential_to
  credential-range good =
      let rest = and_second _ _ good in
      let means = and_first _ _ rest in
      record {
        kind = kind-known _ _ _ _ means;
        intersection = λ four. within-range (cells t) _ (and_first _ _ (sym (kind-4 _ _ _ _ four) ∙ means));
        automaton = leb-true _ _ (and_second _ _ rest);
      }

  pub cell-range : good_cell t i ≡ true → CellRange (cells t) (cell t i)
  unfolding good_cell_to cell_to
  cell-range good =
      let next = (cell t i).next in
      let either = and_second _ _ good in
      record { next = or-either (λ h. omega (arith, eqb-true next 0 h)) (λ h. leb-true _ _ (and_second _ _ h)) either }

  pub edge-range : good_edge t i ≡ true → EdgeRange (automata t) (edge t i)
  unfolding good_edge_to edge_to
  edge-range good =
      let states = and_parts (leb-true _ last_state) (and_parts (leb-true _ last_state) (λ label. label)) in
      let (automaton, (from, (to, label))) = and_parts (within-range (automata t) _) states good in
      record { automaton = automaton; from = from; to = to }
