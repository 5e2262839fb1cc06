-- The goals that a credential asks, as a list by places: how many they are, and how the list is made role by role.
use mathlib.Core.Path.{◌≡◌, refl, sym, ap, ◌∙◌}
use mathlib.Core.List.{List, [], ◌∷◌, ◌++◌}
use Prim.Native.Nat.{ℕ, suc, zero, ◌+◌, ◌<◌, ◌≤◌}
use native.Mathlib.Nat.{zero-add}
use native.Mathlib.Numerals.{add-one}
use native.Mathlib.Omega.{arith}
use native.Mathlib.Decide.{ℕ_discrete}
use lib.ListN.{get_or, length}
use borrow.Author.Tests.{ne_eqb}
use Rattle.sets.specs.Logic.{pick}
use Rattle.table.specs.Limits.{most_parts}
use Rattle.table.specs.Layout.{credential, credentials, parts}
use Rattle.table.specs.Holding.{WellFormed}
use Rattle.table.specs.declared.Role.{Role}
use Rattle.table.specs.declared.Credential.{Credential}
use Rattle.members.specs.Members.{asked_cell, roles_asked}
use Rattle.members.proofs.Reading.{numbered}
use Rattle.members.proofs.ByKind.{parts-few, roles-2, roles-4}
use Rattle.search.specs.Asking.{pair, role_pairs}

-- how many roles a credential asks, by its kind
module _ (t : List ℕ) (c : Credential) where
  pub asks-parts : c.kind ≡ 4 → (held : List Role) → held ≡ parts t c.first → length held ≡ length (roles_asked t c)
  asks-parts four held holds = sym (ap length (roles-4 t c four ∙ sym holds))

  pub asks-one : c.kind ≡ 2 → 1 ≡ length (roles_asked t c)
  asks-one two = sym (ap length (roles-2 t c two))

  pub asks_none : (c.kind ≡ 2 → ⊥) → (c.kind ≡ 3 → ⊥) → (c.kind ≡ 4 → ⊥) → 0 ≡ length (roles_asked t c)
  unfolding roles_asked pick
  asks_none n2 n3 n4 = rw (ne_eqb c.kind 2 n2, ne_eqb c.kind 3 n3, ne_eqb c.kind 4 n4)

-- never more than a chain has
pub asked-few : (t : List ℕ) → WellFormed t → (i : ℕ) → i < credentials t → ((credential t (suc i)).kind ≡ 3 → ⊥)
    → length (roles_asked t (credential t (suc i))) ≤ most_parts
asked-few t wf i there n3 = go (ℕ_discrete c.kind 4) (ℕ_discrete c.kind 2)
  where
    c : Credential
    c = credential t (suc i)

    go : Dec (c.kind ≡ 4) → Dec (c.kind ≡ 2) → length (roles_asked t c) ≤ most_parts
    go (yes four) two = rw (roles-4 t c four) (parts-few t wf (suc i) (numbered there) four).1
    go (no n4) (yes two) = omega (arith, asks-one t c two)
    go (no n4) (no n2) = omega (arith, asks_none t c n2 n3 n4)

-- role by role: the list of k + 1 roles is that of k with the next one behind
roles-more : (index : List ℕ) (person i n k : ℕ)
    → role_pairs index person i (suc n) k ≡ role_pairs index person i n k ++ (pair person (get_or index (asked_cell i (k + n)) 0) ∷ [])
unfolding role_pairs
roles-more index person i zero k = let e : k + 0 ≡ k = omega arith in rw e
roles-more index person i (suc n) k =
    let e : suc k + n ≡ k + suc n = omega arith in
    ap (λ rest. pair person (get_or index (asked_cell i k) 0) ∷ rest) (rw e at (roles-more index person i n (suc k)))

pub roles-next : (index : List ℕ) (person i n : ℕ) {place : ℕ} → place ≡ get_or index (asked_cell i n) 0
    → role_pairs index person i n 0 ++ (pair person place ∷ []) ≡ role_pairs index person i (n + 1) 0
roles-next index person i n read = rw (read, add-one n) (sym (rw (zero-add n) at (roles-more index person i n 0)))

pub roles-length : (index : List ℕ) (person i n k : ℕ) → length (role_pairs index person i n k) ≡ n
unfolding role_pairs
roles-length index person i zero k = refl
roles-length index person i (suc n) k = ap suc (roles-length index person i n (suc k))

pub roles-none : (index : List ℕ) (person i : ℕ) → [] ≡ role_pairs index person i 0 0
unfolding role_pairs
roles-none index person i = refl
