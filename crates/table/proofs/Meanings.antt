-- What each kind of credential and each label of an edge allows: the definitions' cases, one law each.
use mathlib.Core.Path.{◌≡◌}
use mathlib.Core.Bool.{false}
use Prim.Native.Nat.{ℕ}
use lib.Dec.{eqb}
use borrow.Author.Tests.{ne_eqb}
use Rattle.sets.specs.Logic.{◌and◌, pick}
use Rattle.table.specs.Layout.{principal, name}
use Rattle.table.specs.Checks.{is_name, is_principal, is_role, label_ok, label_to, meaning_ok, meaning_to, within}
use Rattle.table.specs.declared.Role.{Role}

module _ (kind first second q : ℕ) where
  pub kind_1 : kind ≡ 1 → meaning_ok kind first second q ≡ (is_principal (principal first) and eqb second 0)
  unfolding meaning_to pick
  kind_1 h = rw h

  pub kind_2 : kind ≡ 2 → meaning_ok kind first second q ≡ (is_principal (principal first) and is_name (name second))
  unfolding meaning_to pick
  kind_2 h = rw h

  pub kind_3 : kind ≡ 3 → meaning_ok kind first second q ≡ (is_name (name first) and is_name (name second))
  unfolding meaning_to pick
  kind_3 h = rw h

  pub kind-4 : kind ≡ 4 → meaning_ok kind first second q ≡ (within 1 q first and eqb second 0)
  unfolding meaning_to pick
  kind-4 h = rw h

  pub kind-none : (kind ≡ 1 → ⊥) → (kind ≡ 2 → ⊥) → (kind ≡ 3 → ⊥) → (kind ≡ 4 → ⊥)
      → meaning_ok kind first second q ≡ false
  unfolding meaning_to pick
  kind-none h1 h2 h3 h4 = rw (ne_eqb kind 1 h1, ne_eqb kind 2 h2, ne_eqb kind 3 h3, ne_eqb kind 4 h4)

module _ (label : ℕ) (r : Role) where
  pub label-1 : label ≡ 1 → label_ok label r ≡ is_role r
  unfolding label_to pick
  label-1 h = rw h

  pub label-2 : label ≡ 2 → label_ok label r ≡ (eqb r.owner.0 0 and eqb r.name.0 0)
  unfolding label_to pick
  label-2 h = rw h

  pub label-3 : label ≡ 3 → label_ok label r ≡ is_role r
  unfolding label_to pick
  label-3 h = rw h

  pub label-4 : label ≡ 4 → label_ok label r ≡ (is_principal r.owner and eqb r.name.0 0)
  unfolding label_to pick
  label-4 h = rw h

  pub label-none : (label ≡ 1 → ⊥) → (label ≡ 2 → ⊥) → (label ≡ 3 → ⊥) → (label ≡ 4 → ⊥) → label_ok label r ≡ false
  unfolding label_to pick
  label-none h1 h2 h3 h4 = rw (ne_eqb label 1 h1, ne_eqb label 2 h2, ne_eqb label 3 h3, ne_eqb label 4 h4)
