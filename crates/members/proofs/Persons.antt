-- Whether a principal stands at a place, by the index.
use mathlib.Core.Path.{◌≡◌, sym, ap, ◌∙◌}
use mathlib.Core.List.{List}
use mathlib.Core.Bool.{false}
use Prim.Native.Nat.{ℕ, suc, ◌+◌, ◌<◌}
use lib.ListN.{get_or}
use lib.Dec.{eqb}
use borrow.Author.Tests.{eq-eqb, ne_eqb}
use Rattle.sets.proofs.Tests.{and_is, and-is-off}
use Rattle.table.specs.Layout.{credential, credentials}
use Rattle.table.specs.declared.Credential.{Credential}
use Rattle.members.specs.Places.{is_person}
use Rattle.members.specs.Members.{Indexed, asked_cell}
use Rattle.members.proofs.Reading.{kind-read}

-- credential j + 1 has been read as x
module _ (t : List ℕ) (j : ℕ) (x : Credential) (read : x ≡ credential t (j + 1)) where
  pub no-person : (x.kind ≡ 1 → ⊥) → false ≡ is_person t j
  unfolding is_person
  no-person other = sym (and-is-off _ (ne_eqb (credential t (suc j)).kind 1 (λ one. other (kind-read t j x read ∙ one))))

  pub person-here : (index : List ℕ) → Indexed t index → j < credentials t → x.kind ≡ 1 → (cell : ℕ)
      → cell ≡ get_or index (asked_cell j 0) 0 → eqb cell j ≡ is_person t j
  unfolding is_person
  person-here index indexed there one cell e =
      let kind = sym (kind-read t j x read) ∙ one in
      sym (and_is (eq-eqb (credential t (suc j)).kind 1 kind) (ap (λ y. eqb y j) (sym (e ∙ indexed.named j there kind))))
