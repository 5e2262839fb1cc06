-- The loop over a set's credentials: the index of arcs is one of the table all the while, and the rows of the first i are made.
use mathlib.Core.Path.{◌≡◌, refl, sym, ◌∙◌}
use mathlib.Core.List.{List}
use mathlib.Core.Bool.{true, false}
use Prim.Native.Nat.{ℕ, suc, ◌+◌, ◌<◌, ◌≤◌}
use native.Mathlib.Omega.{arith}
use native.Mathlib.Decide.{ℕ_discrete}
use lib.ListN.{get_or, length}
use Rattle.sets.specs.Sets.{in_set}
use Rattle.sets.proofs.Tests.{false-true}
use Rattle.table.specs.Layout.{credential, credentials}
use Rattle.table.specs.Holding.{WellFormed}
use Rattle.moves.specs.Arcs.{Arcs, index_cells, made, made_cell}
use Rattle.arcs.specs.Filling.{RowMade}
use Rattle.members.specs.Members.{Indexed, role_cell}
use Rattle.members.proofs.Places.{role-first}
use Rattle.members.proofs.Places.{same_self}
use Rattle.relevance.specs.Relevance.{RowsMade}

-- the role of a credential of the table has its place there
pub own-place : {t index : List ℕ} {i place : ℕ} → Indexed t index → i < credentials t → place ≡ get_or index (role_cell i) 0
    → place < credentials t
own-place {t} {index} {i} indexed there is =
    let role = (credential t (suc i)).role in
    let first = role-first t role i there (same_self role) in
    omega (arith, is, indexed.defined i there, first)

pub record RowMaking (t index : List ℕ) (S i : ℕ) (arcs : List ℕ) : Type 0 where
  pub few : i ≤ credentials t
  pub whole : Arcs t arcs
  pub full : length arcs ≡ index_cells
  pub rows : RowsMade index S i arcs

pub rows_none : {t : List ℕ} (index : List ℕ) (S : ℕ) {arcs : List ℕ} → Arcs t arcs → length arcs ≡ index_cells
    → RowMaking t index S 0 arcs
rows_none index S whole full =
    record { few = omega arith; whole = whole; full = full; rows = λ j less in-set. absurd (omega arith) }

module _ {t index : List ℕ} {S i : ℕ} {arcs : List ℕ} (m : RowMaking t index S i arcs) (there : i < credentials t) where
  -- credential i + 1 is not in the set
  pub rows-not : in_set S i ≡ false → RowMaking t index S (i + 1) arcs
  rows-not out =
      record { few = omega arith; whole = m.whole; full = m.full; rows = λ j less in-set. row j less in-set (ℕ_discrete j i) }
    where
      row : (j : ℕ) → j < i + 1 → in_set S j ≡ true → Dec (j ≡ i) → get_or arcs (made_cell (get_or index (role_cell j) 0)) 0 ≡ made
      row j less in-set (yes same) = absurd (false-true (sym out ∙ rw same at in-set))
      row j less in-set (no apart) = m.rows j (omega arith) in-set

  -- or it is, and its role's row has been made
  pub rows_more : WellFormed t → Indexed t index → {place : ℕ} {after : List ℕ} → place ≡ get_or index (role_cell i) 0
      → Arcs t after → RowMade place arcs after → length after ≡ length arcs → RowMaking t index S (i + 1) after
  rows_more wf indexed {place} {after} is whole made-now size =
      record {
        few = omega arith;
        whole = whole;
        full = size ∙ m.full;
        rows = λ j less in-set. row j less in-set (ℕ_discrete j i);
      }
    where
      row : (j : ℕ) → j < i + 1 → in_set S j ≡ true → Dec (j ≡ i) → get_or after (made_cell (get_or index (role_cell j) 0)) 0 ≡ made
      row j less in-set (yes same) = rw (same, ← is) made-now.own
      row j less in-set (no apart) =
          let small = own-place {i = j} indexed (omega (arith, there, less)) refl in
          made-now.kept _ (omega (arith, small, wf.sized.counted.few_credentials)) (m.rows j (omega arith) in-set)

-- all credentials have been taken
pub rows_all : {t index : List ℕ} {S i : ℕ} {arcs : List ℕ} → RowMaking t index S i arcs → credentials t ≤ i
    → RowsMade index S (credentials t) arcs
rows_all m all j less in-set = m.rows j (omega (arith, less, all)) in-set
