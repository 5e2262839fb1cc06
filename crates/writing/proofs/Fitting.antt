-- Rows 15 and 16: what is told of whether the set is listed, of the record's length and of the number of cells, and what the
-- cells hold afterwards.
use mathlib.Core.Path.{◌≡◌, refl, sym, ◌∙◌}
use mathlib.Core.List.{List}
use mathlib.Core.Bool.{Bool, true, false}
use mathlib.Core.Logic.{◌↔◌}
use Prim.Native.Nat.{ℕ, ◌<◌, ◌≤◌}
use native.Mathlib.Omega.{arith}
use lib.ListN.{length}
use lib.Dec.{leb}
use borrow.Author.Tests.{le-leb, leb-false, leb-true, lt-leb}
use Rattle.sets.proofs.Tests.{false-true}
use Rattle.sorted.specs.Sorted.{laid}
use Rattle.table.specs.Outcome.{Outcome}
use Rattle.table.specs.Outcome.Outcome.{accepted, refused}
use Rattle.table.specs.declared.Query.{Query}
use Rattle.table.proofs.Stages.{demand-off, demand-on, refused-accepted}
use Rattle.listing.specs.Minimal.{is_minimal}
use Rattle.walking.specs.First.{first_record}
use Rattle.writing.specs.Writing.{TellsRecord, filled, fitted}

module _ {listed : Bool} (len cells : ℕ) where
  pub fitted-unlisted : listed ≡ false → fitted listed len cells ≡ refused 15 0
  unfolding fitted
  fitted-unlisted off = demand-off 15 0 _ off

  pub fitted-longer : listed ≡ true → cells < len → fitted listed len cells ≡ refused 16 0
  unfolding fitted
  fitted-longer on less = demand-on 15 0 on ∙ demand-off 16 0 _ (lt-leb len cells less)

  pub fitted-written : listed ≡ true → len ≤ cells → fitted listed len cells ≡ accepted len
  unfolding fitted
  fitted-written on room = demand-on 15 0 on ∙ demand-on 16 0 (le-leb len cells room)

-- the set is not listed; there are fewer cells than numbers; or the record fits
data Fits (listed : Bool) (len cells : ℕ) : Type 0 where
  unlisted : listed ≡ false → fitted listed len cells ≡ refused 15 0 → Fits listed len cells
  longer : listed ≡ true → cells < len → fitted listed len cells ≡ refused 16 0 → Fits listed len cells
  whole : listed ≡ true → len ≤ cells → fitted listed len cells ≡ accepted len → Fits listed len cells

fits : (listed : Bool) (len cells : ℕ) → Fits listed len cells
fits false len cells = unlisted refl (fitted-unlisted len cells refl)
fits true len cells = go (leb len cells) refl
  where
    go : (room : Bool) → leb len cells ≡ room → Fits true len cells
    go true e = let l = leb-true len cells e in whole refl l (fitted-written len cells refl l)
    go false e = let l = leb-false len cells e in longer refl l (fitted-longer len cells refl l)

fifteen-sixteen : {o : Outcome} → o ≡ refused 15 0 → o ≡ refused 16 0 → ⊥
fifteen-sixteen e l = let z : ◌≡◌ {A = ℕ} 15 16 = cc in omega arith

module _ (listed : Bool) (len cells : ℕ) where
  -- 15 exactly where the set is not listed
  pub unlisted-fitted : (fitted listed len cells ≡ refused 15 0) ↔ (listed ≡ true → ⊥)
  unlisted-fitted = (to (fits listed len cells), from (fits listed len cells))
    where
      to : Fits listed len cells → fitted listed len cells ≡ refused 15 0 → listed ≡ true → ⊥
      to (unlisted off e) h on = false-true (sym off ∙ on)
      to (longer own l e) h on = fifteen-sixteen h e
      to (whole own l e) h on = refused-accepted (sym h ∙ e)

      from : Fits listed len cells → (listed ≡ true → ⊥) → fitted listed len cells ≡ refused 15 0
      from (unlisted off e) h = e
      from (longer own l e) h = absurd (h own)
      from (whole own l e) h = absurd (h own)

  -- 16 exactly where it is, and there are fewer cells than numbers
  pub longer-fitted : (fitted listed len cells ≡ refused 16 0) ↔ ((listed ≡ true) × (cells < len))
  longer-fitted = (to (fits listed len cells), (λ (on, less). fitted-longer len cells on less))
    where
      to : Fits listed len cells → fitted listed len cells ≡ refused 16 0 → (listed ≡ true) × (cells < len)
      to (unlisted off e) h = absurd (fifteen-sixteen e h)
      to (longer own l e) h = (own, l)
      to (whole own l e) h = absurd (refused-accepted (sym h ∙ e))

  -- otherwise the length
  pub otherwise-fitted : (fitted listed len cells ≡ refused 15 0 → ⊥) → (fitted listed len cells ≡ refused 16 0 → ⊥)
      → (listed ≡ true) × (len ≤ cells) × (fitted listed len cells ≡ accepted len)
  otherwise-fitted not-15 not_16 = go (fits listed len cells)
    where
      go : Fits listed len cells → (listed ≡ true) × (len ≤ cells) × (fitted listed len cells ≡ accepted len)
      go (unlisted off e) = absurd (not-15 e)
      go (longer own l e) = absurd (not_16 e)
      go (whole own l e) = (own, l, e)

-- past the request's rows: `fitted` is the outcome, and only a record that fits changes the cells
module _ (t : List ℕ) (q : Query) (S : ℕ) (before : List ℕ) where
  pub tells-unlisted : is_minimal t q S ≡ false → TellsRecord t q S before before (refused 15 0)
  unfolding filled
  tells-unlisted off = (sym (fitted-unlisted _ _ off), refl)

  module _ (listed : is_minimal t q S ≡ true) where
    pub tells-longer : length before < length (first_record t q S) → TellsRecord t q S before before (refused 16 0)
    unfolding filled
    tells-longer less = (sym (fitted-longer _ _ listed less), refl)

    pub tells-written : {after : List ℕ} {len : ℕ} → len ≡ length (first_record t q S) → len ≤ length before
        → after ≡ laid (first_record t q S) before → TellsRecord t q S before after (accepted len)
    unfolding filled
    tells-written e room held = (rw e (sym (fitted-written _ _ listed (rw e at room))), held)
