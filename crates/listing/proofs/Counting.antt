-- Rows 9 and 10: what is told of the number of minimal sets and the number of cells.
use mathlib.Core.Path.{◌≡◌, refl, sym, ◌∙◌}
use mathlib.Core.Bool.{Bool, true, false}
use mathlib.Core.Logic.{◌↔◌}
use Prim.Native.Nat.{ℕ, ◌<◌, ◌≤◌}
use native.Mathlib.Omega.{arith}
use lib.Dec.{eqb, leb}
use borrow.Author.Tests.{eqb-false, eqb-true, leb-false, leb-true}
use Rattle.table.specs.Outcome.{Outcome, ◌and_then◌, demand}
use Rattle.table.specs.Outcome.Outcome.{accepted, refused}
use Rattle.table.proofs.Stages.{refused-accepted}
use Rattle.listing.specs.Minimal.{counted}

-- no minimal set; fewer cells than minimal sets; or the list
data Counts (cells count : ℕ) : Type 0 where
  none : count ≡ 0 → counted cells count ≡ refused 9 0 → Counts cells count
  longer : cells < count → counted cells count ≡ refused 10 0 → Counts cells count
  listed : 0 < count → count ≤ cells → counted cells count ≡ accepted count → Counts cells count

counts : (cells count : ℕ) → Counts cells count
unfolding counted demand ◌and_then◌
counts cells count = go (eqb count 0) refl (leb count cells) refl
  where
    go : (empty : Bool) → eqb count 0 ≡ empty → (room : Bool) → leb count cells ≡ room → Counts cells count
    go true e room l = none (eqb-true count 0 e) (rw e)
    go false e true l = listed (omega (arith, eqb-false count 0 e)) (leb-true count cells l) (rw (e, l))
    go false e false l = longer (leb-false count cells l) (rw (e, l))

nine-ten : {o : Outcome} → o ≡ refused 9 0 → o ≡ refused 10 0 → ⊥
nine-ten e l = let z : ◌≡◌ {A = ℕ} 9 10 = cc in omega arith

told-both : {o : Outcome} {number position v : ℕ} → o ≡ refused number position → o ≡ accepted v → ⊥
told-both e l = refused-accepted (sym e ∙ l)

module _ (cells count : ℕ) where
  -- 9 exactly where there is no minimal set
  pub none-counted : (counted cells count ≡ refused 9 0) ↔ (count ≡ 0)
  none-counted = (to (counts cells count), from (counts cells count))
    where
      to : Counts cells count → counted cells count ≡ refused 9 0 → count ≡ 0
      to (none z e) h = z
      to (longer l e) h = absurd (nine-ten h e)
      to (listed l fits e) h = absurd (told-both h e)

      from : Counts cells count → count ≡ 0 → counted cells count ≡ refused 9 0
      from (none z e) h = e
      from (longer l e) h = absurd (omega arith)
      from (listed l fits e) h = absurd (omega arith)

  -- 10 exactly where there are more of them than cells
  pub more-counted : (counted cells count ≡ refused 10 0) ↔ (cells < count)
  more-counted = (to (counts cells count), from (counts cells count))
    where
      to : Counts cells count → counted cells count ≡ refused 10 0 → cells < count
      to (none z e) h = absurd (nine-ten e h)
      to (longer l e) h = l
      to (listed l fits e) h = absurd (told-both h e)

      from : Counts cells count → cells < count → counted cells count ≡ refused 10 0
      from (none z e) h = absurd (omega arith)
      from (longer l e) h = e
      from (listed l fits e) h = absurd (omega arith)

  -- any other refusal than 10 is 9
  pub other-counted : (number position : ℕ) → counted cells count ≡ refused number position → (number ≡ 10 → ⊥) → count ≡ 0
  other-counted number position h other = go (counts cells count)
    where
      go : Counts cells count → count ≡ 0
      go (none z e) = z
      go (longer l e) = absurd (other (cc))
      go (listed l fits e) = absurd (told-both h e)

  -- otherwise their number
  pub listed-counted : 0 < count → count ≤ cells → counted cells count ≡ accepted count
  listed-counted some fits = go (counts cells count)
    where
      go : Counts cells count → counted cells count ≡ accepted count
      go (none z e) = absurd (omega arith)
      go (longer l e) = absurd (omega arith)
      go (listed l fits e) = e

  pub otherwise-counted : (counted cells count ≡ refused 9 0 → ⊥) → (counted cells count ≡ refused 10 0 → ⊥)
      → counted cells count ≡ accepted count
  otherwise-counted some short = go (counts cells count)
    where
      go : Counts cells count → counted cells count ≡ accepted count
      go (none z e) = absurd (some e)
      go (longer l e) = absurd (short e)
      go (listed l fits e) = e

  pub accepted-counted : (v : ℕ) → counted cells count ≡ accepted v → (v ≡ count) × (count ≤ cells)
  accepted-counted v h = go (counts cells count)
    where
      go : Counts cells count → (v ≡ count) × (count ≤ cells)
      go (none z e) = absurd (told-both e h)
      go (longer l e) = absurd (told-both e h)
      go (listed l fits e) = ((cc), fits)
