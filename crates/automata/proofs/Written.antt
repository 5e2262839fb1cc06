-- A list that a loop writes from the front: its first k places have f 1 to f k, and the others have what they had before.
use mathlib.Core.Path.{◌≡◌, refl, sym, ◌∙◌}
use mathlib.Core.List.{List}
use Prim.Native.Nat.{ℕ, suc, ◌+◌, ◌<◌, ◌≤◌}
use native.Mathlib.Omega.{arith}
use native.Mathlib.Numerals.{add-one}
use native.Mathlib.Decide.{ℕ_discrete}
use lib.ListN.{get_or, length, set, length-set}
use lib.Seq.{get_or-set_same, get_or-set_other}
use lib.Dec.{ltb}
use borrow.Author.Tests.{lt-ltb, le-ltb}
use Rattle.sets.specs.Logic.{pick}
use Rattle.sets.proofs.Members.{ltb_next}

pub record Written (f : ℕ → ℕ) (old : List ℕ) (k : ℕ) (l : List ℕ) : Type 0 where
  pub size : length l ≡ length old
  pub here : (j : ℕ) → j < length old → get_or l j 0 ≡ pick (ltb j k) (f (suc j)) (get_or old j 0)

module _ (f : ℕ → ℕ) (old : List ℕ) where
  pub written_none : Written f old 0 old
  unfolding pick
  written_none = record { size = refl; here = λ j h. rw (le-ltb j 0 (omega arith)) }

  module _ {k : ℕ} {l : List ℕ} (w : Written f old k l) where
    -- what stands where nothing has been written, and where something has
    pub unwritten : {j : ℕ} → j < length old → k ≤ j → get_or l j 0 ≡ get_or old j 0
    unfolding pick
    unwritten {j} room later = w.here j room ∙ rw (le-ltb j k later)

    pub written : {j : ℕ} → j < length old → j < k → get_or l j 0 ≡ f (suc j)
    unfolding pick
    written {j} room before = w.here j room ∙ rw (lt-ltb j k before)

    -- the next place has been written, too
    pub written-more : {x : ℕ} → k < length old → x ≡ f (k + 1) → Written f old (k + 1) (set l k x)
    unfolding pick
    written-more {x} room is =
        rw (add-one k) (record { size = simp length-set w.size; here = λ j h. at j h (ℕ_discrete k j) })
      where
        at : (j : ℕ) → j < length old → Dec (k ≡ j) → get_or (set l k x) j 0 ≡ pick (ltb j (suc k)) (f (suc j)) (get_or old j 0)
        at j h (yes same) =
            rw (← same, lt-ltb k (suc k) (omega arith))
            (get_or-set_same l k x 0 (omega (arith, room, w.size)) ∙ rw (add-one k) at is)
        at j h (no other) = rw (← ltb_next j k other) (get_or-set_other l k j x 0 (λ e. other (sym e)) ∙ w.here j h)
