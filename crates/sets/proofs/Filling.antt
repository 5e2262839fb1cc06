-- An array that a function fills cell by cell: each cell is what the function makes of its number.
use mathlib.Core.Path.{◌≡◌, ◌∙◌}
use mathlib.Core.List.{List}
use Prim.Native.Nat.{ℕ, zero, suc, ◌+◌, ◌<◌, ◌≤◌}
use native.Mathlib.Omega.{arith}
use native.Mathlib.Decide.{ℕ_discrete}
use lib.ListN.{get_or}
use denote.Param.Members.{Called, Mut}
use Rattle.std.specs.Array.{IsFromFnResult, IsFromFnResultFrom}

module _ {F B : Type 0} (g : Mut F (ℕ × Unit {0}) B) (f : F) (h : ℕ → B)
    (call : (i : ℕ) (y : B) (q : F) → Called g f (i, tt) y q → (q ≡ f) × (y ≡ h i)) (ys : List B) (d : B) where
  filled_from : (n i : ℕ) → IsFromFnResultFrom g f ys i n → (j : ℕ) → i ≤ j → j < i + n → get_or ys j d ≡ h j
  filled_from zero i made j low high = absurd (omega arith)
  filled_from (suc n) i (q, y, at, one, others) j low high =
      go (ℕ_discrete j i) (filled_from n (i + 1) (rw (call i y q one).0 at others) j)
    where
      go : Dec (j ≡ i) → (i + 1 ≤ j → j < i + 1 + n → get_or ys j d ≡ h j) → get_or ys j d ≡ h j
      go (yes e) later = rw e (at.1 d ∙ (call i y q one).1)
      go (no e) later = later (omega arith) (omega arith)

  pub filled : {n : ℕ} → IsFromFnResult g f ys n → (j : ℕ) → j < n → get_or ys j d ≡ h j
  filled {n} made j l = filled_from n 0 made.each j (omega arith) (omega arith)
