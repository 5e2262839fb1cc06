-- A number put into a list, in between: before place i of it.
use mathlib.Core.Path.{◌≡◌, refl, ap}
use mathlib.Core.List.{List, [], ◌∷◌, ◌++◌}
use Prim.Native.Nat.{ℕ, zero, suc, ◌≤◌, min}
use native.Mathlib.Omega.{arith}
use lib.ListN.{drop, length, take}
use lib.Seq.{drop-nil}
use Rattle.sorted.specs.Sorted.{laid}
use Rattle.sorted.proofs.Lists.{laid_none}

abbrev pub between : ℕ → ℕ → List ℕ → List ℕ
between i x xs = take i xs ++ x ∷ drop i xs

pub between-seam : (x : ℕ) (xs ys : List ℕ) → between (length xs) x (xs ++ ys) ≡ xs ++ x ∷ ys
between-seam x [] ys = refl
between-seam x (y ∷ xs) ys = ap {B = List ℕ} (λ l. y ∷ l) (between-seam x xs ys)

pub between-last : (x : ℕ) (xs : List ℕ) → between (length xs) x xs ≡ xs ++ (x ∷ [])
between-last x [] = refl
between-last x (y ∷ xs) = ap {B = List ℕ} (λ l. y ∷ l) (between-last x xs)

-- a buffer without cells; and a number put before all others
laid-empty : (xs : List ℕ) → laid xs [] ≡ []
unfolding laid
laid-empty xs = drop-nil (length xs)

laid-first : (x : ℕ) (xs buffer : List ℕ) → laid (x ∷ take (length xs) (laid xs buffer)) (laid xs buffer) ≡ laid (x ∷ xs) buffer
unfolding laid
laid-first x [] buffer = ap (laid (x ∷ [])) (laid_none [] buffer refl)
laid-first x (y ∷ xs) [] = refl
laid-first x (y ∷ xs) (b ∷ buffer) = ap {B = List ℕ} (λ l. x ∷ l) (laid-first y xs buffer)

-- a number put into what a buffer holds of a list, and into the list itself: the place is the same, as far as there are cells
laid-nowhere : (i a x : ℕ) (xs : List ℕ)
    → laid (between i x (take (length xs) (laid xs []))) (laid xs []) ≡ laid (between a x xs) []
laid-nowhere i a x xs = rw (laid-empty xs, laid-empty (between a x xs)) (laid-empty _)

pub laid-between : (i a x : ℕ) (xs buffer : List ℕ) → i ≡ min a (length buffer) → a ≤ length xs
    → laid (between i x (take (length xs) (laid xs buffer))) (laid xs buffer) ≡ laid (between a x xs) buffer
unfolding laid
laid-between i a x xs [] e l = laid-nowhere i a x xs
laid-between i a x [] (b ∷ buffer) e l = let same : i ≡ a = omega arith in rw same
laid-between zero zero x (y ∷ xs) (b ∷ buffer) e l = laid-first x (y ∷ xs) (b ∷ buffer)
laid-between zero (suc a) x (y ∷ xs) (b ∷ buffer) e l = absurd (omega arith)
laid-between (suc i) zero x (y ∷ xs) (b ∷ buffer) e l = absurd (omega arith)
laid-between (suc i) (suc a) x (y ∷ xs) (b ∷ buffer) e l =
    ap {B = List ℕ} (λ l. y ∷ l) (laid-between i a x xs buffer (omega arith) (omega arith))
