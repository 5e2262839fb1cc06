-- The numbers that pass a test, ascending, in the first cells of a buffer: what the buffer holds while the numbers are found in
-- no order.
use Rattle.std.specs.Prelude.{ℕ, zero, suc, ◌<◌, ◌≡◌, List, [], ◌∷◌, ◌++◌, Bool, false, drop, length, take, eqb}
use Rattle.sets.specs.Logic.{◌or◌, pick}

-- the numbers below n that pass the test, ascending
unfoldable pub those : (ℕ → Bool) → ℕ → List ℕ
those p zero = []
those p (suc n) = pick (p n) (those p n ++ (n ∷ [])) (those p n)

-- the list in the first cells of the buffer, as many as it has; cells beyond are unchanged
unfoldable pub laid : List ℕ → List ℕ → List ℕ
laid numbers buffer = take (length buffer) numbers ++ drop (length numbers) buffer

-- a buffer that was `before` holds the numbers below n that pass, as far as it has cells, and so many of them there are
pub record HoldsLeast (p : ℕ → Bool) (n : ℕ) (before after : List ℕ) (found : ℕ) : Type 0 where
  pub held : after ≡ laid (those p n) before
  pub count : found ≡ length (those p n)

-- the test, and the number x
unfoldable pub or_is : (ℕ → Bool) → ℕ → ℕ → Bool
or_is p x y = p y or eqb x y

-- whatever test the buffer held the numbers of, it now holds those and the number, where the number did not pass
pub record Inserted (entry : List ℕ) (found number : ℕ) (exit : List ℕ) (found' : ℕ) : Type 0 where
  pub holds : (p : ℕ → Bool) (n : ℕ) (before : List ℕ) → HoldsLeast p n before entry found → number < n → p number ≡ false
      → HoldsLeast (or_is p number) n before exit found'
