-- A number in decimal: its digits but the last, where it has more than one, and its last; and how many they are.
use mathlib.Core.Path.{◌≡◌, refl}
use mathlib.Core.List.{List, [], ◌∷◌, ◌++◌}
use Prim.Native.Nat.{ℕ, zero, suc, ◌+◌, ◌-◌, ◌*◌, ◌/◌, ◌%◌, ◌^◌, ◌<◌, ◌≤◌}
use native.Mathlib.Omega.{arith}
use native.Mathlib.Decide.{dec_lt}
use lib.ListN.{length, length-append}
use borrow.Author.Tests.{le-ltb, lt-ltb}
use Rattle.sets.specs.Logic.{pick}
use Rattle.lines.specs.Printed.{DecimalReads, decimal, digits, glyph, read_after}

-- any bound that is large enough gives the same digits
digits_same : (k m n : ℕ) → n ≤ k → n ≤ m → digits k n ≡ digits m n
unfolding digits pick
digits_same zero zero n h l = refl
digits_same zero (suc m) n h l = rw (lt-ltb n 10 (omega arith))
digits_same (suc k) zero n h l = rw (lt-ltb n 10 (omega arith))
digits_same (suc k) (suc m) n h l = rw (digits_same k m (n / 10) (omega arith) (omega arith))

pub decimal-one : (n : ℕ) → n < 10 → decimal n ≡ glyph n ∷ []
unfolding decimal digits pick
decimal-one zero h = refl
decimal-one (suc n) h = rw (lt-ltb (suc n) 10 h)

pub decimal-more : (n : ℕ) → 10 ≤ n → decimal n ≡ decimal (n / 10) ++ (glyph (n % 10) ∷ [])
unfolding decimal digits pick
decimal-more zero h = absurd (omega arith)
decimal-more (suc n) h = rw (le-ltb (suc n) 10 h, digits_same n (suc n / 10) (suc n / 10) (omega arith) (omega arith))

pub length-one : (n : ℕ) → n < 10 → length (decimal n) ≡ 1
length-one n h = rw (decimal-one n h)

pub length_more : (n : ℕ) → 10 ≤ n → length (decimal n) ≡ length (decimal (n / 10)) + 1
length_more n h = rw (decimal-more n h, length-append)

-- what holds of every one-digit number, and of a number if it holds of its digits but the last, holds of all
by_digits : (P : ℕ → Type 0) → ((n : ℕ) → n < 10 → P n) → ((n : ℕ) → 10 ≤ n → P (n / 10) → P n) → (n : ℕ) → P n
by_digits P one more n = go n n (omega arith)
  where
    step : (n : ℕ) → (10 ≤ n → P (n / 10)) → Dec (n < 10) → P n
    step n before (yes h) = one n h
    step n before (no h) = more n (omega arith) (before (omega arith))

    go : (most n : ℕ) → n ≤ most → P n
    go zero n h = one n (omega arith)
    go (suc most) n h = step n (λ l. go most (n / 10) (omega arith)) (dec_lt n 10)

-- a number below 10 ^ (k + 1) has at most k + 1 digits
pub decimal-short : (k n : ℕ) → n < 10 ^ suc k → length (decimal n) ≤ suc k
decimal-short zero n h = omega (arith, length-one n (omega arith))
decimal-short (suc k) n h = go (decimal-short k (n / 10) (omega arith)) (dec_lt n 10)
  where
    go : length (decimal (n / 10)) ≤ suc k → Dec (n < 10) → length (decimal n) ≤ suc (suc k)
    go before (yes l) = omega (arith, length-one n l)
    go before (no l) = omega (arith, length_more n (omega arith))

read-append : (before : ℕ) (s t : List ℕ) → read_after before (s ++ t) ≡ read_after (read_after before s) t
unfolding read_after
read-append before [] t = refl
read-append before (d ∷ s) t = read-append (10 * before + (d - glyph 0)) s t

-- a number's digits stand for it
pub decimal-reads : DecimalReads
unfolding read_after
decimal-reads = by_digits (λ n. read_after 0 (decimal n) ≡ n) one more
  where
    one : (n : ℕ) → n < 10 → read_after 0 (decimal n) ≡ n
    one n h = rw (decimal-one n h) (omega arith)

    more : (n : ℕ) → 10 ≤ n → read_after 0 (decimal (n / 10)) ≡ n / 10 → read_after 0 (decimal n) ≡ n
    more n h before = rw (decimal-more n h, read-append, before) (omega arith)
