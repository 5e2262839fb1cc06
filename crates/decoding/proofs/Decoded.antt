-- How a loop comes by the numbers that the bytes hold.
use Prim.Native.Nat.{ℕ, ◌+◌, ◌*◌, ◌/◌, ◌<◌, ◌≤◌}
use mathlib.Core.Path.{◌≡◌, refl, sym, ap, ◌∙◌}
use mathlib.Core.List.{List, [], ◌∷◌, ◌++◌, append_assoc, append-nil}
use native.Mathlib.Omega.{arith}
use native.Mathlib.Numerals.{add-one}
use lib.ListN.{drop, get_or, length, length-append, set, take, take-append-drop}
use lib.Seq.{drop-drop, drop-set-lt, take_at, take-suc-set}
use Rattle.decoding.specs.Decoding.{from_bytes, numbers_of}

-- two bytes come first, or fewer are left
numbers-two : (pair rest : List ℕ) → length pair ≡ 2
    → numbers_of (pair ++ rest) ≡ (get_or pair 0 0 + get_or pair 1 0 * 256) ∷ numbers_of rest
unfolding numbers_of from_bytes
numbers-two [] rest h = absurd (omega arith)
numbers-two (low ∷ []) rest h = absurd (omega arith)
numbers-two (low ∷ high ∷ []) rest h =
    let same : low + 256 * high ≡ low + high * 256 = omega arith in rw same
numbers-two (low ∷ high ∷ more ∷ pair) rest h = absurd (omega arith)

numbers-end : (s : List ℕ) → length s ≤ 1 → numbers_of s ≡ []
unfolding numbers_of
numbers-end [] h = refl
numbers-end (low ∷ []) h = refl
numbers-end (low ∷ high ∷ s) h = absurd (omega arith)

pub numbers-length : (s : List ℕ) → length (numbers_of s) ≡ length s / 2
unfolding numbers_of
numbers-length [] = omega arith
numbers-length (low ∷ []) = omega arith
numbers-length (low ∷ high ∷ s) = let rest = numbers-length s in omega arith

-- the first i numbers are in their places, the rest are still in the bytes that are left, and the places from i on are as before
pub record Decoded (bytes before places left : List ℕ) (i : ℕ) : Type 0 where
  pub numbers : take i places ++ numbers_of left ≡ numbers_of bytes
  pub taken : 2 * i + length left ≡ length bytes
  pub beyond : drop i places ≡ drop i before

pub decoded-none : (before : List ℕ) {bytes left : List ℕ} {i : ℕ} → left ≡ bytes → i ≡ 0 → Decoded bytes before before left i
decoded-none before all none = rw (all, none) (record { numbers = refl; taken = omega arith; beyond = refl })

module _ {bytes before places left : List ℕ} {i : ℕ} (d : Decoded bytes before places left i) where
  pub decoded-next : (pair : List ℕ) {rest : List ℕ} {x : ℕ} → left ≡ pair ++ rest → length pair ≡ 2
      → x ≡ get_or pair 0 0 + get_or pair 1 0 * 256 → length bytes / 2 ≤ length places → Decoded bytes before (set places i x) rest (i + 1)
  decoded-next pair {rest} {x} first two is room =
      let taken : 2 * (i + 1) + length rest ≡ length bytes = omega (arith, d.taken, two, ap length first, length-append pair rest) in
      record {
        numbers =
            rw (add-one i, take-suc-set places i x (omega arith), append_assoc, is, ← numbers-two pair rest two, ← first) d.numbers;
        taken = taken;
        beyond =
            drop-set-lt (i + 1) places i x (omega arith) ∙ sym (drop-drop 1 i places)
            ∙ ap (drop 1) d.beyond ∙ drop-drop 1 i before;
      }

  pub decoded-all : length left < 2 → places ≡ numbers_of bytes ++ drop (length bytes / 2) before
  decoded-all few =
      let same : length bytes / 2 ≡ i = omega (arith, d.taken) in
      let none = numbers-end left (omega arith) in
      let first = sym (append-nil (take i places)) ∙ sym (ap (λ (rest : List ℕ). take i places ++ rest) none) ∙ d.numbers in
      rw (same, ← first, ← d.beyond) (sym (take-append-drop i places))

-- so the first places hold the numbers
pub decoded-first : (bytes before places : List ℕ) → places ≡ numbers_of bytes ++ drop (length bytes / 2) before
    → take (length bytes / 2) places ≡ numbers_of bytes
decoded-first bytes before places e = rw e (take_at (numbers_of bytes) _ (length bytes / 2) (numbers-length bytes))
