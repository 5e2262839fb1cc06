-- The list of the numbers that pass a test, and a list laid in the first cells of a buffer.
use mathlib.Core.Path.{◌≡◌, refl, sym, ap, ◌∙◌}
use mathlib.Core.List.{List, [], ◌∷◌, ◌++◌, append-nil, append_assoc}
use mathlib.Core.Bool.{Bool, true, false}
use Prim.Native.Nat.{ℕ, zero, suc, ◌<◌, ◌≤◌}
use native.Mathlib.Omega.{arith}
use native.Mathlib.Decide.{ℕ_discrete, dec_lt}
use lib.ListN.{get_or, length, set, take, drop_of_length-le, length-append, length-drop, length-take}
use lib.Seq.{take-append-le, take-nil}
use Rattle.sets.specs.Logic.{pick}
use Rattle.sorted.specs.Sorted.{laid, those}

-- one number is less than another, or it is not
pub less-or-not : {A : Type 0} (m n : ℕ) → (m < n → A) → (n ≤ m → A) → A
less-or-not {A} m n less not-less = go (dec_lt m n)
  where
    go : Dec (m < n) → A
    go (yes h) = less h
    go (no h) = not-less (omega arith)

module _ (p : ℕ → Bool) where
  pub those-skips : (n : ℕ) → p n ≡ false → those p (suc n) ≡ those p n
  unfolding those pick
  those-skips n h = rw h

  pub those-takes : (n : ℕ) → p n ≡ true → those p (suc n) ≡ those p n ++ (n ∷ [])
  unfolding those pick
  those-takes n h = rw h

-- where nothing passes from x up to y, nothing is added
pub those-bare : (p : ℕ → Bool) (x y : ℕ) → x ≤ y → ((k : ℕ) → x ≤ k → k < y → p k ≡ false) → those p y ≡ those p x
those-bare p x zero le none = let e : x ≡ 0 = omega arith in rw e
those-bare p x (suc n) le none = go (ℕ_discrete x (suc n)) (those-bare p x n)
  where
    go : Dec (x ≡ suc n) → (x ≤ n → ((k : ℕ) → x ≤ k → k < n → p k ≡ false) → those p n ≡ those p x) → those p (suc n) ≡ those p x
    go (yes e) before = ap (those p) (sym e)
    go (no e) before =
        those-skips p n (none n (omega arith) (omega arith))
        ∙ before (omega arith) (λ k h l. none k h (omega arith))

pub those-none : (p : ℕ → Bool) (n : ℕ) → ((x : ℕ) → x < n → p x ≡ false) → those p n ≡ []
unfolding those
those-none p n none = those-bare p 0 n (omega arith) (λ k h l. none k l)

-- two tests that agree below n
pub those-same : (p r : ℕ → Bool) (n : ℕ) → ((x : ℕ) → x < n → p x ≡ r x) → those p n ≡ those r n
unfolding those
those-same p r zero same = refl
those-same p r (suc n) same =
    rw (same n (omega arith), those-same p r n (λ x l. same x (omega arith)))

pub those-few : (p : ℕ → Bool) (n : ℕ) → length (those p n) ≤ n
unfolding those pick
those-few p zero = omega arith
those-few p (suc n) = go (p n) (those-few p n)
  where
    go : (b : Bool) → length (those p n) ≤ n → length (pick b (those p n ++ (n ∷ [])) (those p n)) ≤ suc n
    go true few = omega (arith, length-append (those p n) (n ∷ []))
    go false few = omega arith

-- the list up to x begins the list up to y
abbrev Begins : (ℕ → Bool) → ℕ → ℕ → Type 0
Begins p x y = (rest : List ℕ) × (those p y ≡ those p x ++ rest)

begin-more : (p : ℕ → Bool) (x n : ℕ) → Begins p x n → (b : Bool) → p n ≡ b → Begins p x (suc n)
begin-more p x n (rest, e) true h =
    (rest ++ (n ∷ []), those-takes p n h ∙ rw e (append_assoc (those p x) rest (n ∷ [])))
begin-more p x n (rest, e) false h = (rest, those-skips p n h ∙ e)

pub those-begin : (p : ℕ → Bool) (x y : ℕ) → x ≤ y → (rest : List ℕ) × (those p y ≡ those p x ++ rest)
those-begin p x zero le = let e : x ≡ 0 = omega arith in ([], rw e (sym (append-nil _)))
those-begin p x (suc n) le = go (ℕ_discrete x (suc n)) (those-begin p x n)
  where
    go : Dec (x ≡ suc n) → (x ≤ n → Begins p x n) → Begins p x (suc n)
    go (yes e) before = ([], ap (those p) (sym e) ∙ sym (append-nil (those p x)))
    go (no e) before = begin-more p x n (before (omega arith)) (p n) refl

-- a buffer's length stays
pub laid-length : (numbers buffer : List ℕ) → length (laid numbers buffer) ≡ length buffer
unfolding laid
laid-length numbers buffer = simp (length-append, length-take, length-drop) (omega arith)

pub laid_none : (numbers buffer : List ℕ) → length numbers ≡ 0 → laid numbers buffer ≡ buffer
unfolding laid
laid_none [] buffer e = rw (take-nil (length buffer))
laid_none (x ∷ numbers) buffer e = absurd (omega arith)

-- a list that does not fit fills the buffer with its first numbers
pub laid-fills : (numbers buffer : List ℕ) → length buffer ≤ length numbers → laid numbers buffer ≡ take (length buffer) numbers
unfolding laid
laid-fills numbers buffer long = rw (drop_of_length-le buffer {i = length numbers} long) (append-nil _)

pub laid-full : (numbers rest buffer : List ℕ) → length buffer ≤ length numbers
    → laid (numbers ++ rest) buffer ≡ laid numbers buffer
laid-full numbers rest buffer long =
    laid-fills (numbers ++ rest) buffer (omega (arith, length-append numbers rest))
    ∙ take-append-le (length buffer) numbers rest long
    ∙ sym (laid-fills numbers buffer long)

-- a list laid over one that is no longer
pub laid-over : (old new buffer : List ℕ) → length old ≤ length new → laid new (laid old buffer) ≡ laid new buffer
unfolding laid
laid-over [] new buffer le = ap (laid new) (laid_none [] buffer refl)
laid-over (x ∷ old) [] buffer le = absurd (omega arith)
laid-over (x ∷ old) (y ∷ new) [] le = refl
laid-over (x ∷ old) (y ∷ new) (b ∷ buffer) le = ap {B = List ℕ} (λ l. y ∷ l) (laid-over old new buffer (omega arith))

pub laid-again : (numbers rest buffer : List ℕ) → laid (numbers ++ rest) (laid numbers buffer) ≡ laid (numbers ++ rest) buffer
laid-again numbers rest buffer = laid-over numbers (numbers ++ rest) buffer (omega (arith, length-append numbers rest))

-- the next number goes into the next cell, where there is one
laid_more : (numbers buffer : List ℕ) (x : ℕ) → laid (numbers ++ (x ∷ [])) buffer ≡ set (laid numbers buffer) (length numbers) x
unfolding laid
laid_more [] [] x = refl
laid_more [] (b ∷ buffer) x = rw (take-nil (length buffer))
laid_more (y ∷ numbers) [] x = refl
laid_more (y ∷ numbers) (b ∷ buffer) x = ap {B = List ℕ} (λ l. y ∷ l) (laid_more numbers buffer x)

pub laid_next : (numbers buffer : List ℕ) (x : ℕ) → laid numbers buffer ≡ buffer
    → laid (numbers ++ (x ∷ [])) buffer ≡ set buffer (length numbers) x
laid_next numbers buffer x held = laid_more numbers buffer x ∙ ap (λ (b : List ℕ). set b (length numbers) x) held

-- a buffer's own first cells, laid in it
pub laid-own : (n : ℕ) (buffer : List ℕ) → laid (take n buffer) buffer ≡ buffer
unfolding laid
laid-own zero buffer = laid_none [] buffer refl
laid-own (suc n) [] = refl
laid-own (suc n) (b ∷ buffer) = ap {B = List ℕ} (λ l. b ∷ l) (laid-own n buffer)

-- the cells of a list, as far as it fits, and those beyond it
pub laid_cell : (numbers buffer : List ℕ) (i : ℕ) → i < length numbers → i < length buffer
    → get_or (laid numbers buffer) i 0 ≡ get_or numbers i 0
unfolding laid
laid_cell [] buffer i l there = absurd (omega arith)
laid_cell (x ∷ numbers) [] i l there = absurd (omega arith)
laid_cell (x ∷ numbers) (b ∷ buffer) zero l there = refl
laid_cell (x ∷ numbers) (b ∷ buffer) (suc i) l there = laid_cell numbers buffer i (omega arith) (omega arith)

pub laid-at : (numbers buffer : List ℕ) → length numbers ≤ length buffer
    → (i : ℕ) → i < length numbers → get_or (laid numbers buffer) i 0 ≡ get_or numbers i 0
laid-at numbers buffer fits i l = laid_cell numbers buffer i l (omega arith)

pub laid-beyond : (numbers buffer : List ℕ) → length numbers ≤ length buffer
    → (i : ℕ) → length numbers ≤ i → get_or (laid numbers buffer) i 0 ≡ get_or buffer i 0
unfolding laid
laid-beyond [] buffer fits i h = ap (λ (b : List ℕ). get_or b i 0) (laid_none [] buffer refl)
laid-beyond (x ∷ numbers) [] fits i h = absurd (omega arith)
laid-beyond (x ∷ numbers) (b ∷ buffer) fits zero h = absurd (omega arith)
laid-beyond (x ∷ numbers) (b ∷ buffer) fits (suc i) h = laid-beyond numbers buffer (omega arith) i (omega arith)
