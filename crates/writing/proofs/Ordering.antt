-- Records compared number by number. No two come before each other, and lists that are in order stay so where others follow
-- them that are in order if the first are the same. Of the records of two derivations of the same goals none begins the other:
-- the reader takes the one off the other, and leaves nothing.
use mathlib.Core.Path.{◌≡◌, refl}
use mathlib.Core.List.{List, [], ◌∷◌, ◌++◌, append-nil}
use mathlib.Core.Logic.{⊎_elim}
use Prim.Native.Nat.{ℕ, ◌≤◌}
use native.Mathlib.Omega.{arith}
use native.Mathlib.Nat.{eq-or-lt_of_le}
use Rattle.derivation.specs.Forest.{written}
use Rattle.verifier.proofs.Readings.{reader-complete}
use Rattle.writing.specs.Writes.{Before, NoneBegins}
use Rattle.writing.specs.Writes.Before.{smaller, further}

-- one list of numbers is another, or comes before it
pub data Order : List ℕ → List ℕ → Type 0 where
  same : {xs : List ℕ} → Order xs xs
  before : {xs ys : List ℕ} → Before xs ys → Order xs ys

before-apart : {xs ys xs' ys' : List ℕ} → Before xs ys → Before ys' xs' → xs ≡ xs' → ys ≡ ys' → ⊥
before-apart (smaller {x = x} {y = y} l) (smaller {x = y'} {y = x'} l') e e' =
    let a : x ≡ x' = cc in let b : y ≡ y' = cc in omega arith
before-apart (smaller {x = x} {y = y} l) (further {x = z} b) e e' =
    let a : x ≡ z = cc in let b' : y ≡ z = cc in omega arith
before-apart (further {x = z} b) (smaller {x = y} {y = x} l) e e' =
    let a : z ≡ x = cc in let b' : z ≡ y = cc in omega arith
before-apart (further {xs = xs} {ys = ys} b) (further {xs = ys'} {ys = xs'} b') e e' =
    let tails : xs ≡ xs' = cc in let tails' : ys ≡ ys' = cc in before-apart b b' tails tails'

pub before-once : {xs ys : List ℕ} → Before xs ys → Before ys xs → ⊥
before-once b b' = before-apart b b' refl refl

pub apart-before : {xs ys : List ℕ} → Order xs ys → (ys ≡ xs → ⊥) → Before xs ys
apart-before same other = absurd (other refl)
apart-before (before b) other = b

before-append : {xs xs' : List ℕ} (ys ys' : List ℕ) → Before xs xs' → Before (xs ++ ys) (xs' ++ ys')
before-append ys ys' (smaller l) = smaller l
before-append ys ys' (further b) = further (before-append ys ys' b)

after_same : (xs : List ℕ) {ys ys' : List ℕ} → Before ys ys' → Before (xs ++ ys) (xs ++ ys')
after_same [] b = b
after_same (x ∷ xs) b = further (after_same xs b)

after-order : (xs : List ℕ) {ys ys' : List ℕ} → Order ys ys' → Order (xs ++ ys) (xs ++ ys')
after-order xs same = same
after-order xs (before b) = before (after_same xs b)

-- what follows decides only where the first are the same
pub order-then : {xs xs' ys ys' : List ℕ} → Order xs xs' → (xs ≡ xs' → Order ys ys') → Order (xs ++ ys) (xs' ++ ys')
order-then {xs} same rest = after-order xs (rest refl)
order-then (before b) rest = before (before-append _ _ b)

-- a number is less, or it is the same and the rest decides
pub order-next : (x y : ℕ) {xs ys : List ℕ} → x ≤ y → (x ≡ y → Order xs ys) → Order (x ∷ xs) (y ∷ ys)
order-next x y l rest =
    ⊎_elim (λ e. rw (← e) (after-order (x ∷ []) (rest e))) (λ less. before (smaller less)) (eq-or-lt_of_le l)

pub none-begins : NoneBegins
none-begins t levels branch goals f f' more d d' longer =
    let one = reader-complete t d more 1 in
    let other = reader-complete t d' [] 1 in
    let whole = append-nil (written f') in
    cc
