-- The first cuts as a list of their own: what is asked of each of them, asked of that list.
use mathlib.Core.Path.{◌≡◌, refl, sym, ap, ◌∙◌}
use mathlib.Core.List.{List, [], ◌∷◌, ◌++◌}
use mathlib.Core.Bool.{Bool, true, false, not, cond, ◌&&◌, ◌||◌}
use Prim.Native.Nat.{ℕ, zero, suc, ◌≤◌}
use native.Mathlib.Omega.{arith}
use lib.Bits.{bit_and, bit_or}
use lib.ListN.{get_or, length, take}
use Rattle.std.specs.Prelude.{Option, None, Some, is_none, unwrap_or}
use Rattle.std.specs.List.{find, list_all, list_any}
use Rattle.std.specs.Option.{option_or}
use Rattle.std.proofs.Math.Seq.{take-suc}
use Rattle.std.proofs.lemmas.List.Folds.{find-append, list_any-append}
use Rattle.sets.specs.Logic.{◌or◌, any_below, pick}
use Rattle.sets.specs.Sets.{in_set, meets}
use Rattle.sets.proofs.Members.{in_set-or, in_set-zero}
use Rattle.cuts.specs.Cuts.{is_sole, meets_all, unmet}
use Rattle.cuts.proofs.Single.{only}

-- some list's element, after one more
one-more : (p : ℕ → Bool) (xs : List ℕ) (x : ℕ) → list_any p (xs ++ (x ∷ [])) ≡ (list_any p xs or p x)
unfolding ◌or◌
one-more p xs x = rw (list_any-append p xs (x ∷ [])) (go (list_any p xs) (p x))
  where
    go : (a b : Bool) → (a || (b || false)) ≡ (a or b)
    go true b = refl
    go false true = refl
    go false false = refl

-- one of the first n passes
any-listed : (p : ℕ → Bool) (xs : List ℕ) (n : ℕ) → n ≤ length xs → list_any p (take n xs) ≡ any_below (λ i. p (get_or xs i 0)) n
unfolding any_below
any-listed p xs zero few = refl
any-listed p xs (suc n) few =
    rw (take-suc xs n 0 few, one-more p (take n xs) (get_or xs n 0), any-listed p xs n (omega arith)) refl

-- each of them is met, and the first that is not
abbrev pub missed : ℕ → ℕ → Bool
missed Y x = not (meets Y x)

each-met : (Y : ℕ) (xs : List ℕ) → list_all (meets Y) xs ≡ not (list_any (missed Y) xs)
each-met Y [] = refl
each-met Y (x ∷ xs) = rw (each-met Y xs) (go (meets Y x))
  where
    go : (b : Bool) → (b && not (list_any (missed Y) xs)) ≡ not (not b || list_any (missed Y) xs)
    go true = refl
    go false = refl

none-missed : (Y : ℕ) (xs : List ℕ) → is_none (find (missed Y) xs) ≡ list_all (meets Y) xs
none-missed Y [] = refl
none-missed Y (x ∷ xs) = go (none-missed Y xs) (meets Y x)
  where
    go : is_none (find (missed Y) xs) ≡ list_all (meets Y) xs → (b : Bool)
        → is_none (cond (not b) (Some x) (find (missed Y) xs)) ≡ (b && list_all (meets Y) xs)
    go rest true = rest
    go rest false = refl

pub meets_all-listed : (cuts : List ℕ) (count Y : ℕ) → count ≤ length cuts → list_all (meets Y) (take count cuts) ≡ meets_all cuts count Y
unfolding meets_all
meets_all-listed cuts count Y few = each-met Y (take count cuts) ∙ ap not (any-listed (missed Y) cuts count few)

pub unmet-listed : (cuts : List ℕ) (count Y : ℕ) → count ≤ length cuts
    → unwrap_or (find (missed Y) (take count cuts)) 0 ≡ unmet cuts count Y
unfolding unmet pick
unmet-listed cuts zero Y few = refl
unmet-listed cuts (suc n) Y few =
    rw (
      take-suc cuts n 0 few,
      find-append (missed Y) (take n cuts),
      ← unmet-listed cuts n Y (omega arith),
      ← meets_all-listed cuts n Y (omega arith),
      ← none-missed Y (take n cuts),
    )
    (go (get_or cuts n 0) (find (missed Y) (take n cuts)) (meets Y (get_or cuts n 0)))
  where
    go : (x : ℕ) (o : Option ℕ) (b : Bool)
        → unwrap_or (option_or o (cond (not b) (Some x) None)) 0 ≡ pick (is_none o) (pick b 0 x) (unwrap_or o 0)
    go x (Some y) b = refl
    go x None true = refl
    go x None false = refl

-- the set has the members that are in one of the cuts the only chosen one
abbrev pub HasSole : ℕ → List ℕ → ℕ → Type 0
HasSole chosen cuts found = (c : ℕ) → in_set found c ≡ list_any (λ x. only (bit_and x chosen) c) cuts

pub sole-none : (chosen : ℕ) → HasSole chosen [] 0
sole-none chosen c = in_set-zero c

pub sole_more : (chosen : ℕ) (cuts : List ℕ) (found x one : ℕ) → HasSole chosen cuts found
    → ((c : ℕ) → in_set one c ≡ only (bit_and x chosen) c) → HasSole chosen (cuts ++ (x ∷ [])) (bit_or found one)
sole_more chosen cuts found x one before here c =
    in_set-or found one c ∙ rw (before c, here c) (sym (one-more (λ y. only (bit_and y chosen) c) cuts x))

pub sole-listed : (cuts : List ℕ) (count chosen found : ℕ) → count ≤ length cuts → HasSole chosen (take count cuts) found
    → (c : ℕ) → in_set found c ≡ is_sole cuts count chosen c
unfolding is_sole
sole-listed cuts count chosen found few has c = has c ∙ any-listed (λ x. only (bit_and x chosen) c) cuts count few
