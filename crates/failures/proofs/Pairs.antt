-- What a test told of two lists side by side.
use mathlib.Core.Path.{◌≡◌, subst}
use mathlib.Core.List.{List}
use mathlib.Core.Bool.{Bool, true, false}
use Prim.Native.Nat.{ℕ, ◌<◌}
use native.Mathlib.Omega.{arith}
use lib.ListN.{get_or, length}
use Rattle.std.specs.Bool.{MatchBool}
use Rattle.std.specs.List.{AllWithin, zip}
use Rattle.std.proofs.lemmas.Slice.Zip.{get_or-zip, length-zip}
use Rattle.sets.proofs.Tests.{false-true}

-- of each pair
pub side-by-side : (Q : ℕ → ℕ → Type 0) (told : Bool) (N : Type 0) (xs ys : List ℕ)
    → MatchBool told (AllWithin (λ p. Q p.0 p.1) (zip xs ys) 0 (length (zip xs ys))) N → told ≡ true → (k : ℕ) → k < length xs
    → k < length ys → Q (get_or xs k 0) (get_or ys k 0)
side-by-side Q true N xs ys all e k l m =
    let pair = all k (0, 0) (omega arith) (omega (arith, length-zip xs ys)) in
    subst (λ p. Q p.0 p.1) (get_or-zip xs ys k (0, 0) l m) pair
side-by-side Q false N xs ys all e k l m = absurd (false-true e)
