-- What a buffer holds: for tests that agree, for a test that nothing passes, how many, and cell by cell.
use mathlib.Core.Path.{◌≡◌, sym, ap, ◌∙◌}
use mathlib.Core.List.{List}
use mathlib.Core.Bool.{Bool, false}
use Prim.Native.Nat.{ℕ, ◌<◌, ◌≤◌}
use native.Mathlib.Omega.{arith}
use lib.ListN.{get_or, length}
use Rattle.sorted.specs.Sorted.{HoldsLeast, laid, those}
use Rattle.sorted.proofs.Lists.{laid_cell, laid-length, laid_none, those-few, those-none, those-same}

pub holds_same : (p r : ℕ → Bool) (n : ℕ) → ((x : ℕ) → x < n → p x ≡ r x) → {before after : List ℕ} {found : ℕ}
    → HoldsLeast p n before after found → HoldsLeast r n before after found
holds_same p r n same {before} h =
    let e = those-same p r n same in
    record { held = h.held ∙ ap (λ (l : List ℕ). laid l before) e; count = h.count ∙ ap length e }

-- a buffer as it was holds the numbers of a test that none passes
pub holds-none : (p : ℕ → Bool) (n : ℕ) (buffer : List ℕ) → ((x : ℕ) → x < n → p x ≡ false) → HoldsLeast p n buffer buffer 0
holds-none p n buffer none =
    let e = ap length (those-none p n none) in
    record { held = sym (laid_none (those p n) buffer e); count = sym e }

pub holds-length : {p : ℕ → Bool} {n : ℕ} {before after : List ℕ} {found : ℕ} → HoldsLeast p n before after found
    → length after ≡ length before
holds-length h = ap length h.held ∙ laid-length _ _

-- no more than n are found, and the cells hold them in order
pub holds-few : {p : ℕ → Bool} {n : ℕ} {before after : List ℕ} {found : ℕ} → HoldsLeast p n before after found → found ≤ n
holds-few {p} {n} h = omega (arith, h.count, those-few p n)

pub holds_at : {p : ℕ → Bool} {n : ℕ} {before after : List ℕ} {found : ℕ} → HoldsLeast p n before after found
    → (i : ℕ) → i < found → i < length after → get_or after i 0 ≡ get_or (those p n) i 0
holds_at {p} {n} {before} h i l there =
    ap (λ (b : List ℕ). get_or b i 0) h.held
    ∙ laid_cell (those p n) before i (omega (arith, h.count)) (omega (arith, holds-length h))
