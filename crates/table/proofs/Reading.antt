-- What the arms of a match on a kind or a label that was read tell of the number: it is that of the arm, or of none.
use mathlib.Core.Path.{◌≡◌, ◌∙◌, sym}
use mathlib.Core.Bool.{Bool, true, false}
use Prim.Native.Nat.{ℕ}
use lib.Dec.{eqb}
use borrow.Author.Tests.{eqb-true, eqb-false}
use Rattle.table.specs.Kinds.{kind_number, label_number}
use Rattle.table.specs.declared.Kind.{Kind}
use Rattle.table.specs.declared.Label.{Label}

-- in `Ok(Kind::K)` of a match on `Kind::try_from(x)`, where `arm` is `c.in-Ok-K`: kind-read arm.ensures arm.field-0-is
pub kind-read : {x : ℕ} {read arm : Kind} → x ≡ kind_number read → read ≡ arm → x ≡ kind_number arm
kind-read h e = rw e at h

pub label-read : {x : ℕ} {read arm : Label} → x ≡ label_number read → read ≡ arm → x ≡ label_number arm
label-read h e = rw e at h

-- behind `if c.is(kind)`, and where that is false
pub is-number : {flag : Bool} {x n : ℕ} → flag ≡ eqb x n → flag ≡ true → x ≡ n
is-number e h = eqb-true _ _ (sym e ∙ h)

pub not-number : {flag : Bool} {x n : ℕ} → flag ≡ eqb x n → flag ≡ false → x ≡ n → ⊥
not-number e h = eqb-false _ _ (sym e ∙ h)
