-- A set with a number above the last credential is not on the list, which the code sees by a shift.
use mathlib.Core.Path.{◌≡◌}
use mathlib.Core.List.{List}
use mathlib.Core.Bool.{false}
use Prim.Native.Nat.{ℕ, ◌/◌, ◌^◌, ◌<◌}
use native.Mathlib.Omega.{arith}
use native.Mathlib.Nat.{div-eq_of_lt, div-lt_iff_lt-mul, one-mul}
use lib.Pow.{pow_pos}
use Rattle.sets.proofs.Tests.{refuted}
use Rattle.table.specs.Layout.{credentials}
use Rattle.table.specs.Holding.{WellFormed}
use Rattle.table.specs.Checks.{Valid}
use Rattle.table.specs.declared.Query.{Query}
use Rattle.listing.specs.Minimal.{is_minimal}
use Rattle.listing.proofs.Minimals.{is-minimal-set, used-fits}

pub beyond-unlisted : (t : List ℕ) → WellFormed t → (q : Query) → Valid q → (S n : ℕ) → n ≡ credentials t → (S / 2 ^ n ≡ 0 → ⊥)
    → is_minimal t q S ≡ false
beyond-unlisted t wf q valid S n all beyond =
    refuted _ (λ h.
    let minimal = is-minimal-set t wf q valid S h in
    beyond (div-eq_of_lt (rw (← all) at (used-fits t wf q valid S minimal.used))))

pub below_all : (t : List ℕ) (S n : ℕ) → n ≡ credentials t → S / 2 ^ n ≡ 0 → S < 2 ^ credentials t
below_all t S n all none =
    let less : S / 2 ^ n < 1 = omega (arith, none) in
    rw (← all) (rw (one-mul (2 ^ n)) at ((div-lt_iff_lt-mul (pow_pos n)).0 less))
