-- Which credentials a derivation may use, as far as a proof may know: those that cite these laws do not look into `usable`.
use mathlib.Core.Path.{◌≡◌}
use mathlib.Core.List.{List}
use mathlib.Core.Bool.{true, false}
use Prim.Native.Nat.{ℕ}
use native.Mathlib.Omega.{arith}
use lib.Dec.{leb}
use borrow.Author.Tests.{le-leb}
use Rattle.sets.specs.Logic.{◌and◌}
use Rattle.sets.proofs.Tests.{and-on}
use Rattle.table.specs.Layout.{Numbered, credentials}
use Rattle.table.specs.Checks.{within}
use Rattle.table.proofs.Fields.{range-within, within-range}
use Rattle.derivation.specs.Rules.{usable, usable_by}

module _ (t : List ℕ) (c : ℕ) where
  -- none that the table does not have
  pub usable-numbered : usable t c ≡ true → Numbered (credentials t) c
  unfolding usable usable_by
  usable-numbered h = within-range (credentials t) c h

  -- and all that it has
  pub numbered-usable : Numbered (credentials t) c → usable t c ≡ true
  unfolding usable usable_by
  numbered-usable h = range-within (credentials t) c h

  -- what is left to test of a number that is not 0
  pub usable-under : (c ≡ 0 → ⊥) → leb c (credentials t) ≡ usable t c
  unfolding usable usable_by within
  usable-under some = and-on (le-leb 1 c (omega (arith, some)))

  pub zero-unusable : c ≡ 0 → false ≡ usable t c
  unfolding usable usable_by within ◌and◌
  zero-unusable h = rw h
