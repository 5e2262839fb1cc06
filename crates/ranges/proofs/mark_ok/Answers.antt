-- `ranges::mark_ok` meets its contract: a mark is read just where the number is 0 or 1.
use mathlib.Core.Path.{◌≡◌, ◌∙◌, refl, sym}
use Rattle.std.specs.Prelude.{ℕ, zero, suc, Result, Ok, Err, leb}
use Rattle.std.specs.Result.{is_ok}
use borrow.Author.Tests.{lt-leb}
use native.Mathlib.Omega.{arith}
use Rattle.table.specs.declared.Mark.{Mark}
use Rattle.table.specs.declared.Mark.TheVariants.{EveryWord, SomeWord}
use Rattle.table.specs.declared.OutOfRange.{OutOfRange}
use Rattle.table.specs.Kinds.{Reads, mark_number}
use Rattle.table.specs.Checks.{mark_ok}
use Rattle.ranges.proofs.mark_ok.Goals as goal

read-mark : (x : ℕ) (read : Result Mark OutOfRange) → Reads mark_number x read → is_ok read ≡ leb x 1
read-mark x (Ok EveryWord) h = rw h
read-mark x (Ok SomeWord) h = rw h
read-mark zero (Err e) none = absurd (none EveryWord refl)
read-mark (suc zero) (Err e) none = absurd (none SomeWord refl)
read-mark (suc (suc x)) (Err e) none = sym (lt-leb (suc (suc x)) 1 (omega arith))

pub returns : goal.returns
unfolding mark_ok
returns c = c.is_ok.ensures.value ∙ read-mark _ _ c.try_from.ensures
