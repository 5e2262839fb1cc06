-- What is done with one set of a region: when it is put into the buffer, and how one that does not pass is grown.
use Rattle.std.specs.Prelude.{ℕ, ◌^◌, ◌<◌, ◌≡◌, List, Bool, true, false, get_or, length, ltb}
use Rattle.std.specs.Int.Bits.{bit_and}
use Rattle.sets.specs.Logic.{◌and◌, any_below}
use Rattle.sets.specs.Sets.{part}
use Rattle.cuts.specs.Cuts.{is_least}
use Rattle.sorted.specs.Sorted.{Inserted}

-- whether a set passes depends on its members in `usable` alone
abbrev pub Bears : (ℕ → Bool) → ℕ → Type 0
Bears p usable = (Y : ℕ) → p (bit_and Y usable) ≡ p Y

-- a set that passes is put into the buffer where it is least
pub record InsertedIfLeast (p : ℕ → Bool) (set : ℕ) (sets : List ℕ) (found : ℕ) (sets' : List ℕ) (found' : ℕ) : Type 0 where
  pub least : is_least p set ≡ true → Inserted sets found set sets' found'
  pub other : is_least p set ≡ false → (sets' ≡ sets) × (found' ≡ found)

-- a set that does not pass, and includes `chosen`
pub record Grown (p : ℕ → Bool) (n chosen grown : ℕ) : Type 0 where
  pub from : part chosen grown ≡ true
  pub fits : grown < 2 ^ n
  pub fails : p grown ≡ false

-- one of the first `found` sets, as far as the buffer has cells for them, is a part of the set
unfoldable pub has_listed : List ℕ → ℕ → ℕ → Bool
has_listed sets found set = any_below (λ i. ltb i (length sets) and part (get_or sets i 0) set) found
