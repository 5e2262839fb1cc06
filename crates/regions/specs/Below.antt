-- What the search for minimal sets asks and gives, region by region: the sets that include `chosen` and have nothing outside of
-- chosen and free. crates/cuts/specs/Cuts.antt says what the cuts tell; the buffer holds what has been found (crate sorted).
use Rattle.std.specs.Prelude.{ℕ, ◌^◌, ◌≡◌, List, Bool, true, false}
use Rattle.sets.specs.Logic.{◌and◌, ◌or◌}
use Rattle.sets.specs.Sets.{part}
use Rattle.cuts.specs.Cuts.{More, Searched, between, is_least}
use Rattle.sorted.specs.Sorted.{HoldsLeast}
use Rattle.table.specs.Layout.{credentials}
use Rattle.table.specs.declared.Query.{Query}
use Rattle.admission.specs.Admits.{admits}

-- what a test let pass, and the least sets of the region
unfoldable pub and_least : (ℕ → Bool) → (ℕ → Bool) → ℕ → ℕ → ℕ → Bool
and_least found p chosen free Y = found Y or (between chosen free Y and is_least p Y)

-- the buffer holds the sets below 2^n of some test, none of which is of the region, as found before it
pub record Held (n chosen free : ℕ) (sets : List ℕ) (found : ℕ) : Type 0 where
  pub test : ℕ → Bool
  pub before : List ℕ
  pub holds : HoldsLeast test (2 ^ n) before sets found
  pub apart : (Y : ℕ) → between chosen free Y ≡ true → test Y ≡ false

-- what the search leaves: more cuts, by which the region is searched, and its least sets beside those that the buffer held
pub record Ended (t : List ℕ) (q : Query) (chosen free : ℕ) (cuts : List ℕ) (count : ℕ) (cuts' : List ℕ) (count' : ℕ)
    (sets : List ℕ) (found : ℕ) (sets' : List ℕ) (found' : ℕ) : Type 0 where
  pub more : More (admits t q) (credentials t) cuts count cuts' count'
  pub searched : Searched (admits t q) chosen free cuts' count'
  pub adds : (h : Held (credentials t) chosen free sets found)
      → HoldsLeast (and_least h.test (admits t q) chosen free) (2 ^ credentials t) h.before sets' found'

-- what is left to branch on is free; where nothing is left the search is over, and otherwise nothing is found yet
pub record Decided (t : List ℕ) (q : Query) (chosen free : ℕ) (cuts : List ℕ) (count : ℕ) (cuts' : List ℕ) (count' : ℕ)
    (sets : List ℕ) (found : ℕ) (sets' : List ℕ) (found' : ℕ) (left : ℕ) : Type 0 where
  pub among : part left free ≡ true
  pub over : left ≡ 0 → Ended t q chosen free cuts count cuts' count' sets found sets' found'
  pub more : More (admits t q) (credentials t) cuts count cuts' count'
  pub same : (left ≡ 0 → ⊥) → (sets' ≡ sets) × (found' ≡ found)
