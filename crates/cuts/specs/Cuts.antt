-- Least sets of a monotone test on sets, and cuts: what a search over sets knows on its way. A test is monotone if every set that
-- includes one which passes passes too. Nothing here knows what the members are.
use Rattle.std.specs.Prelude.{ℕ, zero, suc, ◌^◌, ◌<◌, ◌≤◌, ◌≡◌, List, Bool, true, false, not, get_or, length}
use Rattle.std.specs.Int.Bits.{bit_and, bit_or}
use Rattle.sets.specs.Logic.{◌and◌, any_below, pick}
use Rattle.sets.specs.Sets.{in_set, meets, part}

-- among the sets of members below n, whoever includes one that passes passes
abbrev pub Monotone : (ℕ → Bool) → ℕ → Type 0
Monotone p n = (X Y : ℕ) → Y < 2 ^ n → part X Y ≡ true → p X ≡ true → p Y ≡ true

-- S passes, and no proper part of it does; a proper part is a lesser number
unfoldable pub is_least : (ℕ → Bool) → ℕ → Bool
is_least p S = p S and not (any_below (λ T. part T S and p T) S)

-- a cut: every set that passes meets it
abbrev pub Cut : (ℕ → Bool) → ℕ → ℕ → Type 0
Cut p n x = (Y : ℕ) → Y < 2 ^ n → p Y ≡ true → meets Y x ≡ true

-- the set meets each of the first cuts
unfoldable pub meets_all : List ℕ → ℕ → ℕ → Bool
meets_all cuts count Y = not (any_below (λ i. not (meets Y (get_or cuts i 0))) count)

-- the first of the first cuts that the set does not meet; 0 where it meets them all
unfoldable pub unmet : List ℕ → ℕ → ℕ → ℕ
unmet cuts zero Y = 0
unmet cuts (suc count) Y =
    pick (meets_all cuts count Y) (pick (meets Y (get_or cuts count 0)) 0 (get_or cuts count 0)) (unmet cuts count Y)

-- one of the first cuts has c, and nothing else that is chosen
unfoldable pub is_sole : List ℕ → ℕ → ℕ → ℕ → Bool
is_sole cuts count chosen c =
    any_below (λ i. in_set (bit_and (get_or cuts i 0) chosen) c and part (bit_and (get_or cuts i 0) chosen) (2 ^ c)) count

-- the sets that include `chosen` and have nothing outside of chosen and free
unfoldable pub between : ℕ → ℕ → ℕ → Bool
between chosen free Y = part chosen Y and part Y (bit_or chosen free)

-- what is known before a search below `chosen` and `free`, where there is room for another cut: a set of them without a chosen
-- member, X, that meets all cuts passes
abbrev pub Tight : (ℕ → Bool) → ℕ → ℕ → List ℕ → ℕ → Type 0
Tight p chosen free cuts count =
    (X c : ℕ) → in_set chosen c ≡ true → in_set X c ≡ false → between chosen free (bit_or X (2 ^ c)) ≡ true
    → meets_all cuts count X ≡ true → p X ≡ true

-- the first cells of the array are cuts
pub record Cuts (p : ℕ → Bool) (n : ℕ) (cuts : List ℕ) (count : ℕ) : Type 0 where
  pub room : count ≤ length cuts
  pub each : (i : ℕ) → i < count → Cut p n (get_or cuts i 0)

pub record Ready (p : ℕ → Bool) (n chosen free : ℕ) (cuts : List ℕ) (count : ℕ) : Type 0 where
  pub apart : (c : ℕ) → in_set chosen c ≡ true → in_set free c ≡ false
  pub fits : bit_or chosen free < 2 ^ n
  pub known : Cuts p n cuts count
  pub tight : count < length cuts → Tight p chosen free cuts count

-- more cuts than before, and those of before
pub record More (p : ℕ → Bool) (n : ℕ) (cuts : List ℕ) (count : ℕ) (cuts' : List ℕ) (count' : ℕ) : Type 0 where
  pub size : length cuts' ≡ length cuts
  pub more : count ≤ count'
  pub kept : (i : ℕ) → i < count → get_or cuts' i 0 ≡ get_or cuts i 0
  pub known : Cuts p n cuts' count'

-- what is known afterwards, where there is still room for another cut: of the sets that include `chosen` and have nothing outside
-- of chosen and free, those that meet all cuts pass
abbrev pub Searched : (ℕ → Bool) → ℕ → ℕ → List ℕ → ℕ → Type 0
Searched p chosen free cuts count =
    count < length cuts → (Y : ℕ) → between chosen free Y ≡ true → meets_all cuts count Y ≡ true → p Y ≡ true

-- and none of these sets is least
pub record Barren (p : ℕ → Bool) (chosen free : ℕ) (cuts : List ℕ) (count : ℕ) : Type 0 where
  pub none : (Y : ℕ) → between chosen free Y ≡ true → is_least p Y ≡ false
  pub searched : Searched p chosen free cuts count

-- what the cuts alone tell of a region, for any monotone test: none of it is least, or each that is chosen is in some cut the
-- only one chosen, where that is known
pub record RegionJudged (cuts : List ℕ) (count chosen free : ℕ) (barren : Bool) : Type 0 where
  pub none : barren ≡ true → (p : ℕ → Bool) (n : ℕ) → Monotone p n → Ready p n chosen free cuts count
      → Barren p chosen free cuts count
  pub sole : barren ≡ false → count < length cuts → (c : ℕ) → in_set chosen c ≡ true → is_sole cuts count chosen c ≡ true
