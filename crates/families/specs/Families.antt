-- A family is a set of sets of automata: set X stands in bit X % 32 of word X / 32. What the functions on families make, and what
-- a family covers: a search keeps the greatest sets that it finds, and each part of them counts as found.
use Rattle.std.specs.Prelude.{ℕ, ◌/◌, ◌%◌, ◌<◌, ◌≡◌, Bool, not, true, get_or, eqb}
use Rattle.std.specs.Int.Bits.{bit_or}
use Rattle.sets.specs.Logic.{◌and◌, any_below}
use Rattle.sets.specs.Sets.{in_set, part}
use Rattle.families.specs.declared.Family.{Family}

-- there are so many sets of eight automata, and so many words of thirty-two bits for them
abbrev pub all_sets : ℕ
all_sets = 256

abbrev pub family_words : ℕ
family_words = 8

abbrev pub word_bits : ℕ
word_bits = 5

abbrev pub word_sets : ℕ
word_sets = 32

unfoldable pub in_family : Family → ℕ → Bool
in_family f X = in_set (get_or f.words (X / 32) 0) (X % 32)

-- the family has just the sets that pass the test
abbrev pub FamilyOf : (ℕ → Bool) → Family → Type 0
FamilyOf p f = (X : ℕ) → X < all_sets → in_family f X ≡ p X

-- each set of f is one of g
abbrev pub Within : Family → Family → Type 0
Within f g = (X : ℕ) → X < all_sets → in_family f X ≡ true → in_family g X ≡ true

-- the same as a test: no set is only in f
unfoldable pub is_part : Family → Family → Bool
is_part f g = not (any_below (λ X. in_family f X and not (in_family g X)) all_sets)

-- each set of f is a part of `most`
abbrev pub Inside : Family → ℕ → Type 0
Inside f most = (X : ℕ) → X < all_sets → in_family f X ≡ true → part X most ≡ true

-- some set of f includes X
unfoldable pub covers : Family → ℕ → Bool
covers f X = any_below (λ Y. in_family f Y and part X Y) all_sets

-- X is Y together with some set of g
unfoldable pub raises : Family → ℕ → ℕ → Bool
raises g Y X = any_below (λ Z. in_family g Z and eqb (bit_or Y Z) X) all_sets

-- the same in a word: x is `low` together with some number of the word, and r has just these
unfoldable pub spreads : ℕ → ℕ → ℕ → Bool
spreads word low x = any_below (λ b. in_set word b and eqb (bit_or low b) x) word_sets

abbrev pub Spread : ℕ → ℕ → ℕ → Type 0
Spread word low r = (x : ℕ) → x < word_sets → in_set r x ≡ spreads word low x

-- X is the union of a set of f and a set of g
unfoldable pub joins : Family → Family → ℕ → Bool
joins f g X = any_below (λ Y. in_family f Y and raises g Y X) all_sets

-- X together with some set of `later` is in f
unfoldable pub completes : Family → Family → ℕ → Bool
completes f later X = any_below (λ Z. in_family later Z and in_family f (bit_or X Z)) all_sets

-- and is a part of `most`
unfoldable pub leaves : Family → Family → ℕ → ℕ → Bool
leaves f later most X = part X most and completes f later X
