-- What the search answers and remembers. It asks which sets of automata can be met below a branch. The answer has a family of sets
-- that can, and the pairs of the branch that stood in the way of all others: the blocking pairs. What the family does not cover
-- fails below every branch that has the blocking pairs. So a failure need not be found twice.
use Rattle.std.specs.Prelude.{ℕ, suc, ◌<◌, ◌≤◌, ◌≡◌, List, [], Bool, true, false, get_or, length}
use Rattle.sets.specs.Logic.{any_below}
use Rattle.sets.specs.Sets.{part}
use Rattle.families.specs.Families.{Inside, all_sets, covers, in_family, is_part}
use Rattle.families.specs.declared.Family.{Family}
use Rattle.table.specs.Limits.{most_automata, most_credentials}
use Rattle.table.specs.Layout.{credentials}
use Rattle.automata.specs.declared.StateSets.{StateSets}
use Rattle.members.specs.Above.{pair_above}
use Rattle.members.specs.declared.above.Above.{Above}
use Rattle.members.specs.Trying.{proves_by}
use Rattle.failures.specs.Failures.{SlotHolds, SlotIn}
use Rattle.search.specs.Asking.{pair}
use Rattle.search.specs.declared.asking.Pair.{Pair}
use Rattle.search.specs.Search.{ends, goal_at, proves, proves_at, proves_with, shares}

-- a cell for every place of a role
abbrev pub Wide : Above → Type 0
Wide above = length above.persons ≡ most_credentials

-- every blocking pair is on the branch
abbrev pub Covers : Above → Above → Type 0
Covers blocking above = (p r : ℕ) → r < most_credentials → pair_above blocking p r ≡ true → pair_above above p r ≡ true

-- the test fails below every branch that has the blocking pairs
abbrev pub Fails : (Above → Bool) → Above → Type 0
Fails test blocking = (above : Above) → Wide above → Covers blocking above → test above ≡ false

-- and this branch has them
pub record Failed (test : Above → Bool) (above blocking : Above) : Type 0 where
  pub covered : Covers blocking above
  pub fails : Fails test blocking

-- what the family does not cover of the parts of O fails below every branch that has the blocking pairs
abbrev pub Bounds : ℕ → (ℕ → Above → Bool) → Family → Above → Type 0
Bounds O test found blocking = (X : ℕ) → part X O ≡ true → covers found X ≡ false → Fails (test X) blocking

-- each set of the family is a part of O, and can be met below this branch
pub record Finds (O : ℕ) (test : ℕ → Above → Bool) (above : Above) (found : Family) : Type 0 where
  pub inside : Inside found O
  pub passes : (X : ℕ) → X < all_sets → in_family found X ≡ true → test X above ≡ true

-- the answer to a test below a branch: what can be met, and the pairs that block all else
pub record Judged (O : ℕ) (test : ℕ → Above → Bool) (above : Above) (found : Family) (blocking : Above) : Type 0 where
  pub finds : Finds O test above found
  pub covered : Covers blocking above
  pub bounds : Bounds O test found blocking

-- the same where nobody asks for more than the family `wanted`: what is found may have all of that
pub record Sought (O : ℕ) (test : ℕ → Above → Bool) (above : Above) (wanted found : Family) (blocking : Above) : Type 0 where
  pub finds : Finds O test above found
  pub covered : Covers blocking above
  pub bounds : is_part wanted found ≡ false → Bounds O test found blocking

-- the memory has room for a slot, and each of its slots has a goal, its blocking pairs, and a family: an upper bound of what the goal
-- can meet while its blocking pairs are on the branch
pub record Remembered (t : List ℕ) (S A O : ℕ) (memory : List ℕ) : Type 0 where
  pub few : O < all_sets
  pub room : SlotIn memory 0
  pub each : (k person place levels : ℕ) (s : StateSets) (blocking : Above) (found : Family) → SlotIn memory k
      → length s.sets ≡ most_automata → SlotHolds memory k person place levels s blocking found
      → Bounds O (λ X above. proves_at t S A O levels above s person place X) found blocking

-- what a search reports of a branch: sets that can be met below it, and each set that can is included in one of them
pub record FoundBelow (O : ℕ) (test : ℕ → Above → Bool) (above : Above) (found : Family) : Type 0 where
  pub finds : Finds O test above found
  pub all : (X : ℕ) → part X O ≡ true → test X above ≡ true → covers found X ≡ true

-- What is asked below a branch, with so many levels left, where the automata have come to the state sets s, and a set X is to be
-- met: the principal at `person` in the role at `place`
abbrev pub goal_test : List ℕ → ℕ → ℕ → ℕ → ℕ → StateSets → ℕ → ℕ → ℕ → Above → Bool
goal_test t S A O levels s person place = λ X above. proves_at t S A O levels above s person place X

-- the same of a goal that is asked
abbrev pub pair_test : List ℕ → ℕ → ℕ → ℕ → ℕ → StateSets → Pair → ℕ → Above → Bool
pair_test t S A O levels s p = goal_test t S A O levels s p.person p.place

-- what a memory says of a goal below a branch, whatever table and credentials it is of: the blocking pairs are on the branch, and while
-- they are, the goal can meet no more than the family `wanted`
abbrev pub Recalls : ℕ → List ℕ → ℕ → ℕ → ℕ → StateSets → Above → Family → Above → Type 0
Recalls O memory person place levels s above wanted blocking =
    (t : List ℕ) (S A : ℕ) → Remembered t S A O memory
    → Covers blocking above × Bounds O (goal_test t S A O levels s person place) wanted blocking

-- credential i + 1 proves it to be in its role
abbrev pub own_test : List ℕ → ℕ → ℕ → ℕ → ℕ → StateSets → ℕ → ℕ → ℕ → Above → Bool
own_test t S A O levels s person i = λ X above.
    proves_by t (λ goals. shares (proves t S A O levels above s) O goals X) (ends t A s X) (goal_at t person i) (suc i)

-- some credential of the set proves it to be in the role at `place`
abbrev pub any_test : List ℕ → ℕ → ℕ → ℕ → ℕ → StateSets → ℕ → ℕ → ℕ → Above → Bool
any_test t S A O levels s person place = λ X above.
    any_below (proves_with t S (λ goals. shares (proves t S A O levels above s) O goals X) (ends t A s X) (goal_at t person place))
    (credentials t)

-- goals by their places, which share out what is owed
abbrev pub shared_test : List ℕ → ℕ → ℕ → ℕ → ℕ → StateSets → List Pair → ℕ → Above → Bool
shared_test t S A O levels s pairs = λ X above.
    shares (λ (p : Pair) Y. proves_at t S A O levels above s p.person p.place Y) O pairs X

abbrev pub no_family : Family
no_family = record { words = [] }

-- what each of the goals that are asked can meet, from goal k on
abbrev pub LaterJudged : List ℕ → ℕ → ℕ → ℕ → ℕ → StateSets → List Pair → ℕ → Above → List Family → Above → Type 0
LaterJudged t S A O levels s asked k above each blocking =
    (j : ℕ) → k ≤ j → j < length asked
    → Judged O (pair_test t S A O levels s (get_or asked j (pair 0 0))) above (get_or each j no_family) blocking
