-- What a walk over the nodes of a record leaves in the lent cells, and what it tells: the cell behind the record, or, where it
-- stopped since the record does not fit, a cell that lies beyond the most that there are; and what the words of the record meet
-- of the automata that are owed.
use Rattle.std.specs.Prelude.{ℕ, ◌+◌, ◌<◌, ◌≤◌, ◌≡◌, List, [], ◌∷◌, Bool, get_or, length}
use Rattle.families.specs.Families.{in_family}
use Rattle.families.specs.declared.Family.{Family}
use Rattle.table.specs.declared.Goal.{Goal}
use Rattle.automata.specs.declared.StateSets.{StateSets}
use Rattle.derivation.specs.Forest.{Forest, written}
use Rattle.members.specs.declared.above.Above.{Above}
use Rattle.goals.specs.declared.Ground.{Ground}
use Rattle.goals.specs.declared.Spot.{Spot}
use Rattle.goals.specs.declared.Terms.{Terms}
use Rattle.search.specs.declared.asking.Pair.{Pair}
use Rattle.search.specs.Search.{goal_at, proves, shares}
use Rattle.choice.specs.Choice.{Children}
use Rattle.walking.specs.First.{first_forest, met_from}
use Rattle.walking.specs.declared.Reached.{Reached}

-- the cells from `at` on hold the numbers, and all others are as they were
pub record Over (at : ℕ) (numbers before after : List ℕ) : Type 0 where
  pub held : (i : ℕ) → i < length numbers → get_or after (at + i) 0 ≡ get_or numbers i 0
  pub earlier : (i : ℕ) → i < at → get_or after i 0 ≡ get_or before i 0
  pub beyond : (i : ℕ) → at + length numbers ≤ i → get_or after i 0 ≡ get_or before i 0

pub record Walked (at most : ℕ) (numbers before after : List ℕ) (next : ℕ) : Type 0 where
  pub size : length after ≡ length before
  pub whole : next ≤ most → next ≡ at + length numbers
  pub stopped : most < next → most < at + length numbers
  pub over : next ≤ most → next ≤ length before → Over at numbers before after

-- the goals whose principals and roles stand at these places
unfoldable pub goals_at : List ℕ → List Pair → List Goal
goals_at t [] = []
goals_at t (p ∷ pairs) = goal_at t p.person p.place ∷ goals_at t pairs

-- what goals can meet together, below a branch
abbrev pub later_test : List ℕ → ℕ → ℕ → ℕ → ℕ → StateSets → List Goal → ℕ → Above → Bool
later_test t S A O levels s goals = λ X above. shares (proves t S A O levels above s) O goals X

-- on the terms of a search: the first forest of the goals such that they meet a set of the family
abbrev pub first_on : List ℕ → Terms → Family → ℕ → Above → StateSets → List Goal → Forest
first_on t terms wanted levels above s =
    first_forest t terms.allowed terms.constraints terms.owed levels above s (in_family wanted)

-- the forest's record is walked, and its words, which are read from the state sets s on, meet what is told, unless the walk
-- stopped
pub record Walks (t : List ℕ) (terms : Terms) (s : StateSets) (f : Forest) (at most : ℕ) (before after : List ℕ) (r : Reached)
    : Type 0 where
  pub walked : Walked at most (written f) before after r.next
  pub meets : r.next ≤ most → r.met ≡ met_from t terms.constraints terms.owed s f

-- the same on a ground below a spot: such goals are walked, and each of them can be proved
abbrev pub WalksOn : Ground → Family → Spot → List Goal → ℕ → ℕ → List ℕ → List ℕ → Reached → Type 0
WalksOn g wanted spot goals at most before after r =
    Walks g.table.now g.terms spot.states (first_on g.table.now g.terms wanted spot.levels spot.above spot.states goals) at most before after r

abbrev pub ChildrenOn : Ground → Spot → List Pair → Type 0
ChildrenOn g spot pairs =
    Children g.table.now g.terms.allowed g.terms.constraints g.terms.owed spot.levels spot.above spot.states (goals_at g.table.now pairs) pairs
