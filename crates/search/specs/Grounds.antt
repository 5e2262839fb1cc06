-- What the contracts of the search say of a ground, which the search reads and does not change, and of the spot where it stands on a
-- branch: the words of specs/Search.antt and specs/Failing.antt at their fields.
use Rattle.std.specs.Prelude.{ℕ, List, Bool}
use Rattle.families.specs.declared.Family.{Family}
use Rattle.goals.specs.declared.Ground.{Ground}
use Rattle.goals.specs.declared.Spot.{Spot}
use Rattle.members.specs.declared.above.Above.{Above}
use Rattle.search.specs.declared.asking.Pair.{Pair}
use Rattle.search.specs.Search.{Searchable}
use Rattle.search.specs.Failing.{Judged, LaterJudged, Remembered, goal_test, own_test, shared_test}
use Rattle.search.specs.declared.seeking.Answer.{Answer}

-- a search with so many levels left
abbrev pub SearchableOn : Ground → ℕ → Type 0
SearchableOn g levels = Searchable g.table.now g.index.now g.arcs.now g.rows.now g.terms.allowed levels g.terms.last

-- what is remembered of goals is so
abbrev pub RememberedOn : Ground → List ℕ → Type 0
RememberedOn g memory = Remembered g.table.now g.terms.allowed g.terms.constraints g.terms.owed memory

-- what is asked at the spot: the principal at `person` in the role at `place`
abbrev pub goal_on : Ground → Spot → ℕ → ℕ → ℕ → Above → Bool
goal_on g spot person place =
    goal_test g.table.now g.terms.allowed g.terms.constraints g.terms.owed spot.levels spot.states person place

-- a goal that is asked
abbrev pub pair_on : Ground → Spot → Pair → ℕ → Above → Bool
pair_on g spot p = goal_on g spot p.person p.place

-- credential i + 1 proves it to be in its role
abbrev pub own_on : Ground → Spot → ℕ → ℕ → ℕ → Above → Bool
own_on g spot person i =
    own_test g.table.now g.terms.allowed g.terms.constraints g.terms.owed spot.levels spot.states person i

-- goals that share out what is owed
abbrev pub shared_on : Ground → Spot → List Pair → ℕ → Above → Bool
shared_on g spot pairs =
    shared_test g.table.now g.terms.allowed g.terms.constraints g.terms.owed spot.levels spot.states pairs

-- the answer to such a test below the spot
abbrev pub JudgedOn : Ground → Spot → (ℕ → Above → Bool) → Answer → Type 0
JudgedOn g spot test answer = Judged g.terms.owed test spot.above answer.found answer.blocking

-- what each of the goals that are asked can meet below the spot, from goal k on
abbrev pub LaterJudgedOn : Ground → Spot → List Pair → ℕ → List Family → Above → Type 0
LaterJudgedOn g spot asked k each blocking =
    LaterJudged g.table.now g.terms.allowed g.terms.constraints g.terms.owed spot.levels spot.states asked k spot.above each blocking
