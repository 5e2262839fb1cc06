-- docs/DEFINITION.md, "The list": which memberships the credentials of a set can prove when every word must be accepted by each
-- of some automata, and some word by each of some others. `Provable` says it by derivations; `provable` decides it level by level,
-- a goal through a credential and a credential through the goals of its premises (proofs/Searching.antt). Automata that must
-- accept some word are owed, which is our word: a credential's goals share them out.
use Rattle.std.specs.Prelude.{ℕ, zero, suc, ◌-◌, ◌<◌, ◌≤◌, ◌≡◌, List, [], ◌∷◌, Bool, true, false, not, get_or, length, eqb, ltb}
use Rattle.std.specs.Int.Bits.{bit_or}
use Rattle.sets.specs.Logic.{◌and◌, any_below}
use Rattle.families.specs.Families.{covers}
use Rattle.families.specs.declared.Family.{Family}
use Rattle.table.specs.Limits.{most_depth}
use Rattle.table.specs.Layout.{credential, credentials, principal}
use Rattle.table.specs.Holding.{WellFormed}
use Rattle.table.specs.Checks.{Valid}
use Rattle.table.specs.declared.Role.{Role}
use Rattle.table.specs.declared.Goal.{Goal}
use Rattle.table.specs.declared.Query.{Query}
use Rattle.sets.specs.Sets.{in_set, part}
use Rattle.moves.specs.Arcs.{Arcs}
use Rattle.automata.specs.Together.{accepting_set, starting_sets}
use Rattle.automata.specs.declared.StateSets.{StateSets}
use Rattle.derivation.specs.Rules.{goal, goal_of}
use Rattle.derivation.specs.Forest.{Derives, Forest, names}
use Rattle.derivation.specs.Words.{accepts_all, accepts_some, words}
use Rattle.members.specs.Places.{is_person, role_at}
use Rattle.members.specs.Above.{is_above, nothing_above, with_goal}
use Rattle.members.specs.declared.above.Above.{Above}
use Rattle.members.specs.Trying.{may_use, proves_by}
use Rattle.members.specs.Members.{Aimed, Indexed, Members}
use Rattle.goals.specs.Goals.{stepped}
use Rattle.search.specs.Asking.{pair}
use Rattle.search.specs.declared.asking.Pair.{Pair}

-- a search is asked of an accepted table and a valid query, with their index and an index of arcs
pub record Prepared (t : List ℕ) (q : Query) (index arcs : List ℕ) : Type 0 where
  pub well_formed : WellFormed t
  pub valid : Valid q
  pub indexed : Indexed t index
  pub aimed : Aimed t q index
  pub moving : Arcs t arcs

-- every credential that the forest names is in the set: credential i counts 2^(i-1)
abbrev pub UsesOnly : Forest → ℕ → Type 0
UsesOnly f S = (c : ℕ) → names f c ≡ true → in_set S (c - 1) ≡ true

-- every automaton of the set accepts each of the words: automaton k counts 2^(k-1)
abbrev pub AllAccept : List ℕ → ℕ → List (List Role) → Type 0
AllAccept t A ws = (k : ℕ) → in_set A k ≡ true → accepts_all t (suc k) ws ≡ true

-- every automaton of the set accepts some of the words
abbrev pub SomeAccept : List ℕ → ℕ → List (List Role) → Type 0
SomeAccept t X ws = (k : ℕ) → in_set X k ≡ true → accepts_some t (suc k) ws ≡ true

-- some derivation of the queried membership uses only credentials of the set S, each of its words is accepted by each automaton
-- of the set A, and some of its words by each automaton of the set O
pub record Provable (t : List ℕ) (q : Query) (S A O : ℕ) : Type 0 where
  pub forest : Forest
  pub derives : Derives t q.depth [] (goal_of q ∷ []) forest
  pub uses_only : UsesOnly forest S
  pub accepted : AllAccept t A (words t [] forest)
  pub owed : SomeAccept t O (words t [] forest)

-- what is owed is shared out: each of X is met by one of the goals, where `one` says which of them can be proved such that some
-- of its words meets each of a set. No more than O is owed
unfoldable pub shares : {G : Type 0} → (G → ℕ → Bool) → ℕ → List G → ℕ → Bool
shares one O [] X = eqb X 0
shares one O (g ∷ goals) X =
    any_below (λ Y. one g Y and any_below (λ Z. shares one O goals Z and part X (bit_or Y Z)) (suc O)) (suc O)

-- credential c + 1 is in the set, defines the goal's role, and proves the goal, where `all` says which goals are proved below
-- it, and `word` whether a word may end there
abbrev pub proves_with : List ℕ → ℕ → (List Goal → Bool) → Bool → Goal → ℕ → Bool
proves_with t S all word g = λ c. may_use t S g (suc c) and proves_by t all word g (suc c)

-- a word may end where the automata have come to the state sets s: those of A accept it, and those of X, which it has to meet
unfoldable pub ends : List ℕ → ℕ → StateSets → ℕ → Bool
ends t A s X = part (bit_or A X) (accepting_set t s)

-- with so many levels left, below a branch on which the pairs `above` stand, and on whose words the automata have come to the
-- state sets s: the goal can be proved, each word accepted by each of A, and each of X accepting some word
unfoldable pub proves : List ℕ → ℕ → ℕ → ℕ → ℕ → Above → StateSets → Goal → ℕ → Bool
proves t S A O zero above s g X = false
proves t S A O (suc levels) above s g X =
    let below = stepped t (bit_or A O) g.role s in
    let one = proves t S A O levels (with_goal t above g) below in
    not (is_above t above g) and
    any_below (proves_with t S (λ goals. shares one O goals X) (ends t A below X) g) (credentials t)

unfoldable pub provable : List ℕ → Query → ℕ → ℕ → ℕ → Bool
provable t q S A O = proves t S A O q.depth nothing_above (starting_sets t) (goal_of q) O

-- what is found of the query where O is owed: a part of O is covered exactly where it can be met
abbrev pub TellsMet : List ℕ → Query → ℕ → ℕ → ℕ → Family → Type 0
TellsMet t q S A O found = (X : ℕ) → part X O ≡ true → covers found X ≡ provable t q S A X

-- the goal whose principal and role stand at these places
abbrev pub goal_at : List ℕ → ℕ → ℕ → Goal
goal_at t person place = goal (principal (credential t (suc person)).first) (credential t (suc place)).role

-- the same for a goal by its places; a role that nobody defines stands behind the last credential
unfoldable pub proves_at : List ℕ → ℕ → ℕ → ℕ → ℕ → Above → StateSets → ℕ → ℕ → ℕ → Bool
proves_at t S A O levels above s person place X =
    ltb place (credentials t) and proves t S A O levels above s (goal_at t person place) X

-- a principal stands at `person`, and at `place` a role, which may be one that nobody defines
pub record Stands (t : List ℕ) (person place : ℕ) : Type 0 where
  pub there : person < credentials t
  pub named : is_person t person ≡ true
  pub few : place ≤ credentials t
  pub first : place < credentials t → role_at t (credential t (suc place)).role ≡ place

-- a search with so many levels left, no more than a query allows: an accepted table, its index, the members within these levels
-- by the credentials of S, and an index of arcs
pub record Searchable (t index arcs rows : List ℕ) (S levels last : ℕ) : Type 0 where
  pub well_formed : WellFormed t
  pub indexed : Indexed t index
  pub members : Members t S levels last rows
  pub shallow : levels ≤ most_depth
  pub moving : Arcs t arcs

-- credential i + 1 is tried for the principal who stands at `person`
pub record Tried (t : List ℕ) (person i : ℕ) : Type 0 where
  pub there : i < credentials t
  pub who : person < credentials t
  pub named : is_person t person ≡ true

-- the principal and the role of each goal stand at their places
abbrev pub AllStand : List ℕ → List Pair → Type 0
AllStand t pairs =
    (k : ℕ) → k < length pairs → Stands t (get_or pairs k (pair 0 0)).person (get_or pairs k (pair 0 0)).place
