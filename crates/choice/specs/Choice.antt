-- docs/DEFINITION.md, "The first record": which credential and which middle a node of the first record has. `all` says which
-- goals can be proved together below the node, and `word` whether a word may end at it. What is below the node has to meet a set
-- of the owed automata that is wanted: `wants` says which are.
use Rattle.std.specs.Prelude.{ℕ, suc, ◌<◌, ◌≤◌, ◌≡◌, List, [], Bool, true, get_or, length, leb, ltb}
use Rattle.std.proofs.Math.Option.{Option, none, some}
use Rattle.sets.specs.Logic.{◌and◌, ◌or◌, any_below}
use Rattle.sets.specs.Sets.{in_set, part, set_of}
use Rattle.few.specs.Listed.{listed}
use Rattle.families.specs.Families.{Inside, all_sets, in_family}
use Rattle.families.specs.declared.Family.{Family}
use Rattle.table.specs.Limits.{most_principals}
use Rattle.table.specs.Layout.{credential, credentials}
use Rattle.table.specs.declared.Goal.{Goal}
use Rattle.automata.specs.declared.StateSets.{StateSets}
use Rattle.derivation.specs.Rules.{premises}
use Rattle.derivation.specs.Held.{no_goal}
use Rattle.members.specs.Places.{is_person, least}
use Rattle.members.specs.Trying.{proved_premises}
use Rattle.members.specs.Members.{asked_cell, link_cell, row_cell}
use Rattle.members.specs.declared.above.Above.{Above}
pub use Rattle.search.specs.Search.{proves_with}
use Rattle.goals.specs.declared.Ground.{Ground}
use Rattle.goals.specs.declared.Spot.{Spot}
use Rattle.goals.specs.declared.Terms.{Terms}
use Rattle.goals.specs.Goals.{usable}
use Rattle.search.specs.Asking.{pair}
use Rattle.search.specs.declared.asking.Pair.{Pair}
use Rattle.search.specs.Search.{AllStand, ends, goal_at, proves, proves_at, shares}
use Rattle.choice.specs.declared.Node.{Node}

-- the goals can be proved such that together they meet a set that is wanted, where `one` says what each can meet
unfoldable pub suits : {G : Type 0} → (G → ℕ → Bool) → ℕ → (ℕ → Bool) → List G → Bool
suits one O wants goals = any_below (λ X. wants X and shares one O goals X) (suc O)

-- a word may end where the automata have come to the state sets s: those of A accept it, and it meets a set that is wanted
unfoldable pub ends_well : List ℕ → ℕ → ℕ → (ℕ → Bool) → StateSets → Bool
ends_well t A O wants s = any_below (λ X. wants X and ends t A s X) (suc O)

-- what is wanted still is where more of O is met
abbrev pub Upward : ℕ → (ℕ → Bool) → Type 0
Upward O wants = (X Y : ℕ) → part X Y ≡ true → part Y O ≡ true → wants X ≡ true → wants Y ≡ true

-- a family says what is wanted: parts of O, and with each of them the parts of O that have more
pub record Wanted (O : ℕ) (wanted : Family) : Type 0 where
  pub few : O < all_sets
  pub inside : Inside wanted O
  pub upward : Upward O (in_family wanted)

-- on the terms of a search, with such a family: which goals can be proved below a node, and whether a word may end at it
abbrev pub suits_all : List ℕ → Terms → Family → ℕ → Above → StateSets → List Goal → Bool
suits_all t terms wanted levels above s =
    suits (proves t terms.allowed terms.constraints terms.owed levels above s) terms.owed (in_family wanted)

abbrev pub suits_word : List ℕ → Terms → Family → StateSets → Bool
suits_word t terms wanted s = ends_well t terms.constraints terms.owed (in_family wanted) s

-- the same on a ground, below a spot
abbrev pub suits_on : Ground → Family → Spot → List Goal → Bool
suits_on g wanted spot = suits_all g.table.now g.terms wanted spot.levels spot.above spot.states

abbrev pub word_on : Ground → Family → Spot → Bool
word_on g wanted spot = suits_word g.table.now g.terms wanted spot.states

-- the least credential of the set that proves the goal
unfoldable pub least_credential : List ℕ → ℕ → (List Goal → Bool) → Bool → Goal → ℕ
least_credential t S all word g = suc (least (proves_with t S all word g) (credentials t))

-- the least middle with which credential c proves the goal; 0 for every kind but 3: those apply with no other middle
unfoldable pub least_middle : List ℕ → (List Goal → Bool) → Bool → Goal → ℕ → ℕ
least_middle t all word g c = least (λ m. proved_premises all word (premises t g c m)) (suc most_principals)

-- the goals that a credential asks; none where it does not apply
unfoldable pub asked : Option (List Goal) → List Goal
asked none = []
asked (some goals) = goals

-- the goals by the places of principal and role, each of which can be proved
pub record Children (t : List ℕ) (S A O levels : ℕ) (above : Above) (s : StateSets) (goals : List Goal)
    (pairs : List Pair) : Type 0 where
  pub count : length pairs ≡ length goals
  pub stands : AllStand t pairs
  pub proved : (k : ℕ) → k < length pairs
      → proves_at t S A O levels above s (get_or pairs k (pair 0 0)).person (get_or pairs k (pair 0 0)).place 0 ≡ true
  pub goals-are : (k : ℕ) → k < length pairs
      → goal_at t (get_or pairs k (pair 0 0)).person (get_or pairs k (pair 0 0)).place ≡ get_or goals k no_goal

-- the node's numbers are the least, and its children are what they ask; so many levels are left below the node. Where it asks
-- nothing a word ends well, and otherwise the goals that it asks suit what is wanted
pub record Chosen (t : List ℕ) (S A O levels : ℕ) (above : Above) (s : StateSets) (wants : ℕ → Bool) (g : Goal)
    (node : Node) : Type 0 where
  pub credential-is : node.credential
      ≡ least_credential t S (suits (proves t S A O levels above s) O wants) (ends_well t A O wants s) g
  pub middle-is : node.middle
      ≡ least_middle t (suits (proves t S A O levels above s) O wants) (ends_well t A O wants s) g node.credential
  pub children : Children t S A O levels above s (asked (premises t g node.credential node.middle)) (listed node.asked)
  pub suited : (length (listed node.asked) ≡ 0 → ⊥)
      → suits (proves t S A O levels above s) O wants (asked (premises t g node.credential node.middle)) ≡ true

-- the node has these two numbers, and asks these goals, by places
pub record Made (credential middle : ℕ) (pairs : List Pair) (node : Node) : Type 0 where
  pub credential-is : node.credential ≡ credential
  pub middle-is : node.middle ≡ middle
  pub asks : listed node.asked ≡ pairs

-- r is the last of the first n credentials that the index lets be used for the role at `place`
pub record LastUsable (index : List ℕ) (S place n r : ℕ) : Type 0 where
  pub few : r < n
  pub none : (i : ℕ) → r < i → i < n → usable index S place i ≡ true → ⊥

-- the principal at j is a middle with which credential c, of kind 3, proves the goal
abbrev pub leads : List ℕ → (List Goal → Bool) → Bool → Goal → ℕ → ℕ → Bool
leads t all word g c = λ j. is_person t j and proved_premises all word (premises t g c (credential t (suc j)).first)

-- the principals whom the row has as middles of credential i + 1, among those that stand below n
unfoldable pub listed_middles : List ℕ → List ℕ → List ℕ → ℕ → ℕ → ℕ → ℕ → ℕ
listed_middles t index rows row person i n =
    set_of (λ j. in_set (get_or rows (row_cell row (get_or index (asked_cell i 0) 0)) 0) j
    and in_set (get_or rows (row_cell row (get_or index (link_cell i j) 0)) 0) person and is_person t j) n

-- the first number of credential j + 1 is less than that of best + 1, or there is no such credential
unfoldable pub comes_before : List ℕ → ℕ → ℕ → Bool
comes_before t j best = leb (credentials t) best or ltb (credential t (suc j)).first (credential t (suc best)).first

-- of the principals that stand at places of the set, the one at r has the least number
pub record LeastNamed (t : List ℕ) (places r : ℕ) : Type 0 where
  pub there : r < credentials t
  pub member : in_set places r ≡ true
  pub least : (k : ℕ) → in_set places k ≡ true → (credential t (suc r)).first ≤ (credential t (suc k)).first

-- of the middles that pass, the one at r has the least number
pub record LeastMiddle (t : List ℕ) (passes : ℕ → Bool) (r : ℕ) : Type 0 where
  pub there : r < credentials t
  pub leads-on : passes r ≡ true
  pub least : (k : ℕ) → k < credentials t → passes k ≡ true → (credential t (suc r)).first ≤ (credential t (suc k)).first
