-- Tickets 3 and 5 in their words: a branch may not repeat a pair of principal and role; one good word is enough where the mark
-- says so.
use Rattle.std.specs.Prelude.{ℕ, ◌<◌, ◌≡◌, List, [], ◌∷◌, true, ◌↔◌, get_or, length}
use Rattle.std.proofs.Math.Option.{some}
use Rattle.table.specs.Layout.{Numbered, automata, automaton, credential}
use Rattle.table.specs.Checks.{AcceptedTable}
use Rattle.table.specs.declared.Goal.{Goal}
use Rattle.table.specs.declared.Query.{Query}
use Rattle.automata.specs.Automata.{accepts}
use Rattle.derivation.specs.Rules.{fresh, goal_of, premises}
use Rattle.derivation.specs.Forest.{Derives, Forest, names, written}
use Rattle.derivation.specs.Forest.Forest.{node}
use Rattle.derivation.specs.Words.{Complies, met, words}
use Rattle.derivation.specs.Held.{no_goal}

-- a goal, which is such a pair, may come on a branch exactly if it is none of those that stand there
abbrev pub NoPairTwice : Type 0
NoPairTwice =
    (branch : List Goal) (g : Goal)
    → ((fresh branch g ≡ true) ↔ ((i : ℕ) → i < length branch → get_or branch i no_goal ≡ g → ⊥))

-- a branch of a forest for these goals, which are below the branch `above`: the goals from a node up to the first
pub data BranchOf (t : List ℕ) (branch : List Goal) : List Goal → List Goal → Forest → Type 0 where
  -- the goal of a node comes on top of those above it
  here : {c m : ℕ} {above rest : List Goal} {g : Goal} {children siblings : Forest}
      → branch ≡ g ∷ above → BranchOf t branch above (g ∷ rest) (node c m children siblings)
  -- a branch of its children
  below : {c m : ℕ} {above goals rest : List Goal} {g : Goal} {children siblings : Forest}
      → premises t g c m ≡ some goals → BranchOf t branch (g ∷ above) goals children
      → BranchOf t branch above (g ∷ rest) (node c m children siblings)
  -- a branch of its siblings
  beside : {c m : ℕ} {above rest : List Goal} {g : Goal} {children siblings : Forest}
      → BranchOf t branch above rest siblings → BranchOf t branch above (g ∷ rest) (node c m children siblings)

-- no pair comes twice among these
abbrev pub NoneTwice : List Goal → Type 0
NoneTwice branch = (i j : ℕ) → i < j → j < length branch → get_or branch i no_goal ≡ get_or branch j no_goal → ⊥

-- on every branch of every derivation no pair comes twice
abbrev pub DerivesNoneTwice : Type 0
DerivesNoneTwice =
    (t : List ℕ) (levels : ℕ) (goals branch : List Goal) (f : Forest)
    → Derives t levels [] goals f → BranchOf t branch [] goals f → NoneTwice branch

-- the record is that of a derivation of the queried membership, on whose branches no pair comes twice
pub record RecordNoneTwice (t : List ℕ) (q : Query) (rec : List ℕ) : Type 0 where
  pub forest : Forest
  pub derives : Derives t q.depth [] (goal_of q ∷ []) forest
  pub whole : written forest ≡ rec
  pub apart : (branch : List Goal) → BranchOf t branch [] (goal_of q ∷ []) forest → NoneTwice branch

-- a used automaton is one attached to a used credential
abbrev pub UsedAutomaton : List ℕ → Forest → ℕ → Type 0
UsedAutomaton t f k = (c : ℕ) × (names f c ≡ true) × ((credential t c).automaton ≡ k)

-- a used automaton with mark 1 is met exactly when some word of the record is accepted
abbrev pub MetBySome : Type 0
MetBySome =
    (t : List ℕ) (f : Forest) (k : ℕ) → UsedAutomaton t f k → (automaton t k).mark ≡ 1
    → ((met t f k ≡ true) ↔ ((i : ℕ) × (i < length (words t [] f)) × (accepts t k (get_or (words t [] f) i []) ≡ true)))

-- with mark 0, exactly when every word is
abbrev pub MetByEvery : Type 0
MetByEvery =
    (t : List ℕ) (f : Forest) (k : ℕ) → UsedAutomaton t f k → (automaton t k).mark ≡ 0
    → ((met t f k ≡ true) ↔ ((i : ℕ) → i < length (words t [] f) → accepts t k (get_or (words t [] f) i []) ≡ true))

-- an automaton that is not used is never in the way
abbrev pub MetUnused : Type 0
MetUnused = (t : List ℕ) (f : Forest) (k : ℕ) → (UsedAutomaton t f k → ⊥) → met t f k ≡ true

-- a record complies exactly if there is no used automaton that is not met
abbrev pub CompliesWhere : Type 0
CompliesWhere =
    (t : List ℕ) (levels : ℕ) (branch goals : List Goal) (f : Forest) → AcceptedTable t → Derives t levels branch goals f
    → (Complies t f ↔ ((k : ℕ) → Numbered (automata t) k → UsedAutomaton t f k → met t f k ≡ true))
