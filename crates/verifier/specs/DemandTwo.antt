-- Demand 2 on the verifier: on an accepted table and a valid query it accepts a record, with a set, exactly when the record
-- derives the queried membership, complies, and uses that set; and where it refuses a record, it tells the first thing that
-- applies.
use Rattle.std.specs.Prelude.{ℕ, suc, ◌<◌, ◌≡◌, List, [], ◌∷◌, ◌++◌, true, false, ◌↔◌, length}
use Rattle.std.proofs.Math.Option.{none, some}
use Rattle.table.specs.Outcome.Outcome.{accepted, refused}
use Rattle.table.specs.Layout.{Numbered, automata}
use Rattle.table.specs.Checks.{AcceptedTable, Valid}
use Rattle.table.specs.declared.Goal.{Goal}
use Rattle.table.specs.declared.Query.{Query}
use Rattle.derivation.specs.Rules.{fresh, goal_of, premises}
use Rattle.derivation.specs.Forest.{Derives, Forest, count_from, written}
use Rattle.derivation.specs.Words.{met}
use Rattle.reader.specs.Reading.{reader}
use Rattle.reader.specs.Reading.Reading.{stop}
use Rattle.derivation.specs.Accepted.{Accepted}
use Rattle.verifier.specs.Verdict.{verdict}

-- the verifier accepts exactly the records that derive and comply, and tells their used set
abbrev pub DemandTwo : Type 0
DemandTwo =
    (t : List ℕ) (q : Query) (rec : List ℕ) (S : ℕ)
    → AcceptedTable t → Valid q → ((verdict t q rec ≡ accepted S) ↔ Accepted t q rec S)

-- a record has at most one derivation
abbrev pub OneDerivation : Type 0
OneDerivation =
    (t : List ℕ) (levels : ℕ) (branch goals : List Goal) (f f' : Forest)
    → Derives t levels branch goals f → Derives t levels branch goals f' → written f ≡ written f' → f ≡ f'

-- where reading stops: with so many levels left, below a branch, for these goals, from node `at` on, this number at this node
pub data Stops (t : List ℕ) : ℕ → List Goal → List Goal → List ℕ → ℕ → ℕ → ℕ → Type 0 where
  -- 11: fewer than two numbers remain for the node
  short : {levels at : ℕ} {branch later : List Goal} {g : Goal} {rec : List ℕ}
      → length rec < 2 → Stops t levels branch (g ∷ later) rec at 11 at
  -- 12: the credential does not apply to the goal, or not with this middle
  unfit : {levels at c m : ℕ} {branch later : List Goal} {g : Goal} {rec : List ℕ}
      → premises t g c m ≡ none → Stops t levels branch (g ∷ later) (c ∷ m ∷ rec) at 12 at
  -- 13: it applies, and no level is left
  deep : {at c m : ℕ} {branch goals later : List Goal} {g : Goal} {rec : List ℕ}
      → premises t g c m ≡ some goals → Stops t 0 branch (g ∷ later) (c ∷ m ∷ rec) at 13 at
  -- 13: it applies, and the goal's pair of principal and role is already on the branch
  again : {levels at c m : ℕ} {branch goals later : List Goal} {g : Goal} {rec : List ℕ}
      → premises t g c m ≡ some goals → fresh branch g ≡ false
      → Stops t (suc levels) branch (g ∷ later) (c ∷ m ∷ rec) at 13 at
  -- the node passes, and reading stops among its children
  below : {levels at c m number position : ℕ} {branch goals later : List Goal} {g : Goal} {rec : List ℕ}
      → premises t g c m ≡ some goals → fresh branch g ≡ true
      → Stops t levels (g ∷ branch) goals rec (suc at) number position
      → Stops t (suc levels) branch (g ∷ later) (c ∷ m ∷ rec) at number position
  -- the node passes with all its children, and reading stops behind them
  behind : {levels at c m number position : ℕ} {branch goals later : List Goal} {g : Goal} {rec : List ℕ} {children : Forest}
      → premises t g c m ≡ some goals → fresh branch g ≡ true → Derives t levels (g ∷ branch) goals children
      → Stops t (suc levels) branch later rec (count_from (suc at) children) number position
      → Stops t (suc levels) branch (g ∷ later) (c ∷ m ∷ (written children ++ rec)) at number position

-- the reader stops with that number at that node, and only there
abbrev pub FirstRefusal : Type 0
FirstRefusal =
    (t : List ℕ) (levels : ℕ) (branch goals : List Goal) (rec : List ℕ) (at number position : ℕ)
    → ((reader t levels branch goals rec at ≡ stop number position) ↔ Stops t levels branch goals rec at number position)

-- what refuses a record: rows 11 to 13 at its nodes, then numbers left over, then row 14
pub data Refuses (t : List ℕ) (q : Query) (rec : List ℕ) : ℕ → ℕ → Type 0 where
  -- 11, 12 or 13 at a node: reading stops there
  stops : {number position : ℕ} → Stops t q.depth [] (goal_of q ∷ []) rec 1 number position → Refuses t q rec number position
  -- 11 at nodes + 1: the record begins with a derivation of the queried membership, and numbers remain after the tree
  leftover : {f : Forest} (x : ℕ) (more : List ℕ)
      → Derives t q.depth [] (goal_of q ∷ []) f → rec ≡ written f ++ (x ∷ more) → Refuses t q rec 11 (count_from 1 f)
  -- 14: the record derives the queried membership, and k is the lowest used automaton that is not met
  rejected : {f : Forest} {k : ℕ}
      → Derives t q.depth [] (goal_of q ∷ []) f → rec ≡ written f → Numbered (automata t) k → met t f k ≡ false
      → ((j : ℕ) → Numbered (automata t) j → j < k → met t f j ≡ true) → Refuses t q rec 14 k

-- on an accepted table and a valid query the verifier refuses with that number and position, and with no other
abbrev pub EveryRefusal : Type 0
EveryRefusal =
    (t : List ℕ) (q : Query) (rec : List ℕ) (number position : ℕ)
    → AcceptedTable t → Valid q → ((verdict t q rec ≡ refused number position) ↔ Refuses t q rec number position)
