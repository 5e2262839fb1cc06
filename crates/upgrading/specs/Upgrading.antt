-- Ticket 3, for whoever upgrades: the rule before it, that no role comes twice on a branch, whoever the principals are, and what
-- becomes of the lists that were made by it.
use Rattle.std.specs.Prelude.{ℕ, suc, ◌≡◌, List, [], ◌∷◌, Bool, true, not}
use Rattle.std.proofs.Math.Option.{some}
use Rattle.sets.specs.Logic.{◌and◌}
use Rattle.sets.specs.Sets.{part}
use Rattle.table.specs.Layout.{same_role}
use Rattle.table.specs.Checks.{AcceptedTable, Valid}
use Rattle.table.specs.declared.Goal.{Goal}
use Rattle.table.specs.declared.Query.{Query}
use Rattle.derivation.specs.Rules.{goal_of, premises}
use Rattle.derivation.specs.Forest.{Forest, used_set}
use Rattle.derivation.specs.Forest.Forest.{end, node}
use Rattle.derivation.specs.Words.{Complies}
use Rattle.listing.specs.Demands.{Minimal}

-- the goal's role is none of those above it
unfoldable pub new_role : List Goal → Goal → Bool
new_role [] g = true
new_role (above ∷ branch) g = not (same_role above.role g.role) and new_role branch g

-- a derivation by that rule, and in all else as it is now
pub data DerivedBefore (t : List ℕ) : ℕ → List Goal → List Goal → Forest → Type 0 where
  done : {levels : ℕ} {branch : List Goal} → DerivedBefore t levels branch [] end
  step : {levels c m : ℕ} {branch goals rest : List Goal} {g : Goal} {children siblings : Forest}
      → premises t g c m ≡ some goals → new_role branch g ≡ true → DerivedBefore t levels (g ∷ branch) goals children
      → DerivedBefore t (suc levels) branch rest siblings
      → DerivedBefore t (suc levels) branch (g ∷ rest) (node c m children siblings)

-- S is the used set of a derivation of the queried membership by that rule that complies
pub record UsedBefore (t : List ℕ) (q : Query) (S : ℕ) : Type 0 where
  pub forest : Forest
  pub derives : DerivedBefore t q.depth [] (goal_of q ∷ []) forest
  pub complies : Complies t forest
  pub uses : used_set forest ≡ S

-- a minimal set by that rule
pub record MinimalBefore (t : List ℕ) (q : Query) (S : ℕ) : Type 0 where
  pub used : UsedBefore t q S
  pub least : (T : ℕ) → UsedBefore t q T → part T S ≡ true → T ≡ S

-- each set that was listed includes one that is listed now
abbrev pub Upgrading : Type 0
Upgrading =
    (t : List ℕ) (q : Query) (S : ℕ) → AcceptedTable t → Valid q → MinimalBefore t q S
    → (T : ℕ) × Minimal t q T × (part T S ≡ true)
