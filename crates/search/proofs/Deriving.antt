-- A derivation within so many levels, by credentials of a set, proves only what the table of members has at that level: the law of
-- members by levels, over derivations. The search cites it over what it finds itself (Placing.antt).
use mathlib.Core.Path.{◌≡◌, refl}
use mathlib.Core.List.{List, ◌∷◌}
use mathlib.Core.Bool.{Bool, true}
use mathlib.Core.Option.{some}
use Prim.Native.Nat.{ℕ, suc, ◌-◌, ◌≤◌}
use lib.ListN.{length}
use lib.Dec.{eqb}
use Rattle.sets.specs.Logic.{pick}
use Rattle.sets.specs.Sets.{in_set}
use Rattle.sets.proofs.Tests.{and_both, and_first, any-reached, pick_same}
use Rattle.table.specs.Layout.{credentials}
use Rattle.table.specs.Holding.{WellFormed}
use Rattle.table.specs.declared.Goal.{Goal}
use Rattle.derivation.specs.Rules.{premises}
use Rattle.derivation.specs.Forest.{Derives, Forest}
use Rattle.derivation.specs.Forest.DerivesBy.{done, step}
use Rattle.derivation.proofs.Applying.{applies-defines, applies-numbered}
use Rattle.derivation.proofs.Using.{placed}
use Rattle.members.specs.Trying.{every_goal, may_use, proved_premises}
use Rattle.members.specs.Members.{Members, lesser, listed, within}
use Rattle.search.specs.Search.{UsesOnly}
use Rattle.search.proofs.Naming.{IsMiddle, middle-tried, tried-proves}
use Rattle.search.proofs.Within.{only_below, only_here, only-later}

-- a goal is there one level up, through a credential of the set that applies to it, where its premises are there
within-through : (t : List ℕ) (S levels : ℕ) (g : Goal) (c m : ℕ) (goals : List Goal) → premises t g c m ≡ some goals
    → in_set S (c - 1) ≡ true → IsMiddle t c m → every_goal (within t S levels) goals ≡ true → within t S (suc levels) g ≡ true
unfolding within may_use proved_premises
within-through t S levels g c m goals applies own tried each =
    let at = placed (applies-numbered t g c m goals applies) in
    let defines = applies-defines t g c m goals applies in
    let asked = within-asked (eqb (length goals) 0) each in
    any-reached _ (credentials t) (c - 1) at.0
    (rw at.1 (and_both (and_both own defines) (tried-proves t (every_goal (within t S levels)) true g c m tried (rw applies asked))))
  where
    within-asked : (b : Bool) {all : Bool} → all ≡ true → pick b true all ≡ true
    within-asked b e = rw e (pick_same b refl)

pub derived-within : {t : List ℕ} → WellFormed t → (S : ℕ) {levels : ℕ} {branch goals : List Goal} {f : Forest}
    → Derives t levels branch goals f → UsesOnly f S → every_goal (within t S levels) goals ≡ true
unfolding every_goal
derived-within wf S done only = refl
derived-within {t} wf S (step {c = c} {m = m} {goals = goals} {g = g} {children = ch} {siblings = si} applies new d later) only =
    and_both
    (within-through t S _ g c m goals applies (only_here S c m ch si only) (middle-tried wf g c m goals applies d)
    (derived-within wf S d (only_below S c m ch si only)))
    (derived-within wf S later (only-later S c m ch si only))

-- each goal that a derivation of so many levels proves is in the row of the level
pub derived-listed : {t : List ℕ} → WellFormed t → (S depth last : ℕ) (rows : List ℕ) → Members t S depth last rows
    → {levels : ℕ} {branch rest : List Goal} {g : Goal} {f : Forest} → Derives t levels branch (g ∷ rest) f → UsesOnly f S
    → levels ≤ depth → listed t rows (lesser levels last) g ≡ true
unfolding every_goal
derived-listed wf S depth last rows members {levels} {g = g} d only few =
    members.every levels few g (and_first _ _ (derived-within wf S d only))
