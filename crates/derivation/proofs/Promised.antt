-- No pair of principal and role comes twice on a branch: goals are the same where their principals, owners and names are.
use mathlib.Core.Path.{◌≡◌, refl, sym, ap, ap₂, ◌∙◌}
use mathlib.Core.List.{List, [], ◌∷◌}
use mathlib.Core.Bool.{true, not}
use mathlib.Core.Option.{some}
use Prim.Native.Nat.{ℕ, zero, suc, ◌<◌}
use native.Mathlib.Omega.{arith}
use lib.ListN.{get_or, length}
use borrow.Author.Tests.{eq-eqb, eqb-true, not-true}
use Rattle.sets.proofs.Tests.{and_both, and_first, and_second, false-true, refuted}
use Rattle.table.specs.Layout.{principal, same_role}
use Rattle.table.specs.declared.Goal.{Goal}
use Rattle.table.specs.declared.Query.{Query}
use Rattle.derivation.specs.Rules.{fresh, goal, goal_of, same_goal}
use Rattle.derivation.specs.Forest.{Derives, Forest, written}
use Rattle.derivation.specs.Forest.DerivesBy.{done, step}
use Rattle.derivation.specs.Held.{no_goal}
use Rattle.derivation.specs.Promised.{BranchOf, DerivesNoneTwice, NoPairTwice, NoneTwice, RecordNoneTwice}
use Rattle.derivation.specs.Promised.BranchOf.{below, beside, here}
use Rattle.derivation.proofs.Applying.{same-role}

same-goal : (g h : Goal) → same_goal g h ≡ true → g ≡ h
unfolding same_goal
same-goal g h same =
    ap₂ (λ p r. goal (principal p) r) (eqb-true _ _ (and_first _ _ same)) (same-role g.role h.role (and_second _ _ same))

goal-same : (g : Goal) → same_goal g g ≡ true
unfolding same_goal same_role
goal-same g =
    and_both (eq-eqb g.principal.0 _ refl)
    (and_both (eq-eqb g.role.owner.0 _ refl) (eq-eqb g.role.name.0 _ refl))

-- a goal that may come is none of those there
none-there : (branch : List Goal) (g : Goal) → fresh branch g ≡ true → (i : ℕ) → i < length branch → get_or branch i no_goal ≡ g → ⊥
unfolding fresh
none-there [] g new i l e = omega arith
none-there (above ∷ branch) g new zero l e =
    false-true (sym (not-true _ (and_first _ _ new)) ∙ ap (same_goal above) (sym e) ∙ goal-same above)
none-there (above ∷ branch) g new (suc i) l e = none-there branch g (and_second _ _ new) i (omega arith) e

may-come : (branch : List Goal) (g : Goal) → ((i : ℕ) → i < length branch → get_or branch i no_goal ≡ g → ⊥) → fresh branch g ≡ true
unfolding fresh
may-come [] g none = refl
may-come (above ∷ branch) g none =
    and_both (ap not (refuted (same_goal above g) (λ same. none 0 (omega arith) (same-goal above g same))))
    (may-come branch g (λ i l. none (suc i) (omega arith)))

pub no-pair-twice : NoPairTwice
no-pair-twice branch g = (none-there branch g, may-come branch g)

-- a goal that may come on a branch on which none comes twice leaves it so
one_more : (branch : List Goal) (g : Goal) → NoneTwice branch → fresh branch g ≡ true → NoneTwice (g ∷ branch)
one_more branch g apart new zero zero less l e = omega arith
one_more branch g apart new zero (suc j) less l e = none-there branch g new j (omega arith) (sym e)
one_more branch g apart new (suc i) zero less l e = omega arith
one_more branch g apart new (suc i) (suc j) less l e = apart i j (omega arith) (omega arith) e

same_goals : {a b : List Goal} → some a ≡ some b → a ≡ b
same_goals e = cc

-- on a branch of a derivation none comes twice, if none does above it
none-twice : {t : List ℕ} {levels : ℕ} {above goals branch : List Goal} {f : Forest} → NoneTwice above
    → Derives t levels above goals f → BranchOf t branch above goals f → NoneTwice branch
none-twice apart (step asks new d later) (here same) = rw same (one_more _ _ apart new)
none-twice apart (step asks new d later) (below asks' b) =
    none-twice (one_more _ _ apart new) d (rw (same_goals (sym asks' ∙ asks)) at b)
none-twice apart (step asks new d later) (beside b) = none-twice apart later b
none-twice apart done b = elim b [ ]

pub derives-none-twice : DerivesNoneTwice
derives-none-twice t levels goals branch f d b = none-twice (λ i j less l e. omega arith) d b

-- so it is for the record of every derivation of the queried membership
pub record-none-twice : (t : List ℕ) (q : Query) {f : Forest} {rec : List ℕ} → Derives t q.depth [] (goal_of q ∷ []) f
    → written f ≡ rec → RecordNoneTwice t q rec
record-none-twice t q {f} d whole =
    record { forest = f; derives = d; whole = whole; apart = λ branch b. derives-none-twice t q.depth _ branch f d b }
