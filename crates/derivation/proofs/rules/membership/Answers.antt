-- The member and the middle are compared.
use Rattle.std.proofs.Common.{ap, ◌∙◌}
use mathlib.Core.Option.{some}
use borrow.Author.Tests.{eq-eqb, ne_eqb}
use Rattle.sets.proofs.Tests.{and_is, and-is-off}
use Rattle.derivation.specs.Held.{given}
use Rattle.derivation.proofs.Asking.{when-off, when-on}
use Rattle.derivation.proofs.rules.membership.Goals.{then-c-goal-via-then-c-goal, then-c-goal-via-else-c-goal+then-middle-ne0}
use Rattle.derivation.proofs.rules.membership.Goals as goal

pub returns-then-c-goal : goal.returns-then-c-goal
unfolding given
returns-then-c-goal c =
    when-off _
    (elim c.then-c-goal.branch [
      | then-c-goal-via-then-c-goal w ↦ and-is-off _ (ne_eqb _ _ w.if-c-goal.true)
      | then-c-goal-via-else-c-goal+then-middle-ne0 w ↦ and_is (eq-eqb _ _ w.if-c-goal.false) (ne_eqb _ 0 w.if-middle-ne0.true)
    ])

pub returns : goal.returns
unfolding given
returns c =
    ap some c.none.ensures ∙ when-on _ (and_is (eq-eqb _ _ c.if-c-goal.false) (eq-eqb _ 0 c.if-middle-ne0.false))
