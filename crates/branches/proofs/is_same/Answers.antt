-- Names are compared, then the pair.
use Rattle.std.proofs.Common.{◌∙◌, sym}
use Rattle.table.specs.Layout.{same_role}
use Rattle.table.proofs.Equality.{goal-eq}
use Rattle.sets.proofs.Tests.{and_none}
use Rattle.derivation.specs.Rules.{same_goal}
use Rattle.branches.proofs.is_same.Goals as goal

pub returns-then-eq : goal.returns-then-eq
unfolding same_goal
returns-then-eq c = goal-eq c.args.one c.args.other c.eq-then-eq.ensures

pub returns-else-eq : goal.returns-else-eq
unfolding same_goal same_role
returns-else-eq c = c.if-eq.false ∙ sym (and_none _ (and_none _ (sym c.eq.ensures ∙ c.if-eq.false)))
