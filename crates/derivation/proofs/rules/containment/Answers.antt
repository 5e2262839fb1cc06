-- One goal is asked.
use Rattle.std.proofs.Common.{ap, ◌∙◌}
use mathlib.Core.Option.{some}
use borrow.Author.Tests.{eq-eqb, ne_eqb}
use Rattle.derivation.specs.Held.{given}
use Rattle.derivation.proofs.Asking.{when-off, when-on}
use Rattle.derivation.proofs.rules.containment.Goals as goal

pub returns-then-middle-ne0 : goal.returns-then-middle-ne0
unfolding given
returns-then-middle-ne0 c = when-off _ (ne_eqb _ 0 c.if-middle-ne0.true)

pub returns : goal.returns
unfolding given
returns c = ap some c.of.ensures ∙ when-on _ (eq-eqb _ 0 c.if-middle-ne0.false)
