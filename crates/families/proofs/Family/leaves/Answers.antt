-- `families::Family::leaves` meets its contract: the two tests that it makes. Assumes nothing.
use mathlib.Core.Path.{◌∙◌}
use borrow.Author.Tests.{eq-eqb, ne_eqb}
use Rattle.sets.specs.Sets.{part}
use Rattle.sets.proofs.Tests.{and-off, and-on}
use Rattle.families.specs.Families.{leaves}
use Rattle.families.proofs.Family.leaves.Goals as goal

pub returns-then-set-most : goal.returns-then-set-most
unfolding leaves part
returns-then-set-most c = c.completes.ensures ∙ and-on (eq-eqb _ _ c.if-set-most.true)

pub returns-else-set-most : goal.returns-else-set-most
unfolding leaves part
returns-else-set-most c = and-off _ (ne_eqb _ _ c.if-set-most.false)
