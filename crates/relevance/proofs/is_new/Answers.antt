-- Where the place is not one of `places` the other set is not looked at.
use Rattle.std.proofs.Common.{ap, not, ◌∙◌}
use Rattle.sets.proofs.Tests.{and-on, flag_off, passed}
use Rattle.relevance.proofs.is_new.Goals as goal

pub returns-then-has : goal.returns-then-has
returns-then-has c = ap not c.has-then-has.ensures ∙ and-on (passed c.has.ensures c.if-has.true)

pub returns-else-has : goal.returns-else-has
returns-else-has c = flag_off _ c.has.ensures c.if-has.false
