-- `families::Family::is_none` meets its contract: the sets in common with itself are all its sets. Assumes nothing.
use mathlib.Core.Path.{ap, ◌∙◌}
use mathlib.Core.Bool.{not}
use Rattle.families.proofs.Words.{itself}
use Rattle.families.proofs.Family.is_none.Goals as goal

pub returns : goal.returns
returns c = ap not (c.meets.ensures ∙ itself _)
