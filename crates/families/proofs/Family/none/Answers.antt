-- `families::Family::none` meets its contract: words of zeros have no sets. Assumes nothing.
use Rattle.families.proofs.Words.{no-sets}
use Rattle.families.proofs.Family.none.Goals as goal

pub returns : goal.returns
returns c = no-sets
