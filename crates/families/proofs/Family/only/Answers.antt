-- `families::Family::only` meets its contract: a set is put into a family that has none. Assumes nothing.
use Rattle.families.proofs.Words.{only_one}
use Rattle.families.proofs.Family.only.Goals as goal

pub returns : goal.returns
returns c = only_one _ _ _ c.none.ensures c.with.ensures
