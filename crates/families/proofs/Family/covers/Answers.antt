-- `families::Family::covers` meets its contract. Assumes nothing.
use Rattle.families.proofs.Covering.{covers-empty, covers-raised}
use Rattle.families.proofs.Family.covers.Goals as goal

pub returns-then-set-eq0 : goal.returns-then-set-eq0
returns-then-set-eq0 c = rw c.if-set-eq0.true (covers-empty _ c.is_none.ensures)

pub returns : goal.returns
returns c = covers-raised _ _ _ c.raised.ensures c.meets.ensures
