-- `cuts::if_single` meets its contract: a set and the number before it have no member in common exactly where the set has at most
-- one. Assumes nothing.
use Rattle.cuts.proofs.Single.{none_only, several-only, single-only}
use Rattle.cuts.proofs.if_single.Goals as goal

pub returns-then-set-eq0 : goal.returns-then-set-eq0
returns-then-set-eq0 c k = none_only _ k c.if-set-eq0.true

pub returns-then-set-ne0 : goal.returns-then-set-ne0
returns-then-set-ne0 c k = several-only _ k c.if-set-ne0.true

pub returns : goal.returns
returns c k = single-only _ k c.if-set-ne0.false
