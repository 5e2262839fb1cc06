-- `writing::write_settled` meets its contract: the record is walked without cells, and written where it fits.
use Rattle.std.proofs.Common.{refl}
use Rattle.table.specs.Checks.{number_of, outcome_of}
use Rattle.table.proofs.Told.{tells-whole}
use Rattle.writing.proofs.Passes.{counted-longer, counted-written, passed-by, proves-under, tells-instead}
use Rattle.writing.proofs.write_settled.Goals as goal

pub from_goal-len-requires-clause-owed_value : goal.from_goal-len-requires-clause-owed_value
from_goal-len-requires-clause-owed_value c =
    let prepared = c.args.request.now.prepared in
    proves-under prepared.well_formed c.requires.settled _ prepared.valid c.requires.allowed_value

pub returns-then-cells-len : goal.returns-then-cells-len
unfolding number_of
returns-then-cells-len c =
    let pre = c.requires in
    let counted = c.from_goal-len.ensures.0 in
    tells-instead _ _ _ _ (tells-whole _ c.into.ensures) (passed-by counted c.args.rec.now)
    (counted-longer _ pre.settled _ pre.allowed_value refl counted c.if-cells-len.true)

pub from_goal-requires-clause-owed_value : goal.from_goal-requires-clause-owed_value
from_goal-requires-clause-owed_value c =
    let prepared = c.args.request.now.prepared in
    proves-under prepared.well_formed c.requires.settled _ prepared.valid c.requires.allowed_value

pub returns : goal.returns
unfolding outcome_of
returns c =
    let pre = c.requires in
    let counted = c.from_goal-len.ensures.0 in
    counted-written _ pre.settled _ pre.allowed_value refl counted c.if-cells-len.false
    (rw (passed-by counted c.args.rec.now) at c.from_goal.ensures.0)
