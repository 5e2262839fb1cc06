-- The record is read from its first node on, and what was read is judged.
use Rattle.std.proofs.Common.{◌∙◌, ap, arith, length}
use Rattle.table.specs.Checks.{number_of}
use Rattle.table.specs.declared.Reason.TheVariants as reason
use Rattle.table.proofs.Told.{tells-at}
use Rattle.derivation.proofs.Depths.{depth-fits}
use Rattle.verifier.proofs.Judged.{begins, verdict-leftover, verdict-stops, verdict-words}
use Rattle.verifier.proofs.judge_by.Goals as goal

pub read-told-requires-clause-levels_fit : goal.read-told-requires-clause-levels_fit
read-told-requires-clause-levels_fit c =
    omega (arith, ap length c.empty.ensures, depth-fits _ c.requires.valid, c.wide-levels.ensures.0)

pub returns-in-Err : goal.returns-in-Err
returns-in-Err c =
    let b = begins c.wide-levels.ensures.0 c.empty.ensures c.goal_of-goal.ensures c.start-start.ensures in
    tells-at _ c.in-Err.reason _ ∙ verdict-stops b (rw c.in-Err.is at c.read-told.ensures.told)

pub returns-then-rest-ne0 : goal.returns-then-rest-ne0
unfolding number_of
returns-then-rest-ne0 c =
    let b = begins c.wide-levels.ensures.0 c.empty.ensures c.goal_of-goal.ensures c.start-start.ensures in
    tells-at _ reason.RecordLength _ ∙ verdict-leftover b (rw c.in-Ok.is at c.read-told.ensures.told) c.if-rest-ne0.true

pub returns : goal.returns
returns c =
    let b = begins c.wide-levels.ensures.0 c.empty.ensures c.goal_of-goal.ensures c.start-start.ensures in
    c.judge_words.ensures ∙ verdict-words b (rw c.in-Ok.is at c.read-told.ensures.told) c.requires.well_formed c.if-rest-ne0.false
