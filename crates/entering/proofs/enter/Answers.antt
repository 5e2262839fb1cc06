-- 11, 12 and 13 are tested in that order.
use Rattle.std.proofs.Common.{◌∙◌, sym}
use Rattle.table.specs.Checks.{number_of}
use Rattle.sets.proofs.Tests.{failed, passed}
use Rattle.derivation.specs.Held.{given}
use Rattle.entering.specs.Steps.{stepped}
use Rattle.entering.proofs.Entering.{entry-asks, entry_closed, entry-short, entry-unfit, may-fresh, may_none}
use Rattle.entering.proofs.enter.Goals.{then-levels-eq0-via-then-levels-eq0, then-levels-eq0-via-else-levels-eq0+then-not-is_fresh}
use Rattle.entering.proofs.enter.Goals as goal

pub returns-then-rec-lt2 : goal.returns-then-rec-lt2
unfolding stepped number_of
returns-then-rec-lt2 c = entry-short _ _ _ _ c.if-rec-lt2.true

pub returns-in_default : goal.returns-in_default
unfolding stepped number_of given
returns-in_default c = entry-unfit _ _ _ _ c.if-rec-lt2.false (sym c.in_default.ensures)

pub returns-then-levels-eq0 : goal.returns-then-levels-eq0
unfolding stepped number_of given
returns-then-levels-eq0 c =
    entry_closed _ _ _ _ c.if-rec-lt2.false (sym c.in-Some.ensures)
    (elim c.then-levels-eq0.branch [
      | then-levels-eq0-via-then-levels-eq0 w ↦ may_none _ _ _ w.if-levels-eq0.true
      | then-levels-eq0-via-else-levels-eq0+then-not-is_fresh w ↦
          may-fresh _ _ _ w.if-levels-eq0.false ∙ failed w.is_fresh.ensures w.if-not-is_fresh.true
    ])

pub returns : goal.returns
unfolding stepped given
returns c =
    entry-asks _ _ _ _ c.if-rec-lt2.false (sym c.in-Some.ensures)
    (may-fresh _ _ _ c.if-levels-eq0.false ∙ passed c.is_fresh.ensures c.if-not-is_fresh.false)
