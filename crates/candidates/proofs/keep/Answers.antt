-- `candidates::keep` meets its contract: the set is least because it was tested, or because the cuts told it.
use Rattle.std.proofs.Common.{sym, ◌∙◌}
use Rattle.candidates.proofs.Growing.{kept-least, kept-not}
use Rattle.candidates.proofs.keep.Goals.{else-full-via-then-full+else-not-is_minimal, else-full-via-else-full}
use Rattle.candidates.proofs.keep.Goals as goal

pub returns-then-not-is_minimal : goal.returns-then-not-is_minimal
returns-then-not-is_minimal c = kept-not (sym c.is_minimal.ensures ∙ c.if-not-is_minimal.true)

pub returns : goal.returns
returns c =
    elim c.else-full.branch [
      | else-full-via-then-full+else-not-is_minimal w ↦ kept-least (sym w.is_minimal.ensures ∙ w.if-not-is_minimal.false) c.insert.ensures
      | else-full-via-else-full w ↦ kept-least (c.requires.set_value_2 w.if-full.false) c.insert.ensures
    ]
