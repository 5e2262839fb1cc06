-- `settling::owing_all` meets its contract. Assumes nothing.
use mathlib.Core.Path.{refl}
use Rattle.settling.proofs.Owed.{asks-all, asks-unmarked}
use Rattle.settling.proofs.owing_all.Goals as goal

pub returns-then-marks-eq0 : goal.returns-then-marks-eq0
returns-then-marks-eq0 c = asks-unmarked _ c.requires.well_formed _ c.requires.marks_value c.if-marks-eq0.true

pub returns : goal.returns
returns c = asks-all _ c.requires.well_formed _ c.requires.marks_value c.automata_of-borne.ensures _ refl refl refl refl
