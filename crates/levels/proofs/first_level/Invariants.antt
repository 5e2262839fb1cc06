-- Row 1 has whom the simple memberships among the first i credentials name, and no cell anybody else; the others are told.
use Rattle.levels.specs.Levels.{FirstLevel}
use Rattle.levels.proofs.first_level.Given as goal

abbrev pub invariant-loop-i : goal.invariant-loop-i
invariant-loop-i l = FirstLevel l.table l.index l.allowed l.i l.rows l.others
