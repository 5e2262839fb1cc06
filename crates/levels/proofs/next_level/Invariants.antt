-- The row behind the level has taken in whom the first i credentials prove by the level's row, and nobody else.
use Rattle.levels.specs.Levels.{RowGrown}
use Rattle.levels.proofs.next_level.Given as goal

abbrev pub invariant-loop-i : goal.invariant-loop-i
invariant-loop-i l = RowGrown l.table l.index l.others l.level l.i l.initial.rows l.rows l.is_new
