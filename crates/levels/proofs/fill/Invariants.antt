-- The rows up to the level have just who is a member within so many levels.
use Rattle.levels.proofs.Reaching.{Reached}
use Rattle.levels.proofs.fill.Given as goal

abbrev pub invariant-loop-level : goal.invariant-loop-level
invariant-loop-level l = Reached l.table l.index l.allowed l.others l.level l.rows
