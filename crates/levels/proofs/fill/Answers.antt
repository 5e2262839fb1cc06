-- Where nothing is new the last row is closed under all credentials, so that nothing more is proved within any number.
use Rattle.std.proofs.Common.{◌≡◌, ◌<◌, arith}
use Rattle.table.specs.Limits.{most_depth}
use Rattle.levels.proofs.Reaching.{reached-all, reached-first, reached-last, reached-next}
use Rattle.levels.proofs.fill.Goals as goal

pub loop-level-init : goal.loop-level-init
loop-level-init c =
    reached-first _ _ c.requires.well_formed c.requires.indexed _ _ _ c.first_level-others.ensures

pub returns-then-not-next_level : goal.returns-then-not-next_level
returns-then-not-next_level c =
    let few : c.loop-level.level < most_depth = omega arith in
    reached-last _ _ c.requires.well_formed c.requires.indexed _ _ _ _ _ _ _ few c.loop-level.invariant c.copy_row.ensures
    c.next_level.ensures _ c.if-not-next_level.true

pub loop-level-preserved : goal.loop-level-preserved
loop-level-preserved c =
    let few : c.loop-level.level < most_depth = omega arith in
    reached-next _ _ c.requires.well_formed c.requires.indexed _ _ _ _ _ _ _ few c.loop-level.invariant c.copy_row.ensures
    c.next_level.ensures

pub returns : goal.returns
returns c =
    let all : c.loop-level.level ≡ c.args.depth = omega arith in
    reached-all _ _ c.requires.well_formed c.requires.indexed _ _ _ _ (omega arith) (rw all at c.loop-level.invariant)
