-- Both numbers are put, or neither.
use Rattle.walking.proofs.Walking.{put_both, put-none}
use Rattle.walking.proofs.put.Goals as goal

pub returns-then-at-rec : goal.returns-then-at-rec
returns-then-at-rec c = put_both _ _ _ _ c.if-at-rec.true

pub returns-else-at-rec : goal.returns-else-at-rec
returns-else-at-rec c = put-none _ _ _ _ c.if-at-rec.false
