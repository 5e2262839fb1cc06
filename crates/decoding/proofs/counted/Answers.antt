-- A shorter slice is its own beginning.
use Rattle.std.proofs.lemmas.List.{take_min}
use Rattle.decoding.proofs.counted.Goals as goal

pub returns : goal.returns
returns c = rw c.min.ensures (take_min _ _)
