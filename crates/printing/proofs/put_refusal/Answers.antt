-- The number and the position are what is told.
use Rattle.printing.proofs.Answering.{told-filled}
use Rattle.printing.proofs.put_refusal.Goals as goal

pub returns : goal.returns
returns c = told-filled _ _ c.from.ensures c.put_place.ensures
