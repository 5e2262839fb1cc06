-- To count how often a row is asked for does not make it.
use Rattle.table.proofs.Reading.{not-number}
use Rattle.arcs.proofs.Making.{asked-again}
use Rattle.arcs.proofs.ask.Goals as goal

pub returns-then-asked : goal.returns-then-asked
returns-then-asked c =
    let some = not-number c.is_empty.ensures c.if-is_empty.false in
    asked-again c.requires.well_formed c.requires.arcs c.requires.place_bound some c.if-asked.true
