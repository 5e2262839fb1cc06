-- `members::cells::is_person` meets its contract: a principal stands at the first simple membership that names it, and the index
-- has that place.
use Rattle.std.proofs.Common.{◌∙◌}
use Rattle.table.proofs.Reading.{is-number, not-number}
use Rattle.members.proofs.Persons.{no-person, person-here}
use Rattle.members.proofs.cells.is_person.Goals as goal

pub returns-then-is : goal.returns-then-is
returns-then-is c =
    let kind = is-number c.is.ensures c.if-is.true in
    person-here _ _ _ c.credential.ensures _ c.requires.indexed c.requires.j_bound kind _ c.asked_cell.ensures.0

pub returns-else-is : goal.returns-else-is
returns-else-is c = c.if-is.false ∙ no-person _ _ _ c.credential.ensures (not-number c.is.ensures c.if-is.false)
