-- `indexing::asked` meets its contract: a chain has its parts, and every other credential asks one place.
use Rattle.table.proofs.Reading.{is-number, not-number}
use Rattle.indexing.proofs.Indexing.{asked-once, asked-parts}
use Rattle.indexing.proofs.asked.Goals as goal

pub parts-requires : goal.parts-requires
parts-requires c =
    let four = is-number c.is.ensures c.if-is.true in
    record { well_formed = c.requires.well_formed; numbered = c.requires.whole.first four; first_value = c.requires.whole.chained four }

pub one_asked-requires : goal.one_asked-requires
one_asked-requires c = record { well_formed = c.requires.well_formed; whole = (c.requires.whole, not-number c.is.ensures c.if-is.false) }

pub returns-then-is : goal.returns-then-is
returns-then-is c = asked-parts _ _ _ (is-number c.is.ensures c.if-is.true) c.parts.ensures

pub returns : goal.returns
returns c = asked-once _ _ _ c.one_asked.ensures
