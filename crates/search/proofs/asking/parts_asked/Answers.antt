-- How many goals a credential asks, by its kind.
use Rattle.std.proofs.Common.{◌∙◌}
use Rattle.table.proofs.Reading.{is-number, not-number}
use Rattle.search.proofs.Pairs.{asks_none, asks-one, asks-parts}
use Rattle.search.proofs.asking.parts_asked.Goals as goal

pub chain-requires : goal.chain-requires
chain-requires c =
    let whole = c.requires.whole.0 in
    let four = is-number c.is.ensures c.if-is.true in
    record { well_formed = c.requires.well_formed; numbered = whole.first four; first_value = whole.chained four }

pub returns-then-is : goal.returns-then-is
returns-then-is c = c.len.ensures ∙ asks-parts _ _ (is-number c.is.ensures c.if-is.true) _ c.chain.ensures

pub returns-then-is-2 : goal.returns-then-is-2
returns-then-is-2 c = asks-one _ _ (is-number c.is-else-is.ensures c.if-is-2.true)

pub returns-else-is-2 : goal.returns-else-is-2
returns-else-is-2 c =
    asks_none _ _ (not-number c.is-else-is.ensures c.if-is-2.false) c.requires.whole.1 (not-number c.is.ensures c.if-is.false)
