-- A word ends where the credential is a simple membership that names the principal and each imposed automaton accepts it; what is
-- met of the owed are those that accept it.
use Rattle.automata.specs.Together.{accepting_set}
use Rattle.goals.proofs.Testing.{other-named, word-ends, word-rejected}
use Rattle.goals.proofs.ends_word.Goals as goal

pub returns-then-asked_cell-person : goal.returns-then-asked_cell-person
returns-then-asked_cell-person c =
    let ground = c.args.ground.now in
    other-named _ _ c.asked_cell.ensures.0 ground.terms.constraints ground.terms.owed (accepting_set ground.table.now c.args.states) _
    c.if-asked_cell-person.true c.none.ensures

pub returns-then-terms-accepting : goal.returns-then-terms-accepting
returns-then-terms-accepting c =
    let ground = c.args.ground.now in
    word-rejected _ _ c.asked_cell.ensures.0 ground.terms.constraints ground.terms.owed (accepting_set ground.table.now c.args.states) _
    c.if-asked_cell-person.false c.accepting-accepting.ensures c.if-terms-accepting.true c.none-then-terms-accepting.ensures

pub returns : goal.returns
returns c =
    let ground = c.args.ground.now in
    word-ends _ _ c.asked_cell.ensures.0 ground.terms.constraints ground.terms.owed (accepting_set ground.table.now c.args.states) _
    c.if-asked_cell-person.false c.accepting-accepting.ensures c.if-terms-accepting.false c.only.ensures
