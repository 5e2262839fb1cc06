-- A slot that is about the goal bounds what it can meet, and so does all that is owed.
use Rattle.std.proofs.Common.{◌≡◌, length, rules}
use Rattle.table.specs.Limits.{most_automata}
use Rattle.search.proofs.Failing.{covers-none, recalled-bounds, recalled-covered}
use Rattle.search.proofs.Answering.{only-bounds}
use Rattle.search.proofs.seeking.recalled.Goals as goal

pub returns-then-recalls : goal.returns-then-recalls
returns-then-recalls c =
    let recalled = c.recalls.ensures c.if-recalls.true in
    let eight : length c.args.spot.states.sets ≡ most_automata = search rules in
    λ t S A remembered. (
      recalled-covered t S A _ remembered recalled _ c.blocking_at.ensures,
      recalled-bounds t S A _ remembered recalled _ c.blocking_at.ensures c.requires.0 eight _ c.family_at.ensures,
    )

pub returns : goal.returns
returns c = λ t S A remembered. (rw c.nothing.ensures (covers-none _), only-bounds remembered.few _ _ _ c.only.ensures)
