-- `attached::with_automaton` meets its contract: one automaton is added, or none. Assumes nothing.
use borrow.Author.Tests.{eq-eqb, ne_eqb}
use Rattle.sets.specs.Logic.{◌and◌, pick}
use Rattle.attached.proofs.with_automaton.Goals as goal

pub returns-then-not-member : goal.returns-then-not-member
unfolding ◌and◌ pick
returns-then-not-member c = rw c.if-not-member.true

pub returns-then-automaton-eq0 : goal.returns-then-automaton-eq0
unfolding ◌and◌ pick
returns-then-automaton-eq0 c = rw (c.if-not-member.false, eq-eqb _ 0 c.if-automaton-eq0.true)

pub returns : goal.returns
unfolding ◌and◌ pick
returns c =
    let args = c.args in
    let member = c.if-not-member.false in
    let some = ne_eqb args.automaton 0 c.if-automaton-eq0.false in
    rw (member, some, ← c.wide.ensures.0) c.with.ensures
