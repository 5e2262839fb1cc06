-- `ranges::credential_ok` meets its contract: the role, what the kind allows, then the automaton. Assumes nothing.
use mathlib.Core.Path.{◌∙◌}
use borrow.Author.Rules.{rules}
use Rattle.sets.proofs.Tests.{flag_off, flag-on}
use Rattle.table.specs.Checks.{credential_to}
use Rattle.ranges.proofs.credential_ok.Statement.{statement}
use Rattle.ranges.proofs.credential_ok.Tie as tie

is-role-requires : tie.Need-is_role-requires
is-role-requires c κs = search rules

meaning-ok-requires : tie.Need-meaning_ok-requires
meaning-ok-requires c κs = search rules

wide-requires : tie.Need-wide-requires
wide-requires c κs = search rules

returns : tie.Need-returns-then-meaning_ok
unfolding credential_to
returns c =
    let meaning-ok = c.meaning_ok in
    let is-role = c.is_role in
    let if1 = c.if-is_role in
    rw (← c.wide.ensures.0) (flag-on meaning-ok.ensures c.if-meaning_ok.true ∙ flag-on is-role.ensures if1.true)

returns-2 : tie.Need-returns-else-meaning_ok
unfolding credential_to
returns-2 c =
    let is-role = c.is_role in
    let if1 = c.if-is_role in
    flag_off _ c.meaning_ok.ensures c.if-meaning_ok.false ∙ flag-on is-role.ensures if1.true

returns-3 : tie.Need-returns-else-is_role
unfolding credential_to
returns-3 c = flag_off _ c.is_role.ensures c.if-is_role.false

pub credential_ok_spec : {M : Type 1} → statement M
credential_ok_spec =
    tie.close (tie.spec is-role-requires meaning-ok-requires wide-requires returns returns-2 returns-3)
