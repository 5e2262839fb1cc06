-- `ranges::cell_ok` meets its contract: the role, then that next is 0 or a greater cell. Assumes nothing.
use mathlib.Core.Path.{◌∙◌}
use borrow.Author.Rules.{rules}
use borrow.Author.Tests.{eq-eqb, le-ltb, lt-ltb, ne_eqb}
use Rattle.sets.proofs.Tests.{and-off, and-on, flag_off, flag-on, or_off, or-on}
use Rattle.table.specs.Checks.{cell_to}
use Rattle.ranges.proofs.cell_ok.Statement.{statement}
use Rattle.ranges.proofs.cell_ok.Tie as tie

wide-requires : tie.Need-wide-next-requires
wide-requires c κs = search rules

is-role-requires : tie.Need-is_role-requires
is-role-requires c κs = search rules

returns : tie.Need-returns-then-next-eq0
unfolding cell_to
returns c =
    let wide = c.wide-next in
    let role = flag-on c.is_role.ensures c.if-is_role.true in
    rw (← wide.ensures.0) (or-on _ (eq-eqb _ _ c.if-next-eq0.true) ∙ role)

returns-2 : tie.Need-returns-then-j-next
unfolding cell_to
returns-2 c =
    let wide = c.wide-next in
    let role = flag-on c.is_role.ensures c.if-is_role.true in
    rw (← wide.ensures.0) (and-on (lt-ltb _ _ c.if-j-next.true) ∙ or_off (ne_eqb _ _ c.if-next-eq0.false) ∙ role)

returns-3 : tie.Need-returns-else-j-next
unfolding cell_to
returns-3 c =
    let wide = c.wide-next in
    let role = flag-on c.is_role.ensures c.if-is_role.true in
    rw (← wide.ensures.0) (and-off _ (le-ltb _ _ c.if-j-next.false) ∙ or_off (ne_eqb _ _ c.if-next-eq0.false) ∙ role)

returns-4 : tie.Need-returns-else-is_role
unfolding cell_to
returns-4 c = flag_off _ c.is_role.ensures c.if-is_role.false

pub cell_ok_spec : {M : Type 1} → statement M
cell_ok_spec = tie.close (tie.spec wide-requires is-role-requires returns returns-2 returns-3 returns-4)
