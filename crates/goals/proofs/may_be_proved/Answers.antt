-- Three tests, one after the other.
use Rattle.std.proofs.Common.{arith}
use Rattle.std.proofs.lemmas.Grind.{common_steps}
use Rattle.sets.specs.Logic.{◌and◌}
use Rattle.goals.specs.Goals.{may_be_proved}
use Rattle.goals.proofs.Testing.{row_within}
use Rattle.goals.proofs.may_be_proved.Goals as goal

pub is_listed-requires-clause-rows_len : goal.is_listed-requires-clause-rows_len
is_listed-requires-clause-rows_len c =
    let rows = c.requires.rows_len in
    (rows.0, row_within _ _ _ c.row_of.ensures rows.1)

pub returns-then-place-credentials : goal.returns-then-place-credentials
unfolding ◌and◌ may_be_proved
returns-then-place-credentials c = grind (arith, common_steps)

pub returns-else-place-credentials : goal.returns-else-place-credentials
unfolding ◌and◌ may_be_proved
returns-else-place-credentials c = grind (arith, common_steps)
