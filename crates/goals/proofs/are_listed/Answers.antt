-- The principal is looked up among those who are in all four roles.
use Rattle.goals.proofs.Testing.{row_within}
use Rattle.goals.proofs.are_listed.Goals as goal

pub asked_members-requires : goal.asked_members-requires
asked_members-requires c =
    let pre = c.requires in
    record {
      placed = pre.placed;
      room = pre.rows_len.0;
      last = row_within _ _ _ c.row_of-row.ensures pre.rows_len.1;
      there = pre.person_bound.1;
    }
