-- Who is in all of four masks is who is in each of the four roles.
use Rattle.std.proofs.Common.{refl}
use Rattle.masks.specs.Masks.{asked_members}
use Rattle.masks.proofs.asked_members.Goals as goal

pub returns : goal.returns
unfolding asked_members
returns c =
    rw (
      c.asked_mask.ensures,
      c.asked_mask-2.ensures,
      c.asked_mask-3.ensures,
      c.asked_mask-4.ensures,
    ) refl
