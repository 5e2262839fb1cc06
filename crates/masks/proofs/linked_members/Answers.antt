-- A member of the middles adds who is in its linked role, any other number adds nobody.
use Rattle.std.proofs.Common.{refl, sym, ◌∙◌}
use Rattle.masks.specs.Masks.{linked_members}
use Rattle.masks.proofs.Masks.{linked-more, linked-not}
use Rattle.masks.proofs.linked_members.Goals.{then-has, else-has}
use Rattle.masks.proofs.linked_members.Goals as goal

pub loop-j-init : goal.loop-j-init
unfolding linked_members
loop-j-init c = refl

pub loop-j-preserved : goal.loop-j-preserved
loop-j-preserved c =
    let so_far = c.loop-j.invariant in
    let told = sym c.has.ensures in
    elim c.if-has.branch [
      | then-has w ↦ w.found-is ∙ linked-more _ _ _ _ _ _ _ so_far _ w.link_cell.ensures.0 (told ∙ w.if-has.true)
      | else-has w ↦ w.found-is ∙ linked-not _ _ _ _ _ _ _ so_far (told ∙ w.if-has.false)
    ]
