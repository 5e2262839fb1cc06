-- A principal is looked at as a middle, any other number changes nothing.
use Rattle.std.proofs.Common.{sym, ◌∙◌}
use Rattle.relevance.proofs.Reaching.{linked-more, linked-none, linked-not}
use Rattle.relevance.proofs.with_links.Goals.{then-is_person, else-is_person}
use Rattle.relevance.proofs.with_links.Goals as goal

pub loop-j-init : goal.loop-j-init
loop-j-init c = linked-none _ _ _ _

pub loop-j-preserved : goal.loop-j-preserved
loop-j-preserved c =
    let so_far = c.loop-j.invariant in
    elim c.if-is_person.branch [
      | then-is_person w ↦ linked-more _ _ _ (w.more-is ∙ w.with-more.ensures) _ _ _ _ _ w.link_cell.ensures.0 so_far
      | else-is_person w ↦ linked-not _ _ _ _ _ _ _ w.more-is (sym c.is_person.ensures ∙ w.if-is_person.false) so_far
    ]
