-- Kind 3 proves who is in a linked role, any other kind who is in the roles asked.
use Rattle.table.proofs.Reading.{is-number, not-number}
use Rattle.masks.proofs.Masks.{proved-asked, proved-linked}
use Rattle.masks.proofs.proved_by.Goals as goal

pub returns-then-not-is : goal.returns-then-not-is
returns-then-not-is c =
    proved-asked _ _ _ _ _ _ c.credential.ensures _ (not-number c.is.ensures c.if-not-is.true) c.asked_members-asked.ensures

pub returns : goal.returns
returns c =
    proved-linked _ _ _ _ _ _ c.credential.ensures _ _ (is-number c.is.ensures c.if-not-is.false) c.asked_members-asked.ensures
    c.linked_members.ensures
