-- `indexing::links` meets its contract: of the first j cells those of simple memberships are written.
use Rattle.std.proofs.Common.{arith}
use Rattle.table.proofs.Reading.{not-number}
use Rattle.indexing.proofs.Indexing.{linked-next, linked-none, linked-other}
use Rattle.indexing.proofs.links.Goals as goal
use Rattle.indexing.proofs.links.Goals.{then-is, else-is}

pub loop-j-init : goal.loop-j-init
loop-j-init c = linked-none _ _ _ _

pub loop-j-preserved : goal.loop-j-preserved
loop-j-preserved c =
    let so_far = c.loop-j.invariant in
    let read = c.credential-credential.ensures in
    elim c.if-is.branch [
      | then-is w ↦ rw w.index-is (linked-next _ _ _ _ _ _ so_far _ read c.requires.entry_room (omega arith) _ w.role_at.ensures)
      | else-is w ↦ rw w.index-is (linked-other _ _ _ _ _ _ so_far _ read (not-number c.is.ensures w.if-is.false))
    ]
