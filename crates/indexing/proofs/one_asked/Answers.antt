-- `indexing::one_asked` meets its contract: kinds 2 and 3 ask one role, kind 1 names one principal, and there is no other kind but
-- that of chains.
use Rattle.table.proofs.Reading.{is-number, not-number}
use Rattle.indexing.proofs.Indexing.{one-containment, one-linking, one-membership}
use Rattle.indexing.proofs.one_asked.Goals as goal
use Rattle.indexing.proofs.one_asked.Goals.{then-is-2, else-is-2}

pub returns-then-is : goal.returns-then-is
returns-then-is c = one-membership _ _ _ (is-number c.is.ensures c.if-is.true) c.person_at.ensures

pub returns : goal.returns
returns c =
    let (whole, unchained) = c.requires.whole in
    let other = not-number c.is.ensures c.if-is.false in
    elim c.if-is-2.branch [
      | then-is-2 w ↦ one-linking _ _ _ (is-number c.is-2.ensures w.if-is-2.true) (rw w.role-is at c.role_at.ensures)
      | else-is-2 w ↦ one-containment _ _ _ whole unchained other (not-number c.is-2.ensures w.if-is-2.false) (rw w.role-is at c.role_at.ensures)
    ]
