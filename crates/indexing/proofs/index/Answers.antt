-- `indexing::index` meets its contract: the cells of the first i credentials are filled, and the query's last.
use Rattle.std.proofs.Common.{◌≡◌, ◌∙◌, arith}
use Rattle.table.specs.Layout.{credentials}
use Rattle.table.proofs.Reading.{not-number}
use Rattle.members.proofs.Reading.{whole}
use Rattle.indexing.proofs.Indexing.{filled_next, filled_none, index-made, links-none, links-written}
use Rattle.indexing.proofs.index.Goals as goal
use Rattle.indexing.proofs.index.Goals.{then-is, else-is}

pub loop-i-init : goal.loop-i-init
loop-i-init c = filled_none _

pub asked-requires : goal.asked-requires
asked-requires c =
    record {
      well_formed = c.requires;
      whole = whole _ c.requires _ (record { first = omega arith; last = omega arith }) _ c.credential-credential.ensures;
    }

pub put-requires : goal.put-requires
put-requires c =
    let asks = c.asked.ensures in
    record {
      entry_room = record { cells = c.loop-i.invariant.room; there = omega arith };
      small = record { defined = c.role_at.ensures.few; room = asks.room; each = asks.few };
    }

pub links-requires : goal.links-requires
links-requires c =
    record {
      well_formed = c.requires;
      entry_room = record { cells = c.put.ensures.written.room ∙ c.loop-i.invariant.room; there = omega arith };
    }

pub loop-i-preserved : goal.loop-i-preserved
loop-i-preserved c =
    let few = c.requires.sized.counted.few_credentials in
    let read = c.credential-credential.ensures in
    filled_next _ few _ (omega arith) _ read _ _ _ _ _ c.put.ensures
    (elim c.if-is.branch [
      | then-is w ↦ rw w.index-is (links-written _ _ _ _ _ w.links.ensures)
      | else-is w ↦ rw w.index-is (links-none _ _ _ _ (not-number c.is.ensures w.if-is.false))
    ])
    c.role_at.ensures c.asked.ensures c.loop-i.invariant

pub returns : goal.returns
returns c =
    let few = c.requires.sized.counted.few_credentials in
    let all : c.loop-i.i ≡ credentials c.args.table.now = omega arith in
    index-made _ _ few (rw all at c.loop-i.invariant) _ _ _ (rw c.goal_of-goal.ensures at c.role_at-2.ensures) (rw c.goal_of-goal.ensures at c.person_at.ensures)
