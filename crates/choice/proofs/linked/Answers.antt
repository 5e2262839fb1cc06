-- Both cells of the index are read, and the middle's number.
use Rattle.choice.proofs.Nodes.{made-linked}
use Rattle.choice.proofs.linked.Goals as goal

pub returns : goal.returns
returns c =
    made-linked _ c.args.ground.now.index.now _ _ _ _ c.credential-middle.ensures c.asked_cell-first.ensures.0
    c.link_cell-second.ensures.0 c.link_asked.ensures _ c.made.ensures
