-- The chain is ok, so wherever a cell is read there is room for its role.
use Rattle.std.proofs.Common.{◌≡◌, ◌<◌, length, sym, arith}
use Rattle.few.specs.Listed.{listed}
use Rattle.table.proofs.Parts.{gather-ends, gather-goes-on, gather-room, gather-starts}
use Rattle.table.proofs.WellFormed.{wf-cell}
use Rattle.table.proofs.layout.chain.Goals as goal

pub loop-j-init : goal.loop-j-init
loop-j-init c = rw c.none-roles.ensures (gather-starts _ _ c.requires.numbered.last)

pub push-requires : goal.push-requires
push-requires c = (omega arith, gather-room _ _ _ _ c.loop-j.invariant c.requires.first_value c.loop-j-test.true)

pub loop-j-preserved : goal.loop-j-preserved
loop-j-preserved c =
    let loop = c.loop-j in
    let room = gather-room _ _ _ _ loop.invariant c.requires.first_value c.loop-j-test.true in
    let inside = (wf-cell _ c.requires.well_formed loop.j (omega (arith, loop.invariant.walked.inside))).next in
    rw (c.push.ensures, c.cell-c.ensures, c.wide.ensures.0)
    (gather-goes-on _ _ _ _ loop.invariant inside c.loop-j-test.true room)

pub returns : goal.returns
returns c = gather-ends _ _ _ _ c.loop-j.invariant c.loop-j-test.false
