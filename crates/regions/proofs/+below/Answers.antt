-- `regions::below` meets its contract: the region is done with, or it is split by a free credential.
use Rattle.std.proofs.Common.{arith}
use Rattle.regions.proofs.Regions.{decided-splits, ended-from, in_held, in-ready, left-few, out-held, out-ready}
use Rattle.regions.proofs.Regions.{rest-less, splits-ended}
use Rattle.regions.proofs.+below.Goals as goal

pub highest-next-requires : goal.highest-next-requires
highest-next-requires t c =
    let few = c.args.request.now.prepared.well_formed.sized.counted.few_credentials in
    (c.if-among-eq0.false, left-few c.requires.ready c.decide-among.ensures few)

pub below-requires : goal.below-requires
below-requires t c =
    let pre = c.requires in
    let splits = decided-splits pre.ready c.decide-among.ensures c.if-among-eq0.false pre.held _ c.highest-next.ensures.0 in
    let few = c.highest-next.ensures.1 in (
      omega (arith, rest-less (omega arith) splits),
      (pre.bears, (out-ready (omega arith) splits, out-held (omega arith) splits)),
    )

pub below-requires-2 : goal.below-requires-2
below-requires-2 t c =
    let pre = c.requires in
    let splits = decided-splits pre.ready c.decide-among.ensures c.if-among-eq0.false pre.held _ c.highest-next.ensures.0 in
    let few = c.highest-next.ensures.1 in (
      omega (arith, rest-less (omega arith) splits),
      (
        pre.bears,
        (
          in-ready (omega arith) splits c.below.ensures c.with-more.ensures,
          in_held (omega arith) splits c.below.ensures c.with-more.ensures,
        ),
      ),
    )

pub returns : goal.returns
returns t c =
    let pre = c.requires in
    let splits = decided-splits pre.ready c.decide-among.ensures c.if-among-eq0.false pre.held _ c.highest-next.ensures.0 in
    let few = c.highest-next.ensures.1 in
    ended-from c.decide-among.ensures c.if-among-eq0.false
    (splits-ended (omega arith) splits c.below.ensures c.with-more.ensures c.below-2.ensures)
