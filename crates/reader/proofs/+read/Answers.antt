-- The node is entered, then its children are read one by one.
use Rattle.std.proofs.Common.{refl, ap, arith, length}
use Rattle.reader.proofs.Onward.{child-stops, children-read, entered-node, kept-down, left, node-credential, node-halts, node-level}
use Rattle.reader.proofs.Onward.{node-long, node-place, onward-goes, onward-starts}
use Rattle.reader.proofs.+read.Goals as goal

pub returns-in-Err-clause-told : goal.returns-in-Err-clause-told
returns-in-Err-clause-told t c =
    node-halts c.in-Err.ensures refl

pub overflow_sub-place : goal.overflow_sub-place
overflow_sub-place t c =
    let here = entered-node c.requires.well_formed c.in-Ok.ensures in
    omega (arith, c.wide-place.ensures.0, node-credential here)

pub ask-requires-clause-place_bound : goal.ask-requires-clause-place_bound
ask-requires-clause-place_bound t c =
    let here = entered-node c.requires.well_formed c.in-Ok.ensures in
    node-place here c.wide-place.ensures.0

pub moved-requires-clause-place_bound : goal.moved-requires-clause-place_bound
moved-requires-clause-place_bound t c =
    let here = entered-node c.requires.well_formed c.in-Ok.ensures in
    node-place here c.wide-place.ensures.0

pub with_credential-tally-requires : goal.with_credential-tally-requires
with_credential-tally-requires t c =
    let here = entered-node c.requires.well_formed c.in-Ok.ensures in
    node-credential here

pub with-deeper-requires : goal.with-deeper-requires
with-deeper-requires t c =
    let here = entered-node c.requires.well_formed c.in-Ok.ensures in
    omega (arith, node-level here)

pub slice_bounds-rest-count : goal.slice_bounds-rest-count
slice_bounds-rest-count t c =
    let here = entered-node c.requires.well_formed c.in-Ok.ensures in
    node-long here

pub slice_bounds-rest-start : goal.slice_bounds-rest-start
slice_bounds-rest-start t c =
    let here = entered-node c.requires.well_formed c.in-Ok.ensures in
    node-long here

pub overflow_sub-levels : goal.overflow_sub-levels
overflow_sub-levels t c =
    let here = entered-node c.requires.well_formed c.in-Ok.ensures in
    node-level here

pub returns-then-len-eq0-clause-told : goal.returns-then-len-eq0-clause-told
returns-then-len-eq0-clause-told t c =
    let here = entered-node c.requires.well_formed c.in-Ok.ensures in
    let down = kept-down here c.wide-place.ensures.0 _ c.moved.ensures refl c.with_credential-tally.ensures c.len.ensures
    c.after_node-tally.ensures refl in
    children-read here down onward-starts (omega (arith, c.len-2.ensures, c.if-len-eq0.true))

pub read-told-requires : goal.read-told-requires
read-told-requires t c =
    let here = entered-node c.requires.well_formed c.in-Ok.ensures in
    let down = kept-down here c.wide-place.ensures.0 _ c.moved.ensures refl c.with_credential-tally.ensures c.len.ensures
    c.after_node-tally.ensures c.with-deeper.ensures in
    let so_far = rw c.as_slice-next-items.ensures at c.loop-next.invariant.so_far in
    let level = node-level here in
    let deeper = ap length c.with-deeper.ensures in
    (omega arith, (c.requires.well_formed, (omega arith, (omega (arith, left here down so_far), c.loop-next.invariant.index))))

pub returns-in-Err-told-clause-told : goal.returns-in-Err-told-clause-told
returns-in-Err-told-clause-told t c =
    let here = entered-node c.requires.well_formed c.in-Ok.ensures in
    let down = kept-down here c.wide-place.ensures.0 _ c.moved.ensures refl c.with_credential-tally.ensures c.len.ensures
    c.after_node-tally.ensures c.with-deeper.ensures in
    let so_far = rw c.as_slice-next-items.ensures at c.loop-next.invariant.so_far in
    let child = rw c.as_slice-next-items.ensures at (rw c.in-Err-told.is at c.read-told.ensures.told) in
    let less = rw c.as_slice-next-items.ensures at c.loop-next-test.true in
    child-stops here down so_far less child

pub loop-next-preserved : goal.loop-next-preserved
loop-next-preserved t c =
    record {
      so_far = onward-goes c.loop-next.invariant.so_far c.loop-next-test.true (rw c.in-Ok-told.is at c.read-told.ensures.told);
      index = c.read-told.ensures.arcs;
    }

pub returns-clause-told : goal.returns-clause-told
returns-clause-told t c =
    let here = entered-node c.requires.well_formed c.in-Ok.ensures in
    let down = kept-down here c.wide-place.ensures.0 _ c.moved.ensures refl c.with_credential-tally.ensures c.len.ensures
    c.after_node-tally.ensures c.with-deeper.ensures in
    let so_far = rw c.as_slice-next-items.ensures at c.loop-next.invariant.so_far in
    let all = rw c.as_slice-next-items.ensures at c.loop-next-test.false in
    children-read here down so_far all
