-- An input of whole numbers is listed by them, and another is refused as a short head.
use Rattle.std.proofs.Common.{arith}
use Rattle.decoding.proofs.Decoded.{decoded-first}
use Rattle.input.proofs.Inputs.{answers-unwhole, answers-whole, odd-unwhole, read-few, read_length, short-unwhole, whole}
use Rattle.input.proofs.list_input.Goals as goal

pub returns-then-read-half : goal.returns-then-read-half
returns-then-read-half c =
    rw c.into.ensures (answers-unwhole _ _ c.counted-read.ensures _ (odd-unwhole _ c.if-read-half.true))

pub returns-then-half-lt-QUERY_SIZE : goal.returns-then-half-lt-QUERY_SIZE
returns-then-half-lt-QUERY_SIZE c =
    rw c.into-then-half-lt-QUERY_SIZE.ensures
    (answers-unwhole _ _ c.counted-read.ensures _ (short-unwhole _ c.if-read-half.false c.if-half-lt-QUERY_SIZE.true))

pub decode-requires : goal.decode-requires
decode-requires c = read-few _ _ c.counted-read.ensures

pub slice_bounds-numbers-end : goal.slice_bounds-numbers-end
slice_bounds-numbers-end c = omega (arith, read-few _ _ c.counted-read.ensures, c.decode.auto.numbers)

pub slice_bounds-list_numbers-end : goal.slice_bounds-list_numbers-end
slice_bounds-list_numbers-end c = read_length _ _ c.counted-read.ensures _ c.decode.auto.numbers

pub returns : goal.returns
returns c =
    answers-whole _ _ c.counted-read.ensures _ _ _ _ (whole _ c.if-read-half.false c.if-half-lt-QUERY_SIZE.false)
    (decoded-first _ _ _ c.decode.ensures) c.list_numbers.ensures
