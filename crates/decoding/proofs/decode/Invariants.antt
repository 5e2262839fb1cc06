-- The first numbers are in their places, the rest are still in the bytes that are left, and the other places are as before.
use Rattle.std.proofs.Common.{◌≡◌}
use Rattle.decoding.proofs.Decoded.{Decoded}
use Rattle.decoding.proofs.decode.Given as goal

abbrev pub invariant-loop-i : goal.invariant-loop-i
invariant-loop-i l =
    (l.i-iterator.iter.size ≡ 2)
    × Decoded l.fn.bytes l.initial.numbers l.numbers l.i-iterator.iter.rest.now l.i-iterator.count
