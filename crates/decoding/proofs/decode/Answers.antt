-- Pair by pair, until fewer than two bytes are left.
use mathlib.Core.Path.{◌∙◌}
use Rattle.std.proofs.Common.{rules, arith}
use Rattle.decoding.proofs.Decoded.{decoded-all, decoded-next, decoded-none}
use Rattle.decoding.proofs.decode.Goals as goal

pub loop-i-init : goal.loop-i-init
loop-i-init c = (search rules, decoded-none _ (search rules) (search rules))

pub loop-i-preserved : goal.loop-i-preserved
loop-i-preserved c =
    let ((same, (first, long), rem), place, next, fits) = c.in-Some.ensures.steps in
    let (two, so_far) = c.loop-i.invariant in
    let room = c.requires in (
      same ∙ two,
      rw (place, next) (decoded-next so_far c.in-Some.pair.now first (long ∙ two) c.from_le_bytes.ensures (omega arith)),
    )

pub returns : goal.returns
returns c =
    let ((same, (few, last), rem), place) = c.in-None.ensures.steps in
    let (two, so_far) = c.loop-i.invariant in
    decoded-all so_far (omega arith)
