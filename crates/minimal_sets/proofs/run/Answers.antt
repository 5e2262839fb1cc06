-- What was read is what counts of the input.
use Rattle.std.proofs.Common.{◌≡◌, ◌≤◌, length, rules, arith, length-take-le}
use Rattle.std.specs.Io.KnownBytes.{Appends}
use Rattle.minimal_sets.proofs.Counted.{prints_read}
use Rattle.minimal_sets.proofs.run.Goals as goal

pub returns : goal.returns
returns g c =
    let sized : length c.read_input.new.input ≡ 4096 = search rules in
    let within : c.in-Ok.count ≤ length c.read_input.new.input = c.in-Ok.ensures.bound.0 in
    prints_read (Appends _ _) c.in-Ok.count _ _ _ (length-take-le _ _ within) (omega arith) c.in-Ok.ensures.bytes
    (λ below. c.in-Ok.ensures.end (omega arith)) c.in-Ok-print_answer.ensures
