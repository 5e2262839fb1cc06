-- One bit is added.
use Rattle.std.proofs.Common.{arith, rules}
use Rattle.std.proofs.Math.Pow.{pow-lt}
use Rattle.std.proofs.lemmas.Nat.{or_lt}
use Rattle.sets.proofs.Members.{one_bit}
use Rattle.sets.proofs.with.Goals as goal

pub overflow_cast-i : goal.overflow_cast-i
overflow_cast-i g c = let narrow = g.met.S.Width.at_most_wide in search rules

pub overflow_shl-i : goal.overflow_shl-i
overflow_shl-i g c = let narrow = g.met.S.Width.at_most_wide in omega arith

pub narrow-requires : goal.narrow-requires
narrow-requires g c =
    let narrow = g.met.S.Width.at_most_wide in
    rw (one_bit 32 c.args.i (omega arith)) (or_lt _ _ _ c.wide.ensures.inside (pow-lt c.requires))

pub returns : goal.returns
returns g c =
    let narrow = g.met.S.Width.at_most_wide in
    rw (c.narrow.ensures, one_bit 32 c.args.i (omega arith), c.wide.ensures.same)
