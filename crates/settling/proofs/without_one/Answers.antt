-- `settling::without_one` meets its contract. Assumes nothing.
use Prim.Native.Nat.{◌-◌}
use native.Mathlib.Omega.{arith}
use Rattle.sets.proofs.Members.{one_bit}
use Rattle.settling.proofs.without_one.Goals as goal

pub returns : goal.returns
returns c =
    let k = c.args.k in
    rw (one_bit 16 (k - 1) (omega (arith, c.requires))) at c.without.ensures
