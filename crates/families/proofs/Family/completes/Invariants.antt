-- No set passed completes the set.
use Rattle.std.proofs.Common.{◌≡◌, bit_or}
use Rattle.families.specs.Families.{in_family}
use Rattle.families.proofs.Stepping.{Sought}
use Rattle.families.proofs.Family.completes.Given as goal

abbrev pub invariant-loop-more : goal.invariant-loop-more
invariant-loop-more l =
    (l.more-iterator.family ≡ l.fn.later) × Sought (λ Z. in_family l.self (bit_or l.set Z)) l.fn.later l.more-iterator.from
