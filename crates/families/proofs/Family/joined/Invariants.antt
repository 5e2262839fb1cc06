-- The unions with each set passed are there.
use Rattle.std.proofs.Common.{◌≡◌}
use Rattle.families.specs.Families.{raises}
use Rattle.families.proofs.Stepping.{Gathered}
use Rattle.families.proofs.Family.joined.Given as goal

abbrev pub invariant-loop-set : goal.invariant-loop-set
invariant-loop-set l =
    (l.set-iterator.family ≡ l.fn.self) × Gathered (raises l.other) l.fn.self l.set-iterator.from l.all
