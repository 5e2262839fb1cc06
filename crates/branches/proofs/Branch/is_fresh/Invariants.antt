-- The goals so far are others.
use Rattle.std.proofs.Common.{◌≡◌, true, reverse, take}
use Rattle.derivation.specs.Rules.{fresh}
use Rattle.branches.proofs.Branch.is_fresh.Given as goal

abbrev pub invariant-loop-other : goal.invariant-loop-other
invariant-loop-other l = fresh (reverse (take l.other-index l.other-items)) l.goal ≡ true
