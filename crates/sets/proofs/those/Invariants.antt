-- The set has those of the members below k that pass the test.
use Rattle.std.proofs.Common.{◌≡◌, ℕ, ◌<◌, Bool}
use Rattle.sets.specs.Sets.{set_of}
use Rattle.sets.proofs.those.Given as goal

abbrev pub invariant-loop-k : goal.invariant-loop-k
invariant-loop-k g l =
    (p : ℕ → Bool) → ((k : ℕ) → k < l.fn.n → (told : Bool) → g.F.Fn.post l.fn.test (k, tt) told → told ≡ p k)
    → g.S.Width.number l.set ≡ set_of p l.k
