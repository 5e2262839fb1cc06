-- What holds of the list of a `Few`: its length is the number of its items, and there is room for them.
use Rattle.std.proofs.Common.{◌≡◌, ℕ, ◌≤◌, length, arith}
use Rattle.std.proofs.lemmas.List.{length-take-le}
use Rattle.few.specs.Listed.{listed}
use Rattle.few.specs.declared.Few.{Few}

module _ {T : Type 0} {N : ℕ} (few : Few T N) where
  pub listed-length : length (listed few) ≡ few.len
  unfolding listed
  listed-length = length-take-le few.len few.items (omega arith)

  -- no more than there is room for
  pub listed-inside : length (listed few) ≤ N
  listed-inside = omega (arith, listed-length)
