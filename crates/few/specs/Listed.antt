-- Which list a `Few` is: its first `len` items.
use Rattle.std.specs.Prelude.{ℕ, List, take}
use Rattle.few.specs.declared.Few.{Few}

unfoldable pub listed : {T : Type 0} {N : ℕ} → Few T N → List T
listed few = take few.len few.items
