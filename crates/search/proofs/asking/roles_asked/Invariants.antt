-- The first k roles are listed.
use Rattle.std.proofs.Common.{◌≡◌}
use Rattle.few.specs.Listed.{listed}
use Rattle.search.specs.Asking.{role_pairs}
use Rattle.search.proofs.asking.roles_asked.Given as goal

abbrev pub invariant-loop-k : goal.invariant-loop-k
invariant-loop-k l = listed l.asked ≡ role_pairs l.index l.person l.i l.k 0
