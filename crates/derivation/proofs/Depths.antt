-- The depth of a valid query is at least one level, and a branch has room for all of them.
use Prim.Native.Nat.{◌≤◌}
use borrow.Author.Tests.{leb-true}
use Rattle.sets.proofs.Tests.{and_first, and_second}
use Rattle.table.specs.Limits.{most_depth}
use Rattle.table.specs.Checks.{Valid, query_outcome_to, within}
use Rattle.table.specs.declared.Query.{Query}
use Rattle.table.proofs.Stages.{demand-true, then-second}

pub depth-some : (q : Query) → Valid q → 1 ≤ q.depth
unfolding query_outcome_to within
depth-some q valid =
    let e1 = then-second _ _ 0 valid in
    let e2 = then-second _ _ 0 e1 in
    let e3 = then-second _ _ 0 e2 in
    leb-true _ _ (and_first _ _ (demand-true _ 8 4 0 e3))

pub depth-fits : (q : Query) → Valid q → q.depth ≤ most_depth
unfolding query_outcome_to within
depth-fits q valid =
    let e1 = then-second _ _ 0 valid in
    let e2 = then-second _ _ 0 e1 in
    let e3 = then-second _ _ 0 e2 in
    leb-true _ _ (and_second _ _ (demand-true _ 8 4 0 e3))
