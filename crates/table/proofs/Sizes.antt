-- What the head's checks give: each count inside its limit, and the length that the head says.
use mathlib.Core.Path.{◌≡◌}
use mathlib.Core.List.{List}
use mathlib.Core.Bool.{true}
use Prim.Native.Nat.{ℕ, ◌≤◌}
use lib.ListN.{length}
use borrow.Author.Tests.{leb-true, eqb-true}
use Rattle.table.specs.Outcome.Outcome.{accepted}
use Rattle.table.specs.Layout.{head_size}
use Rattle.table.specs.Holding.{Counted, Sized}
use Rattle.table.specs.Checks.{counts_ok, head_outcome}
use Rattle.sets.proofs.Tests.{and_parts}
use Rattle.table.proofs.Stages.{then-first, then-second, demand-true}

pub counted : (t : List ℕ) → head_size ≤ length t → counts_ok t ≡ true → Counted t
unfolding counts_ok
counted t h e =
    let (n, (q, (a, m))) =
    and_parts (leb-true _ _) (and_parts (leb-true _ _) (and_parts (leb-true _ _) (leb-true _ _))) e in
    record { head = h; few_credentials = n; few_cells = q; few_automata = a; few_edges = m }

pub sized : (t : List ℕ) (v : ℕ) → head_outcome t ≡ accepted v → Sized t
unfolding head_outcome
sized t v e =
    let later = then-second _ _ v e in
    record {
      counted =
          counted t (leb-true _ _ (demand-true _ 1 0 _ (then-first _ _ v e).1))
          (demand-true _ 2 0 _ (then-first _ _ v later).1);
      exact = eqb-true _ _ (demand-true _ 3 0 _ (then-second _ _ v later));
    }
