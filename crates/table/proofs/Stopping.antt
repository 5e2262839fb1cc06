-- The table's rows and the request's rows: the checks refuse with their numbers alone, and accept with nothing to return.
use mathlib.Core.Path.{◌≡◌, refl, sym}
use mathlib.Core.List.{List}
use mathlib.Core.Bool.{Bool, true, false}
use mathlib.Core.Logic.{inl, inr, ⊎_elim}
use Prim.Native.Nat.{ℕ}
use native.Mathlib.Omega.{arith}
use Rattle.table.specs.Outcome.{Outcome, ◌and_then◌, demand, demand_each}
use Rattle.table.specs.Outcome.Outcome.{accepted, refused}
use Rattle.table.specs.Checks.{RequestRow, TableRow, head_outcome, query_outcome, query_outcome_to, request_outcome}
use Rattle.table.specs.Checks.{table_outcome, table_outcome_to}
use Rattle.table.specs.Checks.{good_cell, good_chain, good_credential, good_edge, good_mark}
use Rattle.table.specs.Layout.{automata, cells, credentials, edges}
use Rattle.table.specs.declared.Query.{Query}
use Rattle.table.proofs.Stages.{each-refused, each-value, refused-accepted, then-refused, then-second}

-- a stage of checks: what passes has the value 0, and what stops has the number of one of these rows
pub record Stage (Rows : ℕ → Type 0) (o : Outcome) : Type 0 where
  pub value : (v : ℕ) → o ≡ accepted v → v ≡ 0
  pub row : (number position : ℕ) → o ≡ refused number position → Rows number

module _ {Rows : ℕ → Type 0} where
  pub stage-demand : (p : Bool) (number position : ℕ) → Rows number → Stage Rows (demand p number position)
  unfolding demand
  stage-demand true number position own =
      record { value = λ v e. cc; row = λ n at e. absurd (refused-accepted (sym e)) }
  stage-demand false number position own =
      record { value = λ v e. absurd (refused-accepted e); row = λ n at e. let same : number ≡ n = cc in rw same at own }

  pub stage-each : (ok : ℕ → Bool) (n number : ℕ) → Rows number → Stage Rows (demand_each ok n number)
  stage-each ok n number own =
      record {
        value = each-value ok n number;
        row = λ m at e. let same = (each-refused ok number n m at e).0 in rw (← same) own;
      }

  pub stage_then : {a b : Outcome} → Stage Rows a → Stage Rows b → Stage Rows (a and_then b)
  stage_then {a} {b} s l =
      record {
        value = λ v e. l.value v (then-second a b v e);
        row = λ n at e. ⊎_elim (s.row n at) (λ (w, passed, later). l.row n at later) (then-refused a b n at e);
      }

  -- a stage of some rows is one of more
  stage-more : {More : ℕ → Type 0} {o : Outcome} → ((number : ℕ) → Rows number → More number) → Stage Rows o → Stage More o
  stage-more more s = record { value = s.value; row = λ n at e. more n (s.row n at e) }

pub table-stage : (t : List ℕ) → Stage TableRow (table_outcome t)
unfolding table_outcome_to head_outcome
table-stage t =
    stage_then
    (stage_then (stage-demand _ 1 0 (inl (omega arith, omega arith)))
    (stage_then (stage-demand _ 2 0 (inl (omega arith, omega arith))) (stage-demand _ 3 0 (inl (omega arith, omega arith)))))
    (stage_then (stage-each (good_credential t) (credentials t) 4 (inl (omega arith, omega arith)))
    (stage_then (stage-each (good_cell t) (cells t) 5 (inl (omega arith, omega arith)))
    (stage_then (stage-each (good_chain t) (credentials t) 6 (inl (omega arith, omega arith)))
    (stage_then (stage-each (good_edge t) (edges t) 7 (inl (omega arith, omega arith)))
    (stage-each (good_mark t) (automata t) 17 (inr refl))))))

query-stage : (q : Query) → Stage RequestRow (query_outcome q)
unfolding query_outcome_to
query-stage q = stage_then (field _ 1) (stage_then (field _ 2) (stage_then (field _ 3) (field _ 4)))
  where
    field : (p : Bool) (at : ℕ) → Stage RequestRow (demand p 8 at)
    field p at = stage-demand p 8 at (inr refl)

pub request-stage : (t : List ℕ) (q : Query) → Stage RequestRow (request_outcome t q)
unfolding request_outcome
request-stage t q = stage_then (stage-more (λ number own. inl own) (table-stage t)) (query-stage q)
