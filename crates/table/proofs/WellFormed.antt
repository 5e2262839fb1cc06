-- What an accepted table gives its readers: its size, every record's ranges, chains of 2 to 4 cells, and marks 0 or 1.
use mathlib.Core.Path.{◌≡◌, ap, ◌∙◌}
use mathlib.Core.List.{List}
use mathlib.Core.Bool.{true}
use Prim.Native.Nat.{ℕ, suc, ◌≤◌}
use native.Mathlib.Omega.{arith}
use borrow.Author.Tests.{leb-true}
use Rattle.sets.specs.Logic.{pick}
use Rattle.table.specs.Outcome.{demand_each}
use Rattle.table.specs.Outcome.Outcome.{accepted}
use Rattle.table.specs.Limits.{most_parts}
use Rattle.table.specs.Layout.{Numbered, automata, automaton, cell, cells, cells_from, chain}
use Rattle.table.specs.Layout.{credential, credentials, edge, edges}
use Rattle.table.specs.Holding.{Sized, WellFormed}
use Rattle.table.specs.Checks.{AcceptedTable, Valid, chain_ok, good_credential, good_cell, good_chain, good_edge, good_mark}
use Rattle.table.specs.Checks.{head_outcome, mark_ok, query_outcome, request_outcome, table_outcome, table_outcome_to}
use Rattle.table.specs.declared.Query.{Query}
use Rattle.table.proofs.Stages.{then-first, then-second, each-ok, each-value}
use Rattle.table.proofs.Sizes.{sized}
use Rattle.table.proofs.Fields.{CredentialRange, CellRange, EdgeRange, credential-range, cell-range, edge-range}
use Rattle.table.proofs.Chains.{ChainRange, cells-settled, chain-range}

-- every check has passed, and what it passes with is 0
record Passed (t : List ℕ) (v : ℕ) : Type 0 where
  head : Sized t
  credential : (i : ℕ) → Numbered (credentials t) i → good_credential t i ≡ true
  cell : (j : ℕ) → Numbered (cells t) j → good_cell t j ≡ true
  chain : (i : ℕ) → Numbered (credentials t) i → good_chain t i ≡ true
  edge : (k : ℕ) → Numbered (edges t) k → good_edge t k ≡ true
  mark : (k : ℕ) → Numbered (automata t) k → good_mark t k ≡ true
  value : v ≡ 0

every-passed : (t : List ℕ) (v : ℕ) → table_outcome t ≡ accepted v → Passed t v
unfolding table_outcome_to
every-passed t v e =
    let credentials-on = then-second (head_outcome t) _ v e in
    let cells-on = then-second (demand_each (good_credential t) (credentials t) 4) _ v credentials-on in
    let chains-on = then-second (demand_each (good_cell t) (cells t) 5) _ v cells-on in
    let edges-on = then-second (demand_each (good_chain t) (credentials t) 6) _ v chains-on in
    let marks-on = then-second (demand_each (good_edge t) (edges t) 7) _ v edges-on in
    record {
      head = sized t _ (then-first (head_outcome t) _ v e).1;
      credential = each-ok (good_credential t) 4 (credentials t) _ (then-first _ _ v credentials-on).1;
      cell = each-ok (good_cell t) 5 (cells t) _ (then-first _ _ v cells-on).1;
      chain = each-ok (good_chain t) 6 (credentials t) _ (then-first _ _ v chains-on).1;
      edge = each-ok (good_edge t) 7 (edges t) _ (then-first _ _ v edges-on).1;
      mark = each-ok (good_mark t) 17 (automata t) v marks-on;
      value = each-value (good_mark t) (automata t) 17 v marks-on;
    }

pub well-formed : (t : List ℕ) → AcceptedTable t → WellFormed t
well-formed t e = record { accepted = e; sized = (every-passed t 0 e).head }

module _ (t : List ℕ) (wf : WellFormed t) where
  passed : Passed t 0
  passed = every-passed t 0 wf.accepted

  pub wf-credential : (i : ℕ) → Numbered (credentials t) i → CredentialRange (cells t) (automata t) (credential t i)
  wf-credential i h = credential-range t i (passed.credential i h)

  pub wf-cell : (j : ℕ) → Numbered (cells t) j → CellRange (cells t) (cell t j)
  wf-cell j h = cell-range t j (passed.cell j h)

  pub wf-edge : (k : ℕ) → Numbered (edges t) k → EdgeRange (automata t) (edge t k)
  wf-edge k h = edge-range t k (passed.edge k h)

  pub wf-mark : (k : ℕ) → Numbered (automata t) k → (automaton t k).mark ≤ 1
  unfolding good_mark mark_ok
  wf-mark k h = leb-true _ _ (passed.mark k h)

  pub wf-chain-ok : (i : ℕ) → Numbered (credentials t) i → (credential t i).kind ≡ 4 → chain_ok t (credential t i).first ≡ true
  unfolding good_chain pick
  wf-chain-ok i h four = rw four at (passed.chain i h)

  pub wf-chain : (i : ℕ) → Numbered (credentials t) i → (credential t i).kind ≡ 4 → ChainRange t (credential t i).first
  wf-chain i h four = chain-range t (credential t i).first (wf-chain-ok i h four)

  -- the chain is whole: reading on gives no further cell. `chain` reads five cells at most, and this says that nothing is lost
  pub wf-chain-whole : (i : ℕ) → Numbered (credentials t) i → (credential t i).kind ≡ 4 → (big : ℕ) → suc most_parts ≤ big
      → cells_from (cell t) big (credential t i).first ≡ chain t (credential t i).first
  wf-chain-whole i h four big le =
      let few = (wf-chain i h four).most in
      cells-settled t (suc most_parts) big (credential t i).first le (omega arith)

-- where the request's rows find nothing, the table is accepted and the query valid
pub request-accepted : (t : List ℕ) (q : Query) → request_outcome t q ≡ accepted 0 → WellFormed t × Valid q
unfolding request_outcome
request-accepted t q e =
    let (v, table) = then-first (table_outcome t) (query_outcome q) 0 e in
    let zero = table ∙ ap accepted (every-passed t v table).value in
    (well-formed t zero, then-second (table_outcome t) (query_outcome q) 0 e)
