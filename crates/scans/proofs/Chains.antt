-- Row 6: what the walk along a chain tells of it, and which credentials have one. Rows 4 and 5 have passed before, so that every
-- cell on the way is there.
use mathlib.Core.Path.{◌≡◌, refl, sym, ap, ◌∙◌}
use mathlib.Core.List.{List}
use mathlib.Core.Bool.{true, false}
use Prim.Native.Nat.{ℕ, ◌+◌, ◌≤◌, ◌<◌}
use native.Mathlib.Omega.{arith}
use lib.ListN.{length}
use borrow.Author.Tests.{ne_eqb, le-leb, lt-leb}
use Rattle.sets.specs.Logic.{◌and◌, pick}
use Rattle.sets.proofs.Tests.{and_none}
use Rattle.table.specs.Limits.{most_parts, least_parts}
use Rattle.table.specs.Outcome.{demand}
use Rattle.table.specs.Outcome.Outcome.{accepted}
use Rattle.table.specs.Layout.{Numbered, cell, cells, chain, credential, credentials}
use Rattle.table.specs.Checks.{within, chain_ok, good_cell, good_chain, good_credential}
use Rattle.table.specs.declared.Credential.{Credential}
use Rattle.table.proofs.Stages.{each_all, each-ok}
use Rattle.table.proofs.Fields.{credential-range, cell-range}
use Rattle.table.proofs.Chains.{Walked, walk_more, walk_ends}
use Rattle.scans.specs.Rows.{FirstBad, row_outcome}
use Rattle.scans.specs.declared.Row.TheVariants as row

module _ (t : List ℕ) where
  -- a kind 4 credential's first cell is there, and so is every next one but 0
  pub first-inside : row_outcome t row.Credentials 4 ≡ accepted 0 → (i : ℕ) → Numbered (credentials t) i → {c : Credential}
      → c ≡ credential t i → c.kind ≡ 4 → c.first ≤ cells t
  unfolding row_outcome
  first-inside e i h read four =
      let range = credential-range t i (each-ok (good_credential t) 4 (credentials t) 0 e i h) in
      rw read (range.intersection (ap (λ (x : Credential). x.kind) (sym read) ∙ four)).last

  pub next-inside : row_outcome t row.Cells 5 ≡ accepted 0 → (j : ℕ) → Numbered (cells t) j → (cell t j).next ≤ cells t
  unfolding row_outcome
  next-inside e j h = (cell-range t j (each-ok (good_cell t) 5 (cells t) 0 e j h)).next

module _ (t : List ℕ) (first met j : ℕ) (walked : Walked t first met j) where
  -- a fifth cell is met
  pub too_long : (j ≡ 0 → ⊥) → most_parts < met + 1 → chain_ok t first ≡ false
  unfolding chain_ok within
  too_long h over =
      let more = walk_more t first met j walked h in
      and_none _ (lt-leb (length (chain t first)) most_parts (omega arith))

  -- the chain has ended with `met` cells
  pub too_short : j ≡ 0 → met < least_parts → chain_ok t first ≡ false
  unfolding chain_ok within ◌and◌
  too_short e under = rw (walk_ends t first met j walked e, lt-leb least_parts met under)

  pub long-enough : j ≡ 0 → least_parts ≤ met → chain_ok t first ≡ true
  unfolding chain_ok within ◌and◌
  long-enough e enough =
      rw (walk_ends t first met j walked e, le-leb least_parts met enough, le-leb met most_parts walked.few)

-- credential i, which the code has read as c, has a chain where its kind is 4, and only there
module _ (t : List ℕ) (i : ℕ) {c : Credential} (read : c ≡ credential t i) where
  pub chain-of-kind-4 : c.kind ≡ 4 → good_chain t i ≡ chain_ok t c.first
  unfolding good_chain pick
  chain-of-kind-4 h = rw (← read, h)

  pub no-chain : (c.kind ≡ 4 → ⊥) → good_chain t i ≡ true
  unfolding good_chain pick
  no-chain h = rw (← read, ne_eqb c.kind 4 h)

-- without part cells no credential has a chain
pub no_cells : (t : List ℕ) → row_outcome t row.Credentials 4 ≡ accepted 0 → cells t ≡ 0 → FirstBad (good_chain t) (credentials t) 0
unfolding row_outcome demand
no_cells t e none number =
    sym (each_all (good_chain t) number (credentials t) (λ i h. no-chain t i refl (λ four.
    let range = (credential-range t i (each-ok (good_credential t) 4 (credentials t) 0 e i h)).intersection four in
    omega arith)))
