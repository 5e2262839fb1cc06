-- A table of the base layout, upgraded: what stands before the automata stays where it is, each automaton gets mark 0, and the
-- edges stand behind them as they did. So every check finds what it found.
use mathlib.Core.Path.{◌≡◌, refl, sym, ap, ◌∙◌}
use mathlib.Core.List.{List, ◌∷◌, append-nil}
use mathlib.Core.Bool.{true}
use Prim.Native.Nat.{ℕ, zero, suc, ◌+◌, ◌-◌, ◌*◌, ◌≤◌, ◌<◌}
use native.Mathlib.Omega.{arith}
use native.Mathlib.Decide.{dec_lt, ℕ_discrete}
use lib.Dec.{eqb}
use lib.ListN.{drop, get_or, length, length-append, length-drop, take, drop_of_length-le, get_or-append}
use lib.Seq.{get_or-append-add, get_or-drop, get_or-take, length-take-le, take_all}
use borrow.Author.Tests.{eq-eqb, eqb-true, le-leb, ne_eqb}
use Rattle.sets.specs.Logic.{pick}
use Rattle.sets.proofs.Tests.{same_test}
use Rattle.table.specs.Outcome.{Outcome, ◌and_then◌, demand_each}
use Rattle.table.specs.Outcome.Outcome.{accepted}
use Rattle.table.specs.Layout.{Numbered, automata, automata_base, cell, cells, cells_from, credential, credentials}
use Rattle.table.specs.Layout.{automaton, cell_at, credential_at, edge, edge_at, edges, number, table_length}
use Rattle.table.specs.Layout.{cell_size, credential_size, edge_size, head_size}
use Rattle.table.specs.Encoded.{credential_of, edge_of}
use Rattle.table.specs.Checks.{chain_ok, counts_ok, good_cell, good_cell_to, good_chain, good_credential, good_credential_to}
use Rattle.table.specs.Checks.{good_edge, good_edge_to, good_mark}
use Rattle.table.specs.Checks.{head_outcome, mark_ok, table_outcome_to}
use Rattle.table.specs.Upgraded.{SameRecords, Upgrading, base_automaton, base_edge, base_head_outcome, base_length}
use Rattle.table.specs.Upgraded.{base_outcome, good_base_edge, upgraded, with_marks}
use Rattle.table.proofs.Chains.{step_from, stop-at}
use Rattle.table.proofs.Fields.{cell-range, credential-range}
use Rattle.table.proofs.Marks.{marks-at, marks-behind, marks-length, marks-none, marks-short}
use Rattle.table.proofs.Stages.{demand-true, each_all, each-alike, each_last, each-ok, then-alike, then-second}

-- two comparisons agree where each follows from the other
eqb-alike : (a b c d : ℕ) → (a ≡ b → c ≡ d) → (c ≡ d → a ≡ b) → eqb a b ≡ eqb c d
eqb-alike a b c d there back =
    same_test _ _ (λ e. eq-eqb c d (there (eqb-true a b e))) (λ e. eq-eqb a b (back (eqb-true c d e)))

further : (base i j : ℕ) → base + i + j ≡ base + (i + j)
further base i j = omega arith

-- records are alike where their numbers are
module _ (u t : List ℕ) (at at' : ℕ) where
  abbrev Alike : ℕ → Type 0
  Alike size = (j : ℕ) → j < size → number u (at + j) ≡ number t (at' + j)

  first_alike : (size : ℕ) → 0 < size → Alike size → number u at ≡ number t at'
  first_alike size some same =
      let here : at + 0 ≡ at = omega arith in
      let there : at' + 0 ≡ at' = omega arith in
      rw (here, there) at (same 0 some)

  six-alike : {A : Type 0} (f : ℕ → ℕ → ℕ → ℕ → ℕ → ℕ → A) → Alike 6
      → f (number u at) (number u (at + 1)) (number u (at + 2)) (number u (at + 3)) (number u (at + 4)) (number u (at + 5))
      ≡ f (number t at') (number t (at' + 1)) (number t (at' + 2)) (number t (at' + 3)) (number t (at' + 4)) (number t (at' + 5))
  six-alike f same =
      rw (
        first_alike 6 (omega arith) same,
        same 1 (omega arith),
        same 2 (omega arith),
        same 3 (omega arith),
        same 4 (omega arith),
        same 5 (omega arith),
      )

  credential-alike : Alike credential_size → credential_at u at ≡ credential_at t at'
  credential-alike same = six-alike credential_of same

  cell-alike : Alike cell_size → cell_at u at ≡ cell_at t at'
  cell-alike same = rw (first_alike cell_size (omega arith) same, same 1 (omega arith), same 2 (omega arith))

  edge-alike : Alike edge_size → edge_at u at ≡ edge_at t at'
  edge-alike same = six-alike edge_of same

module _ (t : List ℕ) where
  abbrev front : List ℕ
  front = take (automata_base t) t

  abbrev behind : List ℕ
  behind = drop (automata_base t) t

  -- too short to reach its automata, the table stays as it is
  short-same : length t < automata_base t → upgraded t ≡ t
  unfolding upgraded
  short-same short =
      let all = take_all (automata_base t) t (omega arith) in
      let none = drop_of_length-le t {i = automata_base t} (omega arith) in
      rw (all, none, marks-none (automata t)) (append-nil t)

  module _ (long : automata_base t ≤ length t) where
    front_length : length front ≡ automata_base t
    front_length = length-take-le (automata_base t) t long

    front-number : (i : ℕ) → i < automata_base t → number (upgraded t) i ≡ number t i
    unfolding upgraded
    front-number i h =
        get_or-append front (with_marks (automata t) behind) 0 i (omega (arith, front_length))
        ∙ get_or-take (automata_base t) t i 0 h

    behind-number : (i : ℕ) → number (upgraded t) (automata_base t + i) ≡ get_or (with_marks (automata t) behind) i 0
    unfolding upgraded
    behind-number i =
        ap (λ (n : ℕ). number (upgraded t) (n + i)) (sym front_length)
        ∙ get_or-append-add front (with_marks (automata t) behind) i 0

    whole_length : length (upgraded t) ≡ automata_base t + length (with_marks (automata t) behind)
    unfolding upgraded
    whole_length = length-append front (with_marks (automata t) behind) ∙ rw front_length

    -- the head is the same
    same-credentials : credentials (upgraded t) ≡ credentials t
    same-credentials = front-number 0 (omega arith)

    same-cells : cells (upgraded t) ≡ cells t
    same-cells = front-number 1 (omega arith)

    same-automata : automata (upgraded t) ≡ automata t
    same-automata = front-number 2 (omega arith)

    same_edges : edges (upgraded t) ≡ edges t
    same_edges = front-number 3 (omega arith)

    -- the length is right exactly if it was: with two numbers for each automaton each gets a mark, and with fewer both are short
    exact_same : Dec (length behind < 2 * automata t)
        → eqb (length (upgraded t)) (table_length t) ≡ eqb (length t) (base_length t)
    exact_same (yes short) =
        let before = length-drop (automata_base t) t in
        let few = marks-short (automata t) behind short in
        eqb-alike (length (upgraded t)) (table_length t) (length t) (base_length t) (λ e. omega (arith, whole_length))
        (λ e. omega arith)
    exact_same (no enough) =
        let before = length-drop (automata_base t) t in
        let each = marks-length (automata t) behind (omega arith) in
        eqb-alike (length (upgraded t)) (table_length t) (length t) (base_length t) (λ e. omega (arith, whole_length))
        (λ e. omega (arith, whole_length))

    long-head : head_outcome (upgraded t) ≡ base_head_outcome t
    unfolding head_outcome base_head_outcome counts_ok
    long-head =
        let enough = le-leb head_size (length t) (omega arith) in
        let still = le-leb head_size (length (upgraded t)) (omega (arith, whole_length)) in
        rw (enough, still, same-credentials, same-cells, same-automata, same_edges, exact_same (dec_lt _ _))

  short-head : length t < automata_base t → head_outcome (upgraded t) ≡ base_head_outcome t
  unfolding head_outcome base_head_outcome
  short-head short =
      rw (
        short-same short,
        ne_eqb (length t) (table_length t) (λ e. omega arith),
        ne_eqb (length t) (base_length t) (λ e. omega arith),
      )

  head-same : Dec (length t < automata_base t) → head_outcome (upgraded t) ≡ base_head_outcome t
  head-same (yes short) = short-head short
  head-same (no long) = long-head (omega arith)

-- the length is right: there are two numbers for each automaton
module _ (t : List ℕ) (exact : length t ≡ base_length t) where
  long : automata_base t ≤ length t
  long = omega (arith, exact)

  pairs : 2 * automata t ≤ length (behind t)
  pairs = omega (arith, exact, length-drop (automata_base t) t)

  same-credential : (i : ℕ) → Numbered (credentials t) i → credential (upgraded t) i ≡ credential t i
  unfolding credential
  same-credential i h = credential-alike (upgraded t) t _ _ (λ j less. front-number t long _ (omega arith))

  same-cell : (j : ℕ) → Numbered (cells t) j → cell (upgraded t) j ≡ cell t j
  unfolding cell
  same-cell j h =
      rw (same-credentials t long) (cell-alike (upgraded t) t _ _ (λ i less. front-number t long _ (omega arith)))

  -- a number behind the cells, j further on than where `from` and `to` lead
  moved-number : (from to j : ℕ) → get_or (with_marks (automata t) (behind t)) (from + j) 0 ≡ get_or (behind t) (to + j) 0
      → number (upgraded t) (automata_base t + from + j) ≡ number t (automata_base t + to + j)
  moved-number from to j same =
      rw (further (automata_base t) from j, further (automata_base t) to j)
      (behind-number t long (from + j) ∙ same ∙ get_or-drop (automata_base t) t (to + j) 0)

  same-automaton : (k : ℕ) → Numbered (automata t) k → automaton (upgraded t) k ≡ base_automaton t k
  unfolding automaton base_automaton
  same-automaton k h =
      let at = marks-at (automata t) (behind t) (k - 1) pairs (omega arith) in
      let starting = behind-number t long (3 * (k - 1)) ∙ at.starting ∙ get_or-drop (automata_base t) t (2 * (k - 1)) 0 in
      let accepting = moved-number (3 * (k - 1)) (2 * (k - 1)) 1 at.accepting in
      let mark = behind-number t long (3 * (k - 1) + 2) ∙ at.mark in
      rw (same-credentials t long, same-cells t long, starting, accepting, further (automata_base t) (3 * (k - 1)) 2, mark)

  -- where the edges begin, if an automaton has so many numbers
  abbrev edges_from : ℕ → ℕ
  edges_from size = automata_base t + size * automata t

  edge-number : (i : ℕ) → number (upgraded t) (edges_from 3 + i) ≡ number t (edges_from 2 + i)
  edge-number i =
      moved-number (3 * automata t) (2 * automata t) i
      (sym (get_or-drop (3 * automata t) (with_marks (automata t) (behind t)) i 0)
      ∙ rw (marks-behind (automata t) (behind t) pairs) (get_or-drop (2 * automata t) (behind t) i 0))

  edge-numbers : (here : ℕ) → Alike (upgraded t) t (edges_from 3 + here) (edges_from 2 + here) edge_size
  edge-numbers here j less = rw (further (edges_from 3) here j, further (edges_from 2) here j) (edge-number (here + j))

  same-edge : (x : ℕ) → edge (upgraded t) x ≡ base_edge t x
  unfolding edge base_edge
  same-edge x =
      rw (same-credentials t long, same-cells t long, same-automata t long)
      (edge-alike (upgraded t) t _ _ (edge-numbers (edge_size * (x - 1))))

  pub same-records : SameRecords t
  same-records =
      record {
        credentials = same-credentials t long;
        cells = same-cells t long;
        automata = same-automata t long;
        edges = same_edges t long;
        credential = same-credential;
        cell = same-cell;
        automaton = same-automaton;
        edge = same-edge;
      }

-- the rows of records, behind the head's
abbrev rows_of : List ℕ → Outcome
rows_of t =
    demand_each (good_credential t) (credentials t) 4 and_then
    demand_each (good_cell t) (cells t) 5 and_then
    demand_each (good_chain t) (credentials t) 6 and_then
    demand_each (good_edge t) (edges t) 7 and_then
    demand_each (good_mark t) (automata t) 17

abbrev base_rows_of : List ℕ → Outcome
base_rows_of t =
    demand_each (good_credential t) (credentials t) 4 and_then
    demand_each (good_cell t) (cells t) 5 and_then
    demand_each (good_chain t) (credentials t) 6 and_then
    demand_each (good_base_edge t) (edges t) 7

-- they tell the same, each where those before it have passed
module _ (t : List ℕ) (exact : length t ≡ base_length t) where
  abbrev same : SameRecords t
  same = same-records t exact

  credential-checked : (i : ℕ) → Numbered (credentials t) i → good_credential (upgraded t) i ≡ good_credential t i
  unfolding good_credential_to
  credential-checked i h = rw (same.cells, same.automata, same.credential i h)

  cell-checked : (j : ℕ) → Numbered (cells t) j → good_cell (upgraded t) j ≡ good_cell t j
  unfolding good_cell_to
  cell-checked j h = rw (same.cells, same.cell j h)

  edge-checked : (x : ℕ) → good_edge (upgraded t) x ≡ good_base_edge t x
  unfolding good_edge_to good_base_edge
  edge-checked x = rw (same.automata, same.edge x)

  mark-checked : (k : ℕ) → Numbered (automata t) k → good_mark (upgraded t) k ≡ true
  unfolding good_mark mark_ok base_automaton
  mark-checked k h = rw (same.automaton k h)

  -- a chain stays inside the cells, so it is the same
  module _ (good : (j : ℕ) → Numbered (cells t) j → good_cell t j ≡ true) where
    cells_same : (most j : ℕ) → j ≤ cells t → cells_from (cell (upgraded t)) most j ≡ cells_from (cell t) most j
    unfolding cells_from
    cells_same zero j inside = refl
    cells_same (suc most) j inside = go (ℕ_discrete j 0) (cells_same most)
      where
        go : Dec (j ≡ 0) → ((i : ℕ) → i ≤ cells t → cells_from (cell (upgraded t)) most i ≡ cells_from (cell t) most i)
            → cells_from (cell (upgraded t)) (suc most) j ≡ cells_from (cell t) (suc most) j
        go (yes none) later = rw (stop-at (upgraded t) (suc most) j none, stop-at t (suc most) j none)
        go (no some) later =
            let there : Numbered (cells t) j = omega arith in
            rw (step_from (upgraded t) most j some, step_from t most j some, same.cell j there)
            (ap (λ (l : List ℕ). j ∷ l) (later _ (cell-range t j (good j there)).next))

    chains-same : (kind first : ℕ) → (kind ≡ 4 → first ≤ cells t) → Dec (kind ≡ 4)
        → pick (eqb kind 4) (chain_ok (upgraded t) first) true ≡ pick (eqb kind 4) (chain_ok t first) true
    unfolding chain_ok pick
    chains-same kind first inside (yes four) = rw (cells_same 5 first (inside four))
    chains-same kind first inside (no other) = rw (ne_eqb kind 4 other)

    chain-checked : (i : ℕ) → Numbered (credentials t) i → good_credential t i ≡ true → good_chain (upgraded t) i ≡ good_chain t i
    unfolding good_chain
    chain-checked i h ok =
        let inside = (credential-range t i ok).intersection in
        rw (same.credential i h) (chains-same _ _ (λ four. (inside four).last) (ℕ_discrete (credential t i).kind 4))

  -- the marks are all 0, so the edges have the last word
  edges-told : (demand_each (good_edge (upgraded t)) (edges t) 7 and_then demand_each (good_mark (upgraded t)) (automata t) 17)
      ≡ demand_each (good_base_edge t) (edges t) 7
  edges-told =
      let told = each-alike (good_edge (upgraded t)) (good_base_edge t) (edges t) 7 (λ x h. edge-checked x) in
      let passed = each_all (good_mark (upgraded t)) 17 (automata t) mark-checked in
      rw (told, passed) (each_last (good_base_edge t) (edges t) 7)

  rows_told : rows_of (upgraded t) ≡ base_rows_of t
  rows_told =
      rw (same.credentials, same.cells, same.edges, same.automata)
      (then-alike (each-alike _ _ _ 4 credential-checked) λ v credentials-passed.
      then-alike (each-alike _ _ _ 5 cell-checked) λ w cells-passed.
      then-alike (each-alike _ _ _ 6 (chains-told v w credentials-passed cells-passed)) λ x chains-passed. edges-told)
    where
      chains-told : (v w : ℕ) → demand_each (good_credential t) (credentials t) 4 ≡ accepted v
          → demand_each (good_cell t) (cells t) 5 ≡ accepted w
          → (i : ℕ) → Numbered (credentials t) i → good_chain (upgraded t) i ≡ good_chain t i
      chains-told v w four five i h =
          chain-checked (each-ok (good_cell t) 5 (cells t) w five) i h (each-ok (good_credential t) 4 (credentials t) v four i h)

exact-length : (t : List ℕ) (v : ℕ) → base_head_outcome t ≡ accepted v → length t ≡ base_length t
unfolding base_head_outcome
exact-length t v passed =
    eqb-true (length t) (base_length t) (demand-true _ 3 0 v (then-second _ _ v (then-second _ _ v passed)))

pub upgrading : Upgrading
unfolding table_outcome_to base_outcome
upgrading t =
    (then-alike (head-same t (dec_lt _ _)) (λ v passed. rows_told t (exact-length t v passed)), same-records t)
