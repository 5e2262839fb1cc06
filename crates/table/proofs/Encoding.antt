-- A table that is written from its records is read back: the head has their counts, the length is the one that the head says,
-- and each accessor finds its record. Shown once is how a record is read in a block of equally long ones inside a list.
use mathlib.Core.Path.{◌≡◌, refl, sym, ap, ◌∙◌}
use mathlib.Core.List.{List, [], ◌∷◌, ◌++◌, flat_map, append_assoc, append-nil}
use Prim.Native.Nat.{ℕ, zero, suc, ◌+◌, ◌-◌, ◌*◌, ◌<◌}
use native.Mathlib.Omega.{arith}
use native.Mathlib.Nat.{mul-zero}
use lib.ListN.{drop, get_or, length, length-append}
use lib.Seq.{drop-append-add, get_or-drop}
use Rattle.table.specs.Layout
use Rattle.table.specs.Layout.{Numbered, number}
use Rattle.table.specs.Layout.{automata_base, cells_base, edges_base, table_length}
use Rattle.table.specs.Layout.{head_size, credential_size, cell_size, automaton_size, edge_size}
use Rattle.table.specs.Layout.{automaton_at, cell_at, credential_at, edge_at}
use Rattle.table.specs.Encoded.{automaton_numbers, cell_numbers, credential_numbers, edge_numbers, encoded}
use Rattle.table.specs.declared.Credential.{Credential}
use Rattle.table.specs.declared.Cell.{Cell}
use Rattle.table.specs.declared.Automaton.{Automaton}
use Rattle.table.specs.declared.Edge.{Edge}

-- from `at` on stand these numbers
abbrev Stands : List ℕ → ℕ → List ℕ → Type 0
Stands t at numbers = (rest : List ℕ) × (drop at t ≡ numbers ++ rest)

-- records of one size, each written as its numbers
module _ {A : Type 0} (numbers : A → List ℕ) (size : ℕ) (even : (x : A) → length (numbers x) ≡ size) where
  block-length : (xs : List A) → length (flat_map numbers xs) ≡ size * length xs
  unfolding flat_map
  block-length [] = omega arith
  block-length (x ∷ xs) = rw (length-append (numbers x) (flat_map numbers xs), even x, block-length xs) (omega arith)

  -- where the block begins: record i, from 0, stands size * i numbers on, whatever follows the block
  in_block : (xs : List A) (after : List ℕ) (d : A) (i : ℕ) → i < length xs
      → Stands (flat_map numbers xs ++ after) (size * i) (numbers (get_or xs i d))
  unfolding flat_map
  in_block [] after d i h = absurd (omega arith)
  in_block (x ∷ xs) after d zero h =
      (flat_map numbers xs ++ after, rw (mul-zero size) (append_assoc (numbers x) (flat_map numbers xs) after))
  in_block (x ∷ xs) after d (suc i) h =
      let later = in_block xs after d i (omega arith) in
      let further : size * suc i ≡ length (numbers x) + size * i = rw (even x) (omega arith) in (
        later.0,
        rw (further, append_assoc (numbers x) (flat_map numbers xs) after, drop-append-add (numbers x)) later.1,
      )

  -- the same in a list that has other numbers before the block, and for records numbered from 1
  block_at : (t before after : List ℕ) (xs : List A) (base : ℕ) (d : A) (i : ℕ)
      → t ≡ before ++ (flat_map numbers xs ++ after) → base ≡ length before → Numbered (length xs) i
      → Stands t (base + size * (i - 1)) (numbers (get_or xs (i - 1) d))
  block_at t before after xs base d i whole begins h =
      let here = in_block xs after d (i - 1) (omega arith) in
      (here.0, rw (whole, begins, drop-append-add before) here.1)

-- a number k further on than `at`, read from the numbers that stand there
module _ (t : List ℕ) (at : ℕ) (ns : List ℕ) (here : Stands t at ns) where
  from-here : (k : ℕ) → number t (at + k) ≡ get_or (ns ++ here.0) k 0
  from-here k = sym (get_or-drop at t k 0) ∙ ap (λ (l : List ℕ). get_or l k 0) here.1

  at_first : number t at ≡ get_or (ns ++ here.0) 0 0
  at_first = let e : at + 0 ≡ at = omega arith in rw e at (from-here 0)

-- a record is read from its own numbers
read-credential : (t : List ℕ) (at : ℕ) (c : Credential) → Stands t at (credential_numbers c) → credential_at t at ≡ c
unfolding credential_numbers
read-credential t at c here = simp (from-here t at (credential_numbers c) here, at_first t at (credential_numbers c) here)

read_cell : (t : List ℕ) (at : ℕ) (c : Cell) → Stands t at (cell_numbers c) → cell_at t at ≡ c
unfolding cell_numbers
read_cell t at c here = simp (from-here t at (cell_numbers c) here, at_first t at (cell_numbers c) here)

read-automaton : (t : List ℕ) (at : ℕ) (a : Automaton) → Stands t at (automaton_numbers a) → automaton_at t at ≡ a
unfolding automaton_numbers
read-automaton t at a here = simp (from-here t at (automaton_numbers a) here, at_first t at (automaton_numbers a) here)

read-edge : (t : List ℕ) (at : ℕ) (e : Edge) → Stands t at (edge_numbers e) → edge_at t at ≡ e
unfolding edge_numbers
read-edge t at e here = simp (from-here t at (edge_numbers e) here, at_first t at (edge_numbers e) here)

-- a record has as many numbers as its size says
credential-size : (c : Credential) → length (credential_numbers c) ≡ credential_size
unfolding credential_numbers
credential-size c = refl

cell-size : (c : Cell) → length (cell_numbers c) ≡ cell_size
unfolding cell_numbers
cell-size c = refl

automaton-size : (a : Automaton) → length (automaton_numbers a) ≡ automaton_size
unfolding automaton_numbers
automaton-size a = refl

edge-size : (e : Edge) → length (edge_numbers e) ≡ edge_size
unfolding edge_numbers
edge-size e = refl

-- a table written from its records
module _ (cs : List Credential) (ps : List Cell) (ks : List Automaton) (es : List Edge) where
  abbrev written : List ℕ
  written = encoded cs ps ks es

  abbrev head : List ℕ
  head = length cs ∷ length ps ∷ length ks ∷ length es ∷ []

  -- the head has the counts
  pub encoded-credentials : Layout.credentials written ≡ length cs
  unfolding encoded
  encoded-credentials = refl

  pub encoded-cells : Layout.cells written ≡ length ps
  unfolding encoded
  encoded-cells = refl

  pub encoded-automata : Layout.automata written ≡ length ks
  unfolding encoded
  encoded-automata = refl

  pub encoded-edges : Layout.edges written ≡ length es
  unfolding encoded
  encoded-edges = refl

  -- what stands before each block of records
  abbrev before_cells : List ℕ
  before_cells = head ++ flat_map credential_numbers cs

  abbrev before_automata : List ℕ
  before_automata = before_cells ++ flat_map cell_numbers ps

  abbrev before_edges : List ℕ
  before_edges = before_automata ++ flat_map automaton_numbers ks

  cells-base : cells_base written ≡ length before_cells
  unfolding encoded
  cells-base =
      rw (length-append head (flat_map credential_numbers cs), block-length credential_numbers credential_size credential-size cs)

  automata-base : automata_base written ≡ length before_automata
  unfolding encoded
  automata-base =
      rw (length-append before_cells (flat_map cell_numbers ps), block-length cell_numbers cell_size cell-size ps, ← cells-base)

  edges-base : edges_base written ≡ length before_edges
  unfolding encoded
  edges-base =
      rw (
        length-append before_automata (flat_map automaton_numbers ks),
        block-length automaton_numbers automaton_size automaton-size ks,
        ← automata-base,
      )

  -- the table is what stands before a block, the block, and what stands after it
  credentials-stand : written ≡ head
      ++ (flat_map credential_numbers cs ++ (flat_map cell_numbers ps ++ (flat_map automaton_numbers ks ++ flat_map edge_numbers es)))
  unfolding encoded
  credentials-stand = refl

  cells-stand : written ≡ before_cells ++ (flat_map cell_numbers ps ++ (flat_map automaton_numbers ks ++ flat_map edge_numbers es))
  cells-stand = credentials-stand ∙ sym (append_assoc head (flat_map credential_numbers cs) _)

  automata-stand : written ≡ before_automata ++ (flat_map automaton_numbers ks ++ flat_map edge_numbers es)
  automata-stand = cells-stand ∙ sym (append_assoc before_cells (flat_map cell_numbers ps) _)

  edges-stand : written ≡ before_edges ++ flat_map edge_numbers es
  edges-stand = automata-stand ∙ sym (append_assoc before_automata (flat_map automaton_numbers ks) _)

  -- the length is the one that the head says
  pub encoded-length : length written ≡ table_length written
  encoded-length =
      ap length edges-stand ∙ length-append before_edges (flat_map edge_numbers es)
      ∙ rw (← edges-base, block-length edge_numbers edge_size edge-size es, encoded-edges)

  -- record i is the i-th that was written
  module _ (i : ℕ) where
    pub encoded-credential : (d : Credential) → Numbered (length cs) i → Layout.credential written i ≡ get_or cs (i - 1) d
    unfolding Layout.credential
    encoded-credential d h =
        read-credential written _ _
        (block_at credential_numbers credential_size credential-size written head _ cs head_size d i credentials-stand refl h)

    pub encoded-cell : (d : Cell) → Numbered (length ps) i → Layout.cell written i ≡ get_or ps (i - 1) d
    unfolding Layout.cell
    encoded-cell d h =
        read_cell written _ _ (block_at cell_numbers cell_size cell-size written before_cells _ ps _ d i cells-stand cells-base h)

    pub encoded-automaton : (d : Automaton) → Numbered (length ks) i → Layout.automaton written i ≡ get_or ks (i - 1) d
    unfolding Layout.automaton
    encoded-automaton d h =
        read-automaton written _ _
        (block_at automaton_numbers automaton_size automaton-size written before_automata _ ks _ d i automata-stand automata-base h)

    pub encoded-edge : (d : Edge) → Numbered (length es) i → Layout.edge written i ≡ get_or es (i - 1) d
    unfolding Layout.edge
    encoded-edge d h =
        read-edge written _ _
        (block_at edge_numbers edge_size edge-size written before_edges [] es _ d i
        (edges-stand ∙ ap (λ (l : List ℕ). before_edges ++ l) (sym (append-nil (flat_map edge_numbers es)))) edges-base h)
