-- How a row of the index is made: the edges are taken one by one, and each that matches the role goes into the arc of its `to` state.
use Rattle.std.specs.Prelude.{ℕ, suc, ◌^◌, ◌<◌, ◌≡◌, List, get_or}
use Rattle.table.specs.Limits.{most_automata, most_credentials}
use Rattle.table.specs.Layout.{edge}
use Rattle.table.specs.declared.Role.{Role}
use Rattle.automata.specs.Automata.{moved_by}
use Rattle.moves.specs.Arcs.{Ended, from_cell, led, made, made_cell, most_arcs, to_cell}

-- the row has been made, and so have those that had been before
pub record RowMade (p : ℕ) (before after : List ℕ) : Type 0 where
  pub own : get_or after (made_cell p) 0 ≡ made
  pub kept : (q : ℕ) → q < most_credentials → get_or before (made_cell q) 0 ≡ made → get_or after (made_cell q) 0 ≡ made

-- the mask of a state below n
abbrev pub MaskOf : ℕ → ℕ → Type 0
MaskOf n x = (s : ℕ) × ((s < n) × (x ≡ 2 ^ s))

-- the arcs move every set as the first n edges do; an arc that leads nowhere leads from nowhere, and none follows it; the others
-- lead to one state each, and no two to the same
pub record Filling (t : List ℕ) (r : Role) (arcs : List ℕ) (p n : ℕ) : Type 0 where
  pub moves : (k x : ℕ) → k < most_automata → led arcs p k x most_arcs ≡ moved_by (edge t) (suc k) r x n
  pub ended : Ended arcs p
  pub bare : (l k : ℕ) → l < most_arcs → k < most_automata → get_or arcs (to_cell p l) 0 ≡ 0 → get_or arcs (from_cell p l k) 0 ≡ 0
  pub named : (l : ℕ) → l < most_arcs → (get_or arcs (to_cell p l) 0 ≡ 0 → ⊥) → MaskOf most_arcs (get_or arcs (to_cell p l) 0)
  pub apart : (l m : ℕ) → l < most_arcs → m < most_arcs → (get_or arcs (to_cell p l) 0 ≡ 0 → ⊥)
      → get_or arcs (to_cell p l) 0 ≡ get_or arcs (to_cell p m) 0 → l ≡ m
