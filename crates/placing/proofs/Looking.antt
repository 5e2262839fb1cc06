-- The loop that looks for an arc: none of the first l leads nowhere, nor to the state.
use mathlib.Core.Path.{◌≡◌}
use mathlib.Core.List.{List}
use mathlib.Core.Logic.{◌⊎◌}
use Prim.Native.Nat.{ℕ, ◌<◌, ◌≤◌}
use lib.ListN.{get_or}
use Rattle.moves.specs.Arcs.{most_arcs, to_cell}
use Rattle.placing.specs.Placing.{ArcFound}

pub record Looking (arcs : List ℕ) (p to l : ℕ) : Type 0 where
  pub few : l ≤ most_arcs
  pub passed : (m : ℕ) → m < l → get_or arcs (to_cell p m) 0 ≡ 0 → ⊥
  pub others : (m : ℕ) → m < l → get_or arcs (to_cell p m) 0 ≡ to → ⊥

pub found_here : {arcs : List ℕ} {p to l : ℕ} → Looking arcs p to l
    → (l < most_arcs → (get_or arcs (to_cell p l) 0 ≡ to) ⊎ (get_or arcs (to_cell p l) 0 ≡ 0)) → ArcFound arcs p to l
found_here k is = record { few = k.few; passed = k.passed; others = k.others; here = is }
