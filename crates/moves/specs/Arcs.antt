-- An index of arcs, made for one call and lent down. An arc, which is our word, gathers the edges that match one role and lead to
-- states of one number: it has the mask of that `to` state and, for each of the eight automata, the mask of the `from` states. The
-- arcs of a role stand in the row of a credential that defines it, sixteen at most, and the first that leads nowhere ends them.
-- Whether a row has been made is a matter of time alone: where it has not, the edges tell.
use Rattle.std.specs.Prelude.{ℕ, zero, suc, ◌+◌, ◌-◌, ◌*◌, ◌<◌, ◌≤◌, ◌≡◌, List, ◌⊎◌, get_or, length}
use Rattle.std.specs.Int.Bits.{bit_or}
use Rattle.sets.specs.Logic.{pick}
use Rattle.sets.specs.Sets.{meets}
use Rattle.table.specs.Limits.{most_automata, most_credentials}
use Rattle.table.specs.Layout.{automata, automaton, credential, credentials}
use Rattle.table.specs.Checks.{within}
use Rattle.table.specs.declared.Role.{Role}
use Rattle.automata.specs.Automata.{moved}
use Rattle.automata.specs.Together.{set_for, together}
use Rattle.automata.specs.declared.StateSets.{StateSets}

-- as many arcs as an automaton has states
abbrev pub most_arcs : ℕ
most_arcs = 16

-- a `from` mask for each automaton, then the `to` mask
abbrev pub arc_cells : ℕ
arc_cells = most_automata + 1

abbrev pub row_cells : ℕ
row_cells = arc_cells * most_arcs

-- the accepting set of automaton k + 1
abbrev pub accepting_cell : ℕ → ℕ
accepting_cell k = k

-- whether the row of credential p + 1 has been made
abbrev pub made_cell : ℕ → ℕ
made_cell p = most_automata + p

abbrev pub first_row : ℕ
first_row = most_automata + most_credentials

abbrev pub index_cells : ℕ
index_cells = first_row + row_cells * most_credentials

-- arc l of credential p + 1: the states of automaton k + 1 from which it leads
abbrev pub from_cell : ℕ → ℕ → ℕ → ℕ
from_cell p l k = first_row + row_cells * p + arc_cells * l + k

-- and the state to which it leads
abbrev pub to_cell : ℕ → ℕ → ℕ
to_cell p l = from_cell p l most_automata

-- the mark of a row that has been made; what is less counts how often it was asked for before
abbrev pub made : ℕ
made = 8

-- what the first n arcs of the row give for automaton k + 1 from the set x: `set & from != 0` gives `to`
unfoldable pub led : List ℕ → ℕ → ℕ → ℕ → ℕ → ℕ
led arcs p k x zero = 0
led arcs p k x (suc l) =
    bit_or (led arcs p k x l) (pick (meets x (get_or arcs (from_cell p l k) 0)) (get_or arcs (to_cell p l) 0) 0)

-- no arc follows one that leads nowhere
abbrev pub Ended : List ℕ → ℕ → Type 0
Ended arcs p =
    (l m : ℕ) → l ≤ m → m < most_arcs → get_or arcs (to_cell p l) 0 ≡ 0 → get_or arcs (to_cell p m) 0 ≡ 0

-- the arcs of a row move every set as the edges do
pub record ArcRow (t : List ℕ) (r : Role) (arcs : List ℕ) (p : ℕ) : Type 0 where
  pub moves : (k x : ℕ) → k < most_automata → led arcs p k x most_arcs ≡ moved t (suc k) r x
  pub ended : Ended arcs p

-- automaton k's accepting set, or no state where there is no such automaton
unfoldable pub accepting : List ℕ → ℕ → ℕ
accepting t k = pick (within 1 (automata t) k) (automaton t k).accepting 0

-- no index, or one of the table: the accepting sets, and each row that has been made has the arcs of its credential's role
pub record Arcs (t arcs : List ℕ) : Type 0 where
  pub room : (length arcs ≡ 0) ⊎ (length arcs ≡ index_cells)
  pub accepts : (k : ℕ) → k < most_automata → length arcs ≡ index_cells → get_or arcs (accepting_cell k) 0 ≡ accepting t (suc k)
  pub rows : (p : ℕ) → p < credentials t → get_or arcs (made_cell p) 0 ≡ made → ArcRow t (credential t (suc p)).role arcs p

-- what the first n arcs give, from the sets of all eight automata
unfoldable pub led_sets : List ℕ → ℕ → StateSets → ℕ → StateSets
led_sets arcs p from n = together (λ k. led arcs p (k - 1) (set_for from k) n)

-- the sets `next` with what the arc gives that stands at a cell
unfoldable pub with_arc : List ℕ → ℕ → StateSets → StateSets → StateSets
with_arc arcs at from next =
    let to = get_or arcs (at + most_automata) 0 in
    together (λ k. bit_or (set_for next k) (pick (meets (set_for from k) (get_or arcs (at + (k - 1)) 0)) to 0))
