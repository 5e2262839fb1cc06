-- docs/DEFINITION.md, "Words": how an automaton reads a word. It starts in its starting set; on each role its set becomes all
-- `to` states of matching edges of its own from states in it; it accepts if an accepting state is in the set at the end.
use Rattle.std.specs.Prelude.{ℕ, zero, suc, ◌^◌, List, [], ◌∷◌, Bool}
use Rattle.std.specs.Int.Bits.{bit_or}
use Rattle.sets.specs.Logic.{pick}
use Rattle.sets.specs.Sets.{meets}
use Rattle.table.specs.Layout.{automata, automaton, edge, edges}
use Rattle.table.specs.Checks.{within}
use Rattle.table.specs.declared.Edge.{Edge}
use Rattle.table.specs.declared.Role.{Role}
use Rattle.edges.specs.Edges.{leads}

-- the `to` states of those of the first n edges that lead automaton k on
unfoldable pub moved_by : (ℕ → Edge) → ℕ → Role → ℕ → ℕ → ℕ
moved_by edge k r x zero = 0
moved_by edge k r x (suc n) =
    pick (leads k r x (edge (suc n))) (bit_or (moved_by edge k r x n) (2 ^ (edge (suc n)).to)) (moved_by edge k r x n)

unfoldable pub moved : List ℕ → ℕ → Role → ℕ → ℕ
moved t k r x = moved_by (edge t) k r x (edges t)

-- along a word, role by role, by how a set moves along one role
unfoldable pub run_by : (Role → ℕ → ℕ) → ℕ → List Role → ℕ
run_by move x [] = x
run_by move x (r ∷ word) = run_by move (move r x) word

abbrev pub run : List ℕ → ℕ → ℕ → List Role → ℕ
run t k x word = run_by (moved t k) x word

-- automaton k's starting set, or no state where there is no such automaton
unfoldable pub starting : List ℕ → ℕ → ℕ
starting t k = pick (within 1 (automata t) k) (automaton t k).starting 0

unfoldable pub accepts_from : List ℕ → ℕ → ℕ → Bool
accepts_from t k x = meets x (automaton t k).accepting

unfoldable pub accepts : List ℕ → ℕ → List Role → Bool
accepts t k word = accepts_from t k (run t k (starting t k) word)
