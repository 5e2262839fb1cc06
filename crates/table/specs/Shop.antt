-- docs/DEFINITION.md, "The shop example": tables T and U and the query, for the proved rows and for whatever else is told of
-- them. Principals Shop 1, School 2, Ann 4; names discount 1, student 2, accredited 3.
use Rattle.std.specs.Prelude.{ℕ, List, [], ◌∷◌}
use Rattle.table.specs.Encoded.{automaton_of, credential_of, edge_of, encoded}
use Rattle.table.specs.Checks.{as_query}
use Rattle.table.specs.declared.Automaton.{Automaton}
use Rattle.table.specs.declared.Edge.{Edge}
use Rattle.table.specs.declared.Query.{Query}

-- the shop's four credentials; automaton k, or none for 0, is attached to credential 3, by which Ann is a student of the school
unfoldable pub shop : (k : ℕ) → List Automaton → List Edge → List ℕ
shop k automata edges =
    encoded (credential_of 1 1 3 3 2 0 ∷ credential_of 1 3 1 2 0 0 ∷ credential_of 2 2 1 4 0 k ∷ credential_of 1 1 1 4 0 0 ∷ [])
    [] automata edges

unfoldable pub tableT : List ℕ
tableT = shop 0 [] []

-- T with an automaton, attached to credential 3, that rejects every word that begins with Shop.discount
unfoldable pub tableU : List ℕ
tableU = shop 1 (automaton_of 1 2 0 ∷ []) (edge_of 1 0 3 1 1 1 ∷ edge_of 1 1 2 0 0 1 ∷ [])

-- Ann in Shop.discount within so many levels
abbrev pub ann_asks : ℕ → Query
ann_asks depth = as_query 4 1 1 depth
