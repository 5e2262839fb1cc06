-- A request holds the fact that it is prepared (src/prepared.rt), so that this fact may be proved in one way only: requests with
-- the same table, query, index and arcs are the same. It is made of equations and orders, and of one choice between two equations
-- that exclude each other.
use Rattle.std.specs.Prelude.{ℕ, ◌≡◌, List, ◌⊎◌}
use Rattle.std.specs.Coded.{Coded, code_by, coded_ℕ, coded×, coded⊎}
use Rattle.std.proofs.Common.{inl, inr, refl, ap}
use Rattle.std.proofs.Props.{props}
use Rattle.table.specs.Outcome.{Outcome, accepted, refused}
use Rattle.table.specs.declared.Query.{Query}
use Rattle.moves.specs.Arcs.{index_cells}
use Rattle.search.specs.Search.{Prepared}

abbrev cases : Outcome → ℕ ⊎ (ℕ × ℕ)
cases (accepted v) = inl v
cases (refused number position) = inr (number, position)

abbrev outcome : ℕ ⊎ (ℕ × ℕ) → Outcome
outcome (inl v) = accepted v
outcome (inr (number, position)) = refused number position

outcome-cases : (o : Outcome) → outcome (cases o) ≡ o
outcome-cases (accepted v) = refl
outcome-cases (refused number position) = refl

coded_outcome : Coded Outcome
coded_outcome = code_by (ℕ ⊎ (ℕ × ℕ)) (coded⊎ coded_ℕ (coded× coded_ℕ coded_ℕ)) cases outcome outcome-cases

-- there is no index of arcs, or one of the full length
room-once : (n : ℕ) → IsProp ((n ≡ 0) ⊎ (n ≡ index_cells))
room-once n (inl a) (inl b) = let one : IsProp (n ≡ 0) = hlevel props in ap inl (one a b)
room-once n (inl a) (inr b) = cc
room-once n (inr a) (inl b) = cc
room-once n (inr a) (inr b) = let one : IsProp (n ≡ index_cells) = hlevel props in ap inr (one a b)

pub prepared_once : (t : List ℕ) (q : Query) (index arcs : List ℕ) → IsProp (Prepared t q index arcs)
prepared_once t q index arcs = hlevel (props, coded_outcome, room-once)
