-- docs/DEFINITION.md, "Where each input is stopped", rows 11 to 13: how a node of a record is entered. 11, 12 and 13 are tested in
-- that order.
use Rattle.std.specs.Prelude.{ℕ, List, [], ◌∷◌, Bool}
use Rattle.std.proofs.Math.Option.{Option, none, some}
use Rattle.sets.specs.Logic.{pick}
use Rattle.table.specs.declared.Goal.{Goal}
use Rattle.derivation.specs.Rules.{premises}

-- a node is refused with a number, or asks for its premises, with the rest of the record
pub data Entry : Type 0 where
  halt : (number : ℕ) → Entry
  ask : (credential middle : ℕ) (goals : List Goal) (rest : List ℕ) → Entry

-- `may`: a level is left for the node, and its goal is not yet on the branch
unfoldable pub admitted : Bool → ℕ → ℕ → List ℕ → Option (List Goal) → Entry
admitted may c m rest none = halt 12
admitted may c m rest (some goals) = pick may (ask c m goals rest) (halt 13)

-- by which goals a credential with a middle asks for a goal
unfoldable pub entry_by : (Goal → ℕ → ℕ → Option (List Goal)) → Bool → Goal → List ℕ → Entry
entry_by asks may g [] = halt 11
entry_by asks may g (c ∷ []) = halt 11
entry_by asks may g (c ∷ m ∷ rest) = admitted may c m rest (asks g c m)

abbrev pub entry : List ℕ → Bool → Goal → List ℕ → Entry
entry t may g rec = entry_by (premises t) may g rec
