-- docs/DEFINITION.md, "Words": a record is accepted if it derives the queried membership and complies.
use Rattle.std.specs.Prelude.{ℕ, ◌≡◌, List, [], ◌∷◌}
use Rattle.table.specs.declared.Query.{Query}
use Rattle.derivation.specs.Rules.{goal_of}
use Rattle.derivation.specs.Forest.{Derives, Forest, used_set, written}
use Rattle.derivation.specs.Words.{Complies}

-- a record that derives the queried membership and complies; S is its used set
pub record Accepted (t : List ℕ) (q : Query) (rec : List ℕ) (S : ℕ) : Type 0 where
  pub forest : Forest
  pub derives : Derives t q.depth [] (goal_of q ∷ []) forest
  pub whole : written forest ≡ rec
  pub complies : Complies t forest
  pub uses : used_set forest ≡ S
