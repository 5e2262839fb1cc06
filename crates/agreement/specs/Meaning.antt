-- What a table means, apart from where its numbers stand: derivations, words and compliance go by this alone.
use Rattle.std.specs.Prelude.{ℕ, ◌≡◌, List, [], ◌∷◌, Bool, true, eqb}
use Rattle.std.proofs.Math.Option.{Option}
use Rattle.sets.specs.Logic.{◌or◌}
use Rattle.table.specs.Layout.{credential}
use Rattle.table.specs.declared.Goal.{Goal}
use Rattle.table.specs.declared.Role.{Role}
use Rattle.table.specs.declared.Query.{Query}
use Rattle.derivation.specs.Rules.{goal_of, premises}
use Rattle.derivation.specs.Forest.{DerivesBy, Forest, names, used_set, written}
use Rattle.derivation.specs.Words.{is_met, words_by}

pub record Meaning : Type 0 where
  -- the goals that credential c with middle m asks for goal g, or that it does not apply
  pub asks : Goal → ℕ → ℕ → Option (List Goal)
  -- the role that credential c defines, and whether a word ends at it
  pub role : ℕ → Role
  pub ends : ℕ → Bool
  -- whether words are what the constraint of credential c demands; all are where it has none
  pub demands : ℕ → List (List Role) → Bool

-- what automaton k demands of words, where 0 is none
unfoldable pub demands_of : (ℕ → List (List Role) → Bool) → ℕ → List (List Role) → Bool
demands_of is_met k words = eqb k 0 or is_met k words

-- what a table of today's layout means
abbrev pub meaning : List ℕ → Meaning
meaning t =
    record {
      asks = premises t;
      role = λ c. (credential t c).role;
      ends = λ c. eqb (credential t c).kind 1;
      demands = λ c words. demands_of (is_met t) (credential t c).automaton words;
    }

abbrev pub words_in : Meaning → List Role → Forest → List (List Role)
words_in w above f = words_by w.role w.ends above f

-- the words are what the constraint of every credential that is used demands
abbrev pub CompliesIn : Meaning → Forest → Type 0
CompliesIn w f = (c : ℕ) → names f c ≡ true → w.demands c (words_in w [] f) ≡ true

-- a record that derives the queried membership and complies; S is its used set
pub record AcceptedIn (w : Meaning) (q : Query) (rec : List ℕ) (S : ℕ) : Type 0 where
  pub forest : Forest
  pub derives : DerivesBy w.asks q.depth [] (goal_of q ∷ []) forest
  pub whole : written forest ≡ rec
  pub complies : CompliesIn w forest
  pub uses : used_set forest ≡ S

-- S is the used set of such a record
abbrev pub UsedIn : Meaning → Query → ℕ → Type 0
UsedIn w q S = (rec : List ℕ) × AcceptedIn w q rec S
