-- docs/DEFINITION.md, "Words" and "The list": whether some accepted record uses only credentials of a set. `Admits` says it by
-- derivations; `admits` decides it automaton by automaton: each one that a credential of the set bears is either done without,
-- by leaving its credentials out, or imposed on every word or owed some word, by its mark (proofs/Admitting.antt).
use Rattle.std.specs.Prelude.{ℕ, zero, suc, ◌^◌, List, [], ◌∷◌, Bool, true, eqb}
use Rattle.std.specs.Int.Bits.{bit_or}
use Rattle.sets.specs.Logic.{◌and◌, ◌or◌, pick}
use Rattle.sets.specs.Sets.{in_set}
use Rattle.table.specs.Layout.{automata, automaton}
use Rattle.table.specs.declared.Query.{Query}
use Rattle.derivation.specs.Rules.{goal_of}
use Rattle.derivation.specs.Forest.{Derives, Forest}
use Rattle.derivation.specs.Words.{Complies}
use Rattle.attached.specs.Attached.{automata_of}
use Rattle.search.specs.Search.{UsesOnly, provable}
use Rattle.settling.specs.Settling.{without_all}

-- some derivation of the queried membership uses only credentials of the set S, and complies
pub record Admits (t : List ℕ) (q : Query) (S : ℕ) : Type 0 where
  pub forest : Forest
  pub derives : Derives t q.depth [] (goal_of q ∷ []) forest
  pub uses_only : UsesOnly forest S
  pub complies : Complies t forest

-- automaton k + 1 is imposed on every word, or owed some word, by its mark
unfoldable pub with_every : List ℕ → ℕ → ℕ → ℕ
with_every t A k = pick (eqb (automaton t (suc k)).mark 1) A (bit_or A (2 ^ k))

unfoldable pub with_owed : List ℕ → ℕ → ℕ → ℕ
with_owed t O k = pick (eqb (automaton t (suc k)).mark 1) (bit_or O (2 ^ k)) O

-- where S proves with A imposed and O owed: of the automata from k down to 1 each that a credential of S bears can be done
-- without or be met
unfoldable pub admits_by : List ℕ → Query → ℕ → ℕ → ℕ → ℕ → Bool
admits_by t q S A O zero = true
admits_by t q S A O (suc k) =
    let fewer = without_all t S (2 ^ k) in
    let every = with_every t A k in
    let owed = with_owed t O k in
    pick (in_set (automata_of t S) k)
    ((provable t q fewer A O and admits_by t q fewer A O k) or (provable t q S every owed and admits_by t q S every owed k))
    (admits_by t q S A O k)

-- and S does prove
unfoldable pub admits_to : List ℕ → Query → ℕ → ℕ → ℕ → ℕ → Bool
admits_to t q S A O k = provable t q S A O and admits_by t q S A O k

unfoldable pub admits : List ℕ → Query → ℕ → Bool
admits t q S = admits_to t q S 0 0 (automata t)
