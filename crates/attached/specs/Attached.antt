-- docs/DEFINITION.md, "Words": the automata attached to the credentials of a set, as a set, and those of them that demand every
-- word or some word. Credential i counts 2^(i-1) in the one, automaton k counts 2^(k-1) in the others.
use Rattle.std.specs.Prelude.{ℕ, zero, suc, ◌-◌, ◌^◌, List, not, eqb}
use Rattle.std.specs.Int.Bits.{bit_or}
use Rattle.sets.specs.Logic.{◌and◌, pick}
use Rattle.sets.specs.Sets.{in_set, set_of}
use Rattle.table.specs.Layout.{automata, automaton, credential, credentials}

-- the automata attached to those of the first n credentials that are in the set
unfoldable pub automata_up_to : List ℕ → ℕ → ℕ → ℕ
automata_up_to t S zero = 0
automata_up_to t S (suc n) =
    pick (in_set S n and not (eqb (credential t (suc n)).automaton 0))
    (bit_or (automata_up_to t S n) (2 ^ ((credential t (suc n)).automaton - 1)))
    (automata_up_to t S n)

unfoldable pub automata_of : List ℕ → ℕ → ℕ
automata_of t S = automata_up_to t S (credentials t)

-- the automata of a set of automata that have mark 1: each demands some word
unfoldable pub marked_of : List ℕ → ℕ → ℕ
marked_of t A = set_of (λ k. in_set A k and eqb (automaton t (suc k)).mark 1) (automata t)

-- of the automata attached to the credentials of a set, those that demand every word, and those that demand some word
unfoldable pub every_of : List ℕ → ℕ → ℕ
every_of t S = set_of (λ k. in_set (automata_of t S) k and eqb (automaton t (suc k)).mark 0) (automata t)

unfoldable pub owed_of : List ℕ → ℕ → ℕ
owed_of t S = marked_of t (automata_of t S)
