-- docs/DEFINITION.md, "The list": how an automaton that a set of credentials bears is settled. It is done without, by leaving out
-- the credentials that bear it, or met, on terms of a search that owe it or impose it; and which cannot be met.
use Rattle.std.specs.Prelude.{ℕ, suc, ◌-◌, ◌^◌, ◌≡◌, List, Bool, not, eqb}
use Rattle.std.specs.Int.Bits.{bit_or}
use Rattle.sets.specs.Logic.{◌and◌}
use Rattle.sets.specs.Sets.{in_set, set_of}
use Rattle.families.specs.Families.{covers}
use Rattle.families.specs.declared.Family.{Family}
use Rattle.table.specs.Layout.{credential, credentials}
use Rattle.goals.specs.declared.Terms.{Terms}

-- the automaton of a credential is one of the set L: automaton k counts 2^(k-1), and 0 is none
unfoldable pub among : ℕ → ℕ → Bool
among L x = not (eqb x 0) and in_set L (x - 1)

-- the credentials of S that bear no automaton of the set L
unfoldable pub without_all : List ℕ → ℕ → ℕ → ℕ
without_all t S L = set_of (λ c. in_set S c and not (among L (credential t (suc c)).automaton)) (credentials t)

-- all automata that a table may have
abbrev pub all_automata : ℕ
all_automata = 255

-- the terms of a search with A imposed and O owed
pub record Asks (terms : Terms) (A O : ℕ) (more : Terms) : Type 0 where
  pub allowed-is : more.allowed ≡ terms.allowed
  pub every-is : more.constraints ≡ A
  pub owed-is : more.owed ≡ O
  pub last-is : more.last ≡ terms.last

-- automaton j + 1 is one of W, and by what is found it cannot be met together with O; and the first k of these
unfoldable pub is_lacking : Family → ℕ → ℕ → ℕ → Bool
is_lacking found O W j = in_set W j and not (covers found (bit_or O (2 ^ j)))

unfoldable pub lacking_of : Family → ℕ → ℕ → ℕ → ℕ
lacking_of found O W k = set_of (is_lacking found O W) k
