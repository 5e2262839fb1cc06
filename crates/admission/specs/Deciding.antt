-- What the functions of src/lib.rt ask and promise each other while they decide one automaton after the other.
use Rattle.std.specs.Prelude.{ℕ, ◌-◌, ◌<◌, ◌≤◌, ◌≡◌, List, true}
use Rattle.std.specs.Int.Bits.{bit_or}
use Rattle.sets.specs.Sets.{in_set}
use Rattle.families.specs.Families.{all_sets}
use Rattle.families.specs.declared.Family.{Family}
use Rattle.table.specs.Layout.{automata}
use Rattle.table.specs.declared.Query.{Query}
use Rattle.attached.specs.Attached.{automata_of, marked_of, owed_of}
use Rattle.members.specs.Members.{Members}
use Rattle.goals.specs.declared.Terms.{Terms}
use Rattle.search.specs.Search.{TellsMet}
use Rattle.search.specs.declared.prepared.Request.{Request}
use Rattle.settling.specs.Settling.{all_automata}

-- the first k automata are to be decided, on the terms of a search: `marks` has those of the table that demand some word
pub record Undecided (r : Request) (rows : List ℕ) (terms : Terms) (marks k : ℕ) : Type 0 where
  pub members : Members r.table.now terms.allowed r.query.depth terms.last rows
  pub marks-are : marks ≡ marked_of r.table.now all_automata
  pub there : k ≤ automata r.table.now
  pub few : terms.owed < all_sets

-- what can be met of `asked`, which is all that is owed and all that the set may owe
pub record MetFound (t : List ℕ) (q : Query) (terms : Terms) (asked : ℕ) (found : Family) : Type 0 where
  pub asked_is : asked ≡ bit_or terms.owed (owed_of t terms.allowed)
  pub tells : TellsMet t q terms.allowed terms.constraints (bit_or terms.owed (owed_of t terms.allowed)) found

-- which automata the set bears, and what can be met of all that it may owe
pub record Known (t : List ℕ) (q : Query) (terms : Terms) (borne : ℕ) (found : Family) : Type 0 where
  pub bears : borne ≡ automata_of t terms.allowed
  pub tells : TellsMet t q terms.allowed terms.constraints (bit_or terms.owed (owed_of t terms.allowed)) found

-- automaton k is there and some credential of the set bears it
pub record Borne (t : List ℕ) (S k : ℕ) : Type 0 where
  pub some : k ≡ 0 → ⊥
  pub borne : in_set (automata_of t S) (k - 1) ≡ true
