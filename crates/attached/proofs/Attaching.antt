-- The automata of a set, credential by credential, as the code gathers them, and which of them demand some word.
use mathlib.Core.Path.{◌≡◌, ◌∙◌}
use mathlib.Core.List.{List}
use mathlib.Core.Bool.{Bool, not}
use Prim.Native.Nat.{ℕ, suc, ◌+◌, ◌-◌, ◌^◌, ◌<◌, ◌≤◌}
use native.Mathlib.Omega.{arith}
use native.Mathlib.Numerals.{add-one}
use lib.Bits.{bit_or}
use lib.Dec.{eqb}
use borrow.Author.Tests.{lt-ltb}
use Rattle.sets.specs.Logic.{◌and◌, pick}
use Rattle.sets.specs.Sets.{in_set, set_of}
use Rattle.sets.proofs.Members.{set_of-members}
use Rattle.table.specs.Limits.{most_automata}
use Rattle.table.specs.Layout.{Numbered, automata, automaton, credential, credentials}
use Rattle.table.specs.Holding.{WellFormed}
use Rattle.table.specs.declared.Credential.{Credential}
use Rattle.table.proofs.WellFormed.{wf-credential}
use Rattle.attached.specs.Attached.{automata_of, automata_up_to, every_of, marked_of, owed_of}

pub automaton-few : (t : List ℕ) → WellFormed t → (i : ℕ) → Numbered (credentials t) i → (x : Credential) → x ≡ credential t i
    → x.automaton ≤ most_automata
automaton-few t wf i there x found =
    let own = (wf-credential t wf i there).automaton in
    let few = wf.sized.counted.few_automata in
    rw found (omega arith)

-- one credential more, which the code has read as x, and whose membership as `member`
pub automata-next : (t : List ℕ) (S i : ℕ) {mask : ℕ} {x : Credential} {member : Bool} → member ≡ in_set S i
    → x ≡ credential t (i + 1)
    → mask ≡ automata_up_to t S i
    → pick (member and not (eqb x.automaton 0)) (bit_or mask (2 ^ (x.automaton - 1))) mask ≡ automata_up_to t S (i + 1)
unfolding automata_up_to
automata-next t S i looked found so_far = rw (looked, found, so_far, add-one i)

-- automaton k + 1 is in the set and has mark 1
abbrev pub is_marked : List ℕ → ℕ → ℕ → Bool
is_marked t A k = in_set A k and eqb (automaton t (suc k)).mark 1

pub marked_all : (t : List ℕ) (A k : ℕ) → k ≡ automata t → set_of (is_marked t A) k ≡ marked_of t A
unfolding marked_of
marked_all t A k all = rw all

-- the members of a set that is made of the table's automata by a test
by-test : (t : List ℕ) (p : ℕ → Bool) (k : ℕ) → k < automata t → in_set (set_of p (automata t)) k ≡ p k
unfolding ◌and◌
by-test t p k there = set_of-members p (automata t) k ∙ rw (lt-ltb k (automata t) there)

-- automaton k + 1 demands some word, or every word, where it is attached to a credential of the set and has the mark for it
module _ (t : List ℕ) (k : ℕ) (there : k < automata t) where
  pub marked-member : (A : ℕ) → in_set (marked_of t A) k ≡ is_marked t A k
  unfolding marked_of
  marked-member A = by-test t (is_marked t A) k there

  pub owed-member : (S : ℕ) → in_set (owed_of t S) k ≡ (in_set (automata_of t S) k and eqb (automaton t (suc k)).mark 1)
  unfolding owed_of
  owed-member S = marked-member (automata_of t S)

  pub every-member : (S : ℕ) → in_set (every_of t S) k ≡ (in_set (automata_of t S) k and eqb (automaton t (suc k)).mark 0)
  unfolding every_of
  every-member S = by-test t _ k there
