-- The masks that the verifier keeps say of a whole record what its forest says: an automaton stays in the set of those that have
-- accepted every word exactly where it accepts every word of the forest, and comes into the set of those that have accepted some
-- word exactly where it accepts one, so refusal 14 comes out the same.
use mathlib.Core.Path.{◌≡◌, sym, ◌∙◌}
use mathlib.Core.List.{List, [], ◌∷◌, ◌++◌}
use mathlib.Core.Bool.{Bool, true, false}
use Prim.Native.Nat.{ℕ, ◌-◌, ◌≤◌}
use native.Mathlib.Omega.{arith}
use lib.Bits.{bit_and, bit_or}
use lib.Dec.{eqb}
use borrow.Author.Tests.{lt-ltb}
use Rattle.sets.specs.Logic.{◌and◌, ◌or◌, pick}
use Rattle.sets.specs.Sets.{in_set, set_of}
use Rattle.sets.proofs.Tests.{and_assoc, and-true, or_assoc, or-false, pick-apart}
use Rattle.sets.proofs.Members.{in_set-and, in_set-or, in_set-zero, set_of-members}
use Rattle.table.specs.Limits.{most_automata}
use Rattle.table.specs.Outcome.{demand_each}
use Rattle.table.specs.Layout.{Numbered, automata, automaton, credential}
use Rattle.table.specs.Holding.{WellFormed}
use Rattle.table.specs.declared.Goal.{Goal}
use Rattle.table.specs.declared.Role.{Role}
use Rattle.table.proofs.Stages.{each-alike}
use Rattle.automata.specs.Automata.{accepts}
use Rattle.automata.specs.Together.{accepting_set, starting_sets}
use Rattle.derivation.specs.Forest.{Derives, Forest, used_set}
use Rattle.derivation.specs.Forest.Forest.{end, node}
use Rattle.derivation.specs.Words.{accepts_all, accepts_some, demanded_by, every_word, is_met, met, some_word, words, words_by}
use Rattle.reader.specs.Tally.{every_from, kept_from, some_from}
use Rattle.verifier.specs.Kept.{all_automata, keeps}
use Rattle.derivation.proofs.Running.{accepting-member, accepts-all-append, accepts-some-append}
use Rattle.derivation.proofs.Running.{sets-after-next, sets-after-none, sets_after}
use Rattle.derivation.proofs.Using.{automata-used}

all-automata : (k : ℕ) → Numbered most_automata k → in_set all_automata (k - 1) ≡ true
unfolding set_of pick ◌and◌
all-automata k own = set_of-members (λ s. true) most_automata (k - 1) ∙ rw (lt-ltb (k - 1) most_automata (omega arith))

-- one automaton's place in what is kept, joined by `join` as its tests are by `op`: `over` says of a list of words what is kept
-- of them
module _ (t : List ℕ) (k : ℕ) (own : Numbered (automata t) k) (few : automata t ≤ most_automata)
    (join : ℕ → ℕ → ℕ) (op : Bool → Bool → Bool) (over : List (List Role) → Bool)
    (joins : (x y : ℕ) → in_set (join x y) (k - 1) ≡ op (in_set x (k - 1)) (in_set y (k - 1)))
    (none : (b : Bool) → op b (over []) ≡ b)
    (single : (word : List Role) → over (word ∷ []) ≡ accepts t k word)
    (append : (a b : List (List Role)) → over (a ++ b) ≡ op (over a) (over b))
    (assoc : (a b c : Bool) → op (op a b) c ≡ op a (op b c)) where
  -- a node of kind 1 has one word, and any other has those of its children
  node-member : (one : Bool) (kept below : ℕ) (word : List Role) (more : List (List Role))
      → in_set below (k - 1) ≡ op (in_set kept (k - 1)) (over more)
      → in_set (pick one (join kept (accepting_set t (sets_after t word))) below) (k - 1)
      ≡ op (in_set kept (k - 1)) (over (pick one (word ∷ []) more))
  unfolding pick
  node-member true kept below word more h = joins kept _ ∙ rw (accepting-member t k own few word, single word)
  node-member false kept below word more h = h

  kept-member : (above : List Role) (kept : ℕ) (f : Forest)
      → in_set (kept_from join t (sets_after t above) kept f) (k - 1) ≡ op (in_set kept (k - 1)) (over (words t above f))
  unfolding kept_from words_by
  kept-member above kept end = sym (none _)
  kept-member above kept (node c m children siblings) =
      let word = above ++ ((credential t c).role ∷ []) in
      let below = kept-member word kept children in
      let here = node-member (eqb (credential t c).kind 1) kept _ word (words t word children) below in
      rw (sets-after-next t above (credential t c).role, append)
      (kept-member above _ siblings ∙ rw here (assoc _ _ _))

module _ (t : List ℕ) (k : ℕ) (own : Numbered (automata t) k) (few : automata t ≤ most_automata) (f : Forest) where
  every-member : in_set (every_from t (starting_sets t) all_automata f) (k - 1) ≡ accepts_all t k (words t [] f)
  unfolding every_word ◌and◌
  every-member =
      let kept = kept-member t k own few bit_and ◌and◌ (accepts_all t k) (λ x y. in_set-and x y (k - 1)) and-true
      (λ word. and-true (accepts t k word)) (accepts-all-append t k) and_assoc [] all_automata f in
      rw (← sets-after-none t, kept, all-automata k (omega arith))

  some-member : in_set (some_from t (starting_sets t) 0 f) (k - 1) ≡ accepts_some t k (words t [] f)
  unfolding some_word ◌or◌
  some-member =
      let kept = kept-member t k own few bit_or ◌or◌ (accepts_some t k) (λ x y. in_set-or x y (k - 1)) or-false
      (λ word. or-false (accepts t k word)) (accepts-some-append t k) or_assoc [] 0 f in
      rw (← sets-after-none t, kept, in_set-zero (k - 1))

  -- the set that the mark asks for has the automaton exactly where the words are what it demands
  mark-member : in_set (pick (eqb (automaton t k).mark 1) (some_from t (starting_sets t) 0 f)
      (every_from t (starting_sets t) all_automata f)) (k - 1)
      ≡ is_met t k (words t [] f)
  unfolding demanded_by
  mark-member = pick-apart (λ x. in_set x (k - 1)) _ _ _ ∙ rw (some-member, every-member)

pub words-judged : (t : List ℕ) (l : ℕ) (b gs : List Goal) (f : Forest) → WellFormed t → Derives t l b gs f
    → let s = starting_sets t in
    demand_each (keeps t (used_set f) (every_from t s all_automata f) (some_from t s 0 f)) (automata t) 14
    ≡ demand_each (met t f) (automata t) 14
unfolding keeps met
words-judged t l b gs f wf d =
    each-alike _ _ (automata t) 14
    (λ k own.
    let demands = mark-member t k own wf.sized.counted.few_automata f in
    rw (automata-used t l b gs f d k own.first, demands))
