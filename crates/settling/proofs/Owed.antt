-- The automata that a set may owe, the terms that owe them all, and those of them that cannot be met.
use mathlib.Core.Path.{◌≡◌, refl, sym, ap, ◌∙◌}
use mathlib.Core.List.{List}
use mathlib.Core.Bool.{Bool, true, false, not}
use Prim.Native.Nat.{ℕ, suc, ◌^◌, ◌<◌}
use native.Mathlib.Omega.{arith}
use lib.Bits.{and_zero_r, bit_and, bit_or, or_lt, or_zero_r}
use lib.Dec.{eqb, ltb}
use borrow.Author.Tests.{eq-eqb, eqb-true, lt-ltb, ltb-true}
use Rattle.sets.specs.Logic.{◌and◌, pick}
use Rattle.sets.specs.Sets.{in_set, set_of}
use Rattle.sets.proofs.Tests.{and_both, and_first, and_is, and-is-off, and_second, same_test}
use Rattle.sets.proofs.Members.{in_set-and, members-below, same-members, set_of-members}
use Rattle.families.specs.Families.{all_sets, covers}
use Rattle.families.specs.declared.Family.{Family}
use Rattle.table.specs.Layout.{automata, automaton}
use Rattle.table.specs.Holding.{WellFormed}
use Rattle.attached.specs.Attached.{automata_of, marked_of, owed_of}
use Rattle.goals.specs.declared.Terms.{Terms}
use Rattle.settling.specs.Settling.{Asks, all_automata, is_lacking}

-- what cannot be met beside what is owed
pub lacking-unasked : (found : Family) (O W j : ℕ) → in_set W j ≡ false → false ≡ is_lacking found O W j
unfolding is_lacking
lacking-unasked found O W j out = sym (and-is-off _ out)

pub lacking-told : (found : Family) (O W j : ℕ) → in_set W j ≡ true → {told : Bool} → told ≡ covers found (bit_or O (2 ^ j))
    → not told ≡ is_lacking found O W j
unfolding is_lacking
lacking-told found O W j asked e = ap not e ∙ sym (and_is asked refl)

-- the automata of a table that demand some word
module _ (t : List ℕ) (wf : WellFormed t) where
  pub all_there : (k : ℕ) → k < automata t → in_set all_automata k ≡ true
  unfolding set_of pick
  all_there k l =
      let all : set_of (λ x. true) 8 ≡ all_automata = refl in
      sym (ap (λ x. in_set x k) all)
      ∙ set_of-members (λ x. true) 8 k ∙ and_both (lt-ltb k 8 (omega (arith, wf.sized.counted.few_automata))) refl

  marked-members : (A k : ℕ) → in_set (marked_of t A) k ≡ (ltb k (automata t) and in_set A k and eqb (automaton t (suc k)).mark 1)
  unfolding marked_of
  marked-members A k = set_of-members _ (automata t) k

  pub marked-shows : (A k : ℕ) → in_set (marked_of t A) k ≡ true
      → (k < automata t) × (in_set A k ≡ true) × ((automaton t (suc k)).mark ≡ 1)
  marked-shows A k h =
      let all = sym (marked-members A k) ∙ h in
      let both = and_second _ _ all in
      (ltb-true k _ (and_first _ _ all), and_first _ _ both, eqb-true _ 1 (and_second _ _ both))

  pub marked-reached : (A k : ℕ) → k < automata t → in_set A k ≡ true → (automaton t (suc k)).mark ≡ 1
      → in_set (marked_of t A) k ≡ true
  marked-reached A k l member one =
      marked-members A k ∙ and_both (lt-ltb k _ l) (and_both member (eq-eqb _ 1 one))

  -- those that a set may owe are those of its automata that are marked
  pub owed-marked : (S : ℕ) → bit_and (automata_of t S) (marked_of t all_automata) ≡ owed_of t S
  unfolding owed_of
  owed-marked S =
      same-members _ _ (λ k. in_set-and (automata_of t S) (marked_of t all_automata) k ∙ same_test _ _
      (λ h.
      let (l, all, one) = marked-shows all_automata k (and_second _ _ h) in
      marked-reached (automata_of t S) k l (and_first _ _ h) one)
      (λ h.
      let (l, borne, one) = marked-shows (automata_of t S) k h in
      and_both borne (marked-reached all_automata k l (all_there k l) one)))

  pub owed-shows : (S k : ℕ) → in_set (owed_of t S) k ≡ true
      → (k < automata t) × (in_set (automata_of t S) k ≡ true) × ((automaton t (suc k)).mark ≡ 1)
  unfolding owed_of
  owed-shows S k = marked-shows (automata_of t S) k

  pub owed-few : (S : ℕ) → owed_of t S < all_sets
  owed-few S = members-below _ 8 (λ k h. omega (arith, (owed-shows S k h).0, wf.sized.counted.few_automata))

  pub asked-few : (S O : ℕ) → O < all_sets → bit_or O (owed_of t S) < all_sets
  asked-few S O few = or_lt 8 O (owed_of t S) few (owed-few S)

  -- the terms with all that the set may owe
  module _ (terms : Terms) {marks : ℕ} (is : marks ≡ marked_of t all_automata) where
    all-owed : bit_and (automata_of t terms.allowed) marks ≡ owed_of t terms.allowed
    all-owed = rw is (owed-marked terms.allowed)

    pub asks-unmarked : marks ≡ 0 → Asks terms terms.constraints (bit_or terms.owed (owed_of t terms.allowed)) terms
    asks-unmarked none =
        record {
          allowed-is = refl;
          every-is = refl;
          owed-is = sym (ap (bit_or terms.owed) (sym all-owed ∙ rw none (and_zero_r (automata_of t terms.allowed))) ∙ or_zero_r terms.owed);
          last-is = refl;
        }

    pub asks-all : {borne : ℕ} → borne ≡ automata_of t terms.allowed → (more : Terms) → more.allowed ≡ terms.allowed
        → more.constraints ≡ terms.constraints → more.owed ≡ bit_or terms.owed (bit_and borne marks)
        → more.last ≡ terms.last
        → Asks terms terms.constraints (bit_or terms.owed (owed_of t terms.allowed)) more
    asks-all bears more allowed every owed last =
        record {
          allowed-is = allowed;
          every-is = every;
          owed-is = owed ∙ ap (bit_or terms.owed) (rw bears all-owed);
          last-is = last;
        }
