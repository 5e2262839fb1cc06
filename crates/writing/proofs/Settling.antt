-- The automata of a set of credentials by their marks: each is imposed on every word or owed some word, and what a record that
-- uses all of the set complies with is just that.
use mathlib.Core.Path.{◌≡◌, refl, sym, ◌∙◌}
use mathlib.Core.List.{List, []}
use mathlib.Core.Bool.{Bool, true, false, not}
use Prim.Native.Nat.{ℕ, suc, ◌<◌}
use native.Mathlib.Omega.{arith}
use native.Mathlib.Decide.{ℕ_discrete}
use lib.Bits.{bit_xor}
use lib.Dec.{eqb}
use borrow.Author.Tests.{eq-eqb, eqb-true, ne_eqb}
use Rattle.sets.specs.Logic.{◌and◌, pick}
use Rattle.sets.specs.Sets.{in_set, set_of}
use Rattle.sets.proofs.Tests.{and_both, and_first, and_second, false-true, refuted}
use Rattle.sets.proofs.Members.{members-below, same-members, set_of-members}
use Rattle.sets.proofs.Without.{in_set-xor}
use Rattle.families.specs.Families.{all_sets}
use Rattle.table.specs.Layout.{automata, automaton}
use Rattle.table.specs.Holding.{WellFormed}
use Rattle.table.specs.declared.Query.{Query}
use Rattle.table.proofs.WellFormed.{wf-credential, wf-mark}
use Rattle.derivation.specs.Words.{demanded_by, is_met, words}
use Rattle.derivation.specs.Accepted.{Accepted}
use Rattle.attached.specs.Attached.{automata_of, every_of, marked_of, owed_of}
use Rattle.attached.proofs.Attaching.{every-member, owed-member}
use Rattle.derivation.proofs.Using.{automaton-shows}
use Rattle.search.specs.Search.{AllAccept, SomeAccept}
use Rattle.admission.proofs.Admitting.{demanding, used-shows}

-- automaton k + 1 is attached to a credential of the set and has this mark
abbrev Marked : List ℕ → ℕ → ℕ → ℕ → Type 0
Marked t S k mark = (in_set (automata_of t S) k ≡ true) × ((automaton t (suc k)).mark ≡ mark)

module _ (t : List ℕ) (S k : ℕ) where
  by-mark : (mark : ℕ) → in_set (set_of (λ k. in_set (automata_of t S) k and eqb (automaton t (suc k)).mark mark) (automata t)) k
      ≡ true
      → Marked t S k mark
  by-mark mark h =
      let both = and_second _ _ (sym (set_of-members _ (automata t) k) ∙ h) in
      (and_first _ _ both, eqb-true _ mark (and_second _ _ both))

  pub every-shows : in_set (every_of t S) k ≡ true → Marked t S k 0
  unfolding every_of
  every-shows = by-mark 0

  pub owed-shows : in_set (owed_of t S) k ≡ true → Marked t S k 1
  unfolding owed_of marked_of
  owed-shows = by-mark 1

-- what is left of x without its part y is z, which is the rest of it
rest_of : (x y z : Bool) → (y ≡ true → x ≡ true) → (z ≡ true → x ≡ true) → (y ≡ true → z ≡ true → ⊥)
    → (x ≡ true → y ≡ false → z ≡ true) → pick y (not x) x ≡ z
unfolding pick
rest_of true true z f g apart rest = sym (refuted z (apart refl))
rest_of true false z f g apart rest = sym (rest refl refl)
rest_of false true z f g apart rest = absurd (false-true (f refl))
rest_of false false z f g apart rest = sym (refuted z (λ h. false-true (g h)))

module _ (t : List ℕ) (wf : WellFormed t) (S : ℕ) where
  -- the table has each automaton that a credential has
  borne-there : (k : ℕ) → in_set (automata_of t S) k ≡ true → k < automata t
  borne-there k borne =
      let (i, l, member, own) = automaton-shows t S k borne in
      let there = (wf-credential t wf (suc i) (record { first = omega arith; last = l })).automaton in
      omega arith

  pub owed-few : owed_of t S < all_sets
  owed-few =
      members-below (owed_of t S) 8 (λ k h.
      omega (arith, borne-there k (owed-shows t S k h).0, wf.sized.counted.few_automata))

  -- where an automaton is attached to a credential of the set it is in the set of its mark, and not in the other
  module _ (k : ℕ) (borne : in_set (automata_of t S) k ≡ true) where
    is-owed : (automaton t (suc k)).mark ≡ 1 → in_set (owed_of t S) k ≡ true
    is-owed one = owed-member t k (borne-there k borne) S ∙ and_both borne (eq-eqb _ 1 one)

    is-imposed : ((automaton t (suc k)).mark ≡ 1 → ⊥) → in_set (every_of t S) k ≡ true
    is-imposed other =
        let few = wf-mark t wf (suc k) (record { first = omega arith; last = borne-there k borne }) in
        every-member t k (borne-there k borne) S ∙ and_both borne (eq-eqb (automaton t (suc k)).mark 0 (omega arith))

  pub settled : (k : ℕ) → in_set (automata_of t S) k ≡ true → in_set (demanding t (every_of t S) (owed_of t S) k) k ≡ true
  unfolding demanding pick
  settled k borne = go (ℕ_discrete (automaton t (suc k)).mark 1)
    where
      go : Dec ((automaton t (suc k)).mark ≡ 1)
          → in_set (pick (eqb (automaton t (suc k)).mark 1) (owed_of t S) (every_of t S)) k ≡ true
      go (yes one) = rw (eq-eqb _ 1 one) (is-owed k borne one)
      go (no other) = rw (ne_eqb _ 1 other) (is-imposed k borne other)

  -- those that are imposed are those that are not owed, as the code makes them
  pub every_rest : bit_xor (automata_of t S) (owed_of t S) ≡ every_of t S
  every_rest =
      same-members _ _ (λ k. in_set-xor (automata_of t S) (owed_of t S) k
      ∙ rest_of (in_set (automata_of t S) k) (in_set (owed_of t S) k) (in_set (every_of t S) k)
      (λ owed. (owed-shows t S k owed).0) (λ every. (every-shows t S k every).0)
      (λ owed every. omega (arith, (owed-shows t S k owed).1, (every-shows t S k every).1))
      (λ borne other. is-imposed k borne (λ one. false-true (sym other ∙ is-owed k borne one))))

-- a record that is accepted and uses all of the set
module _ (t : List ℕ) (q : Query) (rec : List ℕ) (S : ℕ) (a : Accepted t q rec S) where
  -- each automaton of the set is that of a credential that the record names
  borne-met : (k : ℕ) → in_set (automata_of t S) k ≡ true → is_met t (suc k) (words t [] a.forest) ≡ true
  borne-met k borne =
      let (i, l, member, own) = automaton-shows t S k borne in
      let named = used-shows t a.derives i (rw a.uses member) in
      rw own at (a.complies (suc i) named (λ z. omega (arith, own)))

  pub meets-every : AllAccept t (every_of t S) (words t [] a.forest)
  unfolding demanded_by pick
  meets-every k h =
      let (borne, zero) = every-shows t S k h in
      rw zero at (borne-met k borne)

  pub meets-owed : SomeAccept t (owed_of t S) (words t [] a.forest)
  unfolding demanded_by pick
  meets-owed k h =
      let (borne, one) = owed-shows t S k h in
      rw one at (borne-met k borne)
