-- The used set says which credentials a forest names, and the automata of that set are those that the forest uses: automaton k
-- is in it exactly where a named credential has it.
use mathlib.Core.Path.{◌≡◌, refl, sym, ap, ◌∙◌}
use mathlib.Core.List.{List}
use mathlib.Core.Bool.{Bool, true, false, not}
use Prim.Native.Nat.{ℕ, zero, suc, ◌-◌, ◌^◌, ◌<◌, ◌≤◌}
use native.Mathlib.Omega.{arith}
use native.Mathlib.Numerals.{sub-one}
use lib.Bits.{bit_or}
use lib.Dec.{eqb, eqb-suc-suc}
use borrow.Author.Tests.{eqb-true, eqb-false, eq-eqb, ne_eqb, not-true}
use Rattle.sets.specs.Logic.{◌and◌, ◌or◌, any_below}
use Rattle.table.specs.Layout.{Numbered, credential, credentials}
use Rattle.table.specs.declared.Goal.{Goal}
use Rattle.sets.proofs.Tests.{and_both, and_first, and_second, any-reached, any-shows, false-true, same_test}
use Rattle.sets.proofs.Tests.{or_assoc, or-either, or-false, or-first, or-none, or-second}
use Rattle.sets.specs.Sets.{in_set}
use Rattle.sets.proofs.Members.{in_set-zero, in_set-or, in_set-pow, in_set-pick}
use Rattle.derivation.specs.Forest.{Derives, Forest, names, used_from, used_set}
use Rattle.derivation.specs.Forest.Forest.{end, node}
use Rattle.derivation.specs.Forest.DerivesBy.{done, step}
use Rattle.derivation.specs.Words.{uses_automaton, uses_by}
use Rattle.attached.specs.Attached.{automata_of, automata_up_to}
use Rattle.derivation.proofs.Applying.{applies-numbered}

-- a number from 1 on has its place in a set one lower
pub placed : {n c : ℕ} → Numbered n c → (c - 1 < n) × (suc (c - 1) ≡ c)
placed there = (omega arith, omega arith)

place : (c i : ℕ) → (c ≡ 0 → ⊥) → eqb (c - 1) i ≡ eqb c (suc i)
place zero i h = absurd (h refl)
place (suc c) i h = rw (sub-one (suc c), eqb-suc-suc c i)

-- where no credential is 0, the used set has those that were in it before and those that are named
pub used-member : (f : Forest) → names f 0 ≡ false → (used i : ℕ) → in_set (used_from used f) i ≡ (in_set used i or names f (suc i))
unfolding used_from names
used-member end h used i = sym (or-false (in_set used i))
used-member (node c m children siblings) h used i =
    let here = or-none _ _ h in
    let later = or-none _ _ here.1 in
    used-member siblings later.1 _ i
    ∙ rw (used-member children later.0 (bit_or used (2 ^ (c - 1))) i, in_set-or used (2 ^ (c - 1)) i, in_set-pow (c - 1) i)
    (rw (place c i (eqb-false c 0 here.0), or_assoc) (or_assoc (in_set used i) _ _))

-- in a derivation each named credential is one of the table's, and the used set is the set of those named
pub named-numbered : (t : List ℕ) {l : ℕ} {b gs : List Goal} {f : Forest} → Derives t l b gs f
    → (c : ℕ) → names f c ≡ true → Numbered (credentials t) c
unfolding names
named-numbered t done c h = absurd (false-true h)
named-numbered t (step {c = c'} {m} {goals} {g} p new children siblings) c h =
    or-either
    (λ e. rw (eqb-true c' c e) at (applies-numbered t g c' m goals p))
    (or-either (named-numbered t children c) (named-numbered t siblings c))
    h

module _ (t : List ℕ) (l : ℕ) (b gs : List Goal) (f : Forest) (d : Derives t l b gs f) where
  none-named-0 : names f 0 ≡ false
  none-named-0 = go (names f 0) refl
    where
      go : (x : Bool) → names f 0 ≡ x → names f 0 ≡ false
      go true e = absurd (let h = named-numbered t d 0 e in omega arith)
      go false e = e

  pub used-at : (i : ℕ) → in_set (used_set f) i ≡ names f (suc i)
  unfolding used_set ◌or◌
  used-at i = used-member f none-named-0 0 i ∙ rw (in_set-zero i)

  pub used-named : (c : ℕ) → names f c ≡ true → in_set (used_set f) (c - 1) ≡ true
  used-named c named = used-at (c - 1) ∙ rw (placed (named-numbered t d c named)).1 named

-- the automata of a set of credentials: automaton k + 1
module _ (t : List ℕ) (S k : ℕ) where
  -- credential i + 1 is in the set and has the automaton
  attaches : ℕ → Bool
  attaches i = (in_set S i and not (eqb (credential t (suc i)).automaton 0)) and eqb ((credential t (suc i)).automaton - 1) k

  automata-any : (n : ℕ) → in_set (automata_up_to t S n) k ≡ any_below attaches n
  unfolding automata_up_to any_below attaches
  automata-any zero = in_set-zero k
  automata-any (suc n) = in_set-pick _ (automata_up_to t S n) ((credential t (suc n)).automaton - 1) k ∙ rw (automata-any n)

  attaches-shows : (i : ℕ) → attaches i ≡ true → (in_set S i ≡ true) × ((credential t (suc i)).automaton ≡ suc k)
  unfolding attaches
  attaches-shows i h =
      let both = and_first _ _ h in
      let has = eqb-false (credential t (suc i)).automaton 0 (not-true _ (and_second _ _ both)) in
      (and_first _ _ both, omega (arith, eqb-true _ k (and_second _ _ h)))

  attaches-holds : (i : ℕ) → in_set S i ≡ true → (credential t (suc i)).automaton ≡ suc k → attaches i ≡ true
  unfolding attaches
  attaches-holds i member own =
      let has = ap not (ne_eqb (credential t (suc i)).automaton 0 (λ z. omega arith)) in
      and_both (and_both member has) (eq-eqb _ k (omega arith))

  -- an automaton in the set is attached to a credential of the set, and such a one is in it
  pub automaton-shows : in_set (automata_of t S) k ≡ true
      → (i : ℕ) × (i < credentials t) × (in_set S i ≡ true) × ((credential t (suc i)).automaton ≡ suc k)
  unfolding automata_of
  automaton-shows h =
      let found = any-shows attaches (credentials t) (sym (automata-any (credentials t)) ∙ h) in
      let own = attaches-shows found.0 found.2 in
      (found.0, found.1, own.0, own.1)

  pub automaton-reached : (i : ℕ) → i < credentials t → in_set S i ≡ true → (credential t (suc i)).automaton ≡ suc k
      → in_set (automata_of t S) k ≡ true
  unfolding automata_of
  automaton-reached i there member own =
      automata-any (credentials t) ∙ any-reached attaches (credentials t) i there (attaches-holds i member own)

-- the same by the numbers of credential and automaton
pub automaton-imposed : (t : List ℕ) (S c : ℕ) {k : ℕ} → Numbered (credentials t) c → in_set S (c - 1) ≡ true
    → (credential t c).automaton ≡ suc k → in_set (automata_of t S) k ≡ true
automaton-imposed t S c {k} there member own =
    let at = placed there in
    automaton-reached t S k (c - 1) at.0 member (rw at.1 own)

-- a forest uses the automata of the credentials that it names
module _ (t : List ℕ) (k : ℕ) where
  pub uses-reached : (f : Forest) (c : ℕ) → names f c ≡ true → (credential t c).automaton ≡ k → uses_automaton t f k ≡ true
  unfolding names uses_by
  uses-reached end c h e = h
  uses-reached (node c' m children siblings) c h e =
      or-either
      (λ same. or-first _ (eq-eqb (credential t c').automaton k (rw (eqb-true c' c same) e)))
      (or-either
      (λ below. or-second _ (or-first _ (uses-reached children c below e)))
      (λ later. or-second _ (or-second _ (uses-reached siblings c later e))))
      h

  pub uses-shows : (f : Forest) → uses_automaton t f k ≡ true → (c : ℕ) × (names f c ≡ true) × ((credential t c).automaton ≡ k)
  unfolding names uses_by
  uses-shows end h = absurd (false-true h)
  uses-shows (node c m children siblings) h =
      or-either
      (λ here. (c, or-first _ (eq-eqb c c refl), eqb-true _ _ here))
      (or-either
      (λ below. let found = uses-shows children below in (found.0, or-second _ (or-first _ found.1), found.2))
      (λ later. let found = uses-shows siblings later in (found.0, or-second _ (or-second _ found.1), found.2)))
      h

-- the automata of the used set are those that the forest uses
module _ (t : List ℕ) (l : ℕ) (b gs : List Goal) (f : Forest) (d : Derives t l b gs f) (k : ℕ) (first : 1 ≤ k) where
  next : suc (k - 1) ≡ k
  next = omega arith

  imposed-used : in_set (automata_of t (used_set f)) (k - 1) ≡ true → uses_automaton t f k ≡ true
  imposed-used h =
      let found = automaton-shows t (used_set f) (k - 1) h in
      uses-reached t k f (suc found.0) (sym (used-at t l b gs f d found.0) ∙ found.2) (found.3 ∙ next)

  used-imposed : uses_automaton t f k ≡ true → in_set (automata_of t (used_set f)) (k - 1) ≡ true
  used-imposed h =
      let found = uses-shows t k f h in
      let there = named-numbered t d found.0 found.1 in
      automaton-imposed t (used_set f) found.0 there (used-named t l b gs f d found.0 found.1) (found.2 ∙ sym next)

  pub automata-used : in_set (automata_of t (used_set f)) (k - 1) ≡ uses_automaton t f k
  automata-used = same_test _ _ imposed-used used-imposed
