-- Laws of stages of checks: `demand` and `demand_each` one after the other, and what is known where all of them passed,
-- or where one stopped.
use mathlib.Core.Path.{◌≡◌, refl, sym, ap}
use mathlib.Core.Bool.{Bool, true, false}
use mathlib.Core.Logic.{◌⊎◌, inl, inr, ⊎_elim}
use Prim.Native.Nat.{ℕ, zero, suc, ◌+◌, ◌≤◌, ◌<◌}
use native.Mathlib.Omega.{arith}
use native.Mathlib.Numerals.{add-one}
use native.Mathlib.Nat.{eq-or-lt_of_le}
use Rattle.table.specs.Outcome.{Outcome, ◌and_then◌, demand, demand_each}
use Rattle.table.specs.Outcome.Outcome.{accepted, refused}
use Rattle.table.specs.Layout.{Numbered}

pub refused-accepted : {number position v : ℕ} → refused number position ≡ accepted v → ⊥
refused-accepted e = let z : ◌≡◌ {A = ℕ} 0 1 = cc in omega arith

module _ (number position : ℕ) where
  pub demand-on : {p : Bool} {later : Outcome} → p ≡ true → (demand p number position and_then later) ≡ later
  unfolding demand ◌and_then◌
  demand-on h = rw h

  pub demand-off : {p : Bool} (later : Outcome) → p ≡ false → (demand p number position and_then later) ≡ refused number position
  unfolding demand ◌and_then◌
  demand-off later h = rw h

  -- the last stage
  pub demand-passes : {p : Bool} → p ≡ true → demand p number position ≡ accepted 0
  unfolding demand
  demand-passes h = rw h

  pub demand-stops : {p : Bool} → p ≡ false → demand p number position ≡ refused number position
  unfolding demand
  demand-stops h = rw h

-- a stage that has passed leaves the word to those after it
pub then-on : {a later : Outcome} {v : ℕ} → a ≡ accepted v → later ≡ (a and_then later)
unfolding ◌and_then◌
then-on h = rw h

-- every stage of a chain that passes has passed
pub then-first : (a later : Outcome) (v : ℕ) → (a and_then later) ≡ accepted v → (w : ℕ) × (a ≡ accepted w)
unfolding ◌and_then◌
then-first (accepted w) later v e = (w, refl)
then-first (refused number position) later v e = absurd (refused-accepted e)

pub then-second : (a later : Outcome) (v : ℕ) → (a and_then later) ≡ accepted v → later ≡ accepted v
unfolding ◌and_then◌
then-second (accepted w) later v e = e
then-second (refused number position) later v e = absurd (refused-accepted e)

-- a chain that stops: its first part does, or has passed and the rest does
pub then-refused : (a later : Outcome) (number position : ℕ) → (a and_then later) ≡ refused number position
    → (a ≡ refused number position) ⊎ ((w : ℕ) × (a ≡ accepted w) × (later ≡ refused number position))
unfolding ◌and_then◌
then-refused (accepted w) later number position e = inr (w, refl, e)
then-refused (refused number' position') later number position e = inl e

pub demand-true : (p : Bool) (number position v : ℕ) → demand p number position ≡ accepted v → p ≡ true
unfolding demand
demand-true true number position v e = refl
demand-true false number position v e = absurd (refused-accepted e)

-- a check that stops does so with its own number and position
demand-refused : (p : Bool) (number position number' position' : ℕ) → demand p number position ≡ refused number' position'
    → (p ≡ false) × (number ≡ number') × (position ≡ position')
unfolding demand
demand-refused true number position number' position' e = absurd (refused-accepted (sym e))
demand-refused false number position number' position' e = (refl, (cc), (cc))

-- of the records 1 to n, this one is the first that is not ok
pub record FirstFailure (ok : ℕ → Bool) (n position : ℕ) : Type 0 where
  pub within : Numbered n position
  pub fails : ok position ≡ false
  pub before : (j : ℕ) → Numbered n j → j < position → ok j ≡ true

-- a row of checks on the records 1 to n; a loop has passed the first i of them and looks at i + 1
module _ (ok : ℕ → Bool) (number : ℕ) where
  each_next : (i : ℕ) → demand_each ok (i + 1) number ≡ (demand_each ok i number and_then demand (ok (i + 1)) number (i + 1))
  unfolding demand_each
  each_next i = rw (add-one i)

  -- record i + 1 passes too
  pub each-passes : (i : ℕ) → demand_each ok i number ≡ accepted 0 → ok (i + 1) ≡ true
      → demand_each ok (i + 1) number ≡ accepted 0
  unfolding demand ◌and_then◌
  each-passes i before here = rw (each_next i, before, here)

  -- a refusal stays, however many records follow
  each-stays : (i n position : ℕ) → i ≤ n → demand_each ok i number ≡ refused number position
      → demand_each ok n number ≡ refused number position
  unfolding demand_each ◌and_then◌
  each-stays i zero position h e = let z : i ≡ 0 = omega arith in rw z at e
  each-stays i (suc n) position h e =
      ⊎_elim (λ same. rw same at e) (λ less. rw (each-stays i n position (omega arith) e)) (eq-or-lt_of_le h)

  -- the row stops at record i + 1
  pub each-stops : (i n : ℕ) → i + 1 ≤ n → demand_each ok i number ≡ accepted 0 → ok (i + 1) ≡ false
      → refused number (i + 1) ≡ demand_each ok n number
  unfolding demand ◌and_then◌
  each-stops i n h before here = sym (each-stays (i + 1) n (i + 1) h (rw (each_next i, before, here)))

  -- the row passes once the loop is through
  pub each-through : (i n : ℕ) → i ≡ n → demand_each ok i number ≡ accepted 0 → accepted 0 ≡ demand_each ok n number
  each-through i n same e = sym (rw same at e)

  -- where the row passes, every record is ok
  pub each-ok : (n v : ℕ) → demand_each ok n number ≡ accepted v → (i : ℕ) → Numbered n i → ok i ≡ true
  unfolding demand_each
  each-ok zero v e i h = absurd (omega arith)
  each-ok (suc n) v e i h =
      ⊎_elim (λ same. rw same (demand-true (ok (suc n)) number (suc n) v (then-second (demand_each ok n number) _ v e)))
      (λ less. each-ok n _ (then-first (demand_each ok n number) _ v e).1 i (omega arith))
      (eq-or-lt_of_le h.last)

  -- the row passes where every record is ok
  pub each_all : (n : ℕ) → ((i : ℕ) → Numbered n i → ok i ≡ true) → demand_each ok n number ≡ accepted 0
  unfolding demand_each ◌and_then◌
  each_all zero every = refl
  each_all (suc n) every =
      rw (each_all n (λ i h. every i (omega arith)))
      (demand-passes number (suc n) (every (suc n) (omega arith)))

  -- one more record changes nothing
  later-failure : {n position : ℕ} → FirstFailure ok n position → FirstFailure ok (suc n) position
  later-failure f =
      record {
        within = omega arith;
        fails = f.fails;
        before = λ j h less. f.before j (omega arith) less;
      }

  -- the records before it passed, and the last is not ok
  last-failure : (n w : ℕ) → demand_each ok n number ≡ accepted w → ok (suc n) ≡ false → FirstFailure ok (suc n) (suc n)
  last-failure n w passed fails =
      record {
        within = omega arith;
        fails = fails;
        before = λ j h less. each-ok n w passed j (omega arith);
      }

  last-refused : (n w number' position : ℕ) → demand_each ok n number ≡ accepted w
      → demand (ok (suc n)) number (suc n) ≡ refused number' position → (number ≡ number') × FirstFailure ok (suc n) position
  last-refused n w number' position passed e =
      let (fails, own, here) = demand-refused (ok (suc n)) number (suc n) number' position e in
      (own, rw (← here) (last-failure n w passed fails))

  -- where the row stops, it tells its own number, and the first record that is not ok
  pub each-refused : (n number' position : ℕ) → demand_each ok n number ≡ refused number' position
      → (number ≡ number') × FirstFailure ok n position
  unfolding demand_each
  each-refused zero number' position e = absurd (refused-accepted (sym e))
  each-refused (suc n) number' position e =
      ⊎_elim (λ earlier. let (own, first) = each-refused n number' position earlier in (own, later-failure first))
      (λ (w, passed, last). last-refused n w number' position passed last)
      (then-refused (demand_each ok n number) _ number' position e)

  -- the row stops at the first record that is not ok
  pub each_first : (n position : ℕ) → FirstFailure ok n position → demand_each ok n number ≡ refused number position
  unfolding demand_each demand ◌and_then◌
  each_first n zero f = absurd (omega arith)
  each_first n (suc i) f =
      each-stays (suc i) n (suc i) f.within.last
      (rw (each_all i (λ j h. f.before j (omega arith) (omega arith)), f.fails))

-- tests that agree on 1 to n stop a row of checks at the same record
pub each-alike : (p q : ℕ → Bool) (n number : ℕ) → ((k : ℕ) → Numbered n k → p k ≡ q k)
    → demand_each p n number ≡ demand_each q n number
unfolding demand_each
each-alike p q zero number same = refl
each-alike p q (suc n) number same =
    rw (each-alike p q n number (λ k h. same k (omega arith)), same (suc n) (omega arith))

-- what passes has the value 0
demand-value : (p : Bool) (number position v : ℕ) → demand p number position ≡ accepted v → v ≡ 0
unfolding demand
demand-value true number position v e = cc
demand-value false number position v e = absurd (refused-accepted e)

pub each-value : (ok : ℕ → Bool) (n number v : ℕ) → demand_each ok n number ≡ accepted v → v ≡ 0
unfolding demand_each
each-value ok zero number v e = cc
each-value ok (suc n) number v e = demand-value (ok (suc n)) number (suc n) v (then-second (demand_each ok n number) _ v e)

-- a row of which nothing follows tells the same by itself
pub each_last : (ok : ℕ → Bool) (n number : ℕ) → (demand_each ok n number and_then accepted 0) ≡ demand_each ok n number
unfolding ◌and_then◌
each_last ok n number = go (demand_each ok n number) refl
  where
    go : (o : Outcome) → demand_each ok n number ≡ o → (o and_then accepted 0) ≡ o
    go (accepted v) e = ap accepted (sym (each-value ok n number v e))
    go (refused number' position) e = refl

-- stages that tell the same, and where they pass what follows them does
pub then-alike : {a b later later' : Outcome} → a ≡ b → ((v : ℕ) → b ≡ accepted v → later ≡ later')
    → (a and_then later) ≡ (b and_then later')
unfolding ◌and_then◌
then-alike {b = b} {later} {later'} same after = rw same (go b refl)
  where
    go : (o : Outcome) → b ≡ o → (o and_then later) ≡ (o and_then later')
    go (accepted v) e = after v e
    go (refused number position) e = refl

-- a refusal stays, whatever would follow
pub refused-then : {o : Outcome} {number position : ℕ} (later : Outcome) → refused number position ≡ o
    → refused number position ≡ (o and_then later)
unfolding ◌and_then◌
refused-then later h = rw (← h)
