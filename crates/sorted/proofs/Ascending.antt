-- The numbers below n that pass a test, in an ascending list: each of them and no other. And two ascending lists of the same
-- numbers are one list.
use mathlib.Core.Path.{◌≡◌, refl, sym, ap, ◌∙◌}
use mathlib.Core.List.{List, [], ◌∷◌, ◌++◌}
use mathlib.Core.Bool.{Bool, true, false}
use mathlib.Core.Logic.{◌⊎◌, inl, inr, ⊎_elim}
use Prim.Native.Nat.{ℕ, zero, suc, ◌+◌, ◌<◌, ◌≤◌}
use native.Mathlib.Omega.{arith}
use native.Mathlib.Nat.{eq-or-lt_of_le, lt_of_not-le}
use lib.ListN.{get_or, length, length-append, get_or-append}
use lib.Seq.{ext_get_or, get_or_at}
use Rattle.sets.specs.Logic.{pick}
use Rattle.sets.proofs.Tests.{false-true}
use Rattle.sorted.specs.Sorted.{those}

-- x stands at some place of the list
abbrev pub Stands : ℕ → List ℕ → Type 0
Stands x xs = (i : ℕ) × (i < length xs) × (get_or xs i 0 ≡ x)

-- each number of xs stands in ys
abbrev pub Among : List ℕ → List ℕ → Type 0
Among xs ys = (i : ℕ) → i < length xs → Stands (get_or xs i 0) ys

abbrev pub Ascending : List ℕ → Type 0
Ascending xs = (i j : ℕ) → i < j → j < length xs → get_or xs i 0 < get_or xs j 0

-- a list with one number more: its places are those of the list, and the last
module _ (xs : List ℕ) (x : ℕ) where
  longer-by-one : length (xs ++ (x ∷ [])) ≡ length xs + 1
  longer-by-one = length-append xs (x ∷ [])

  earlier : (i : ℕ) → i < length xs → get_or (xs ++ (x ∷ [])) i 0 ≡ get_or xs i 0
  earlier i h = get_or-append xs (x ∷ []) 0 i h

  last : (i : ℕ) → length xs ≡ i → get_or (xs ++ (x ∷ [])) i 0 ≡ x
  last i e = get_or_at xs x [] 0 i e

  place : (i : ℕ) → i < length (xs ++ (x ∷ [])) → (length xs ≡ i) ⊎ (i < length xs)
  place i h = ⊎_elim (λ e. inl (sym e)) inr (eq-or-lt_of_le (omega (arith, longer-by-one)))

  at_each : (A : ℕ → Type 0) → ((i : ℕ) → i < length xs → A (get_or xs i 0)) → A x
      → (i : ℕ) → i < length (xs ++ (x ∷ [])) → A (get_or (xs ++ (x ∷ [])) i 0)
  at_each A before here i l =
      ⊎_elim (λ e. rw (last i e) here) (λ less. rw (earlier i less) (before i less)) (place i l)

  stands-last : Stands x (xs ++ (x ∷ []))
  stands-last = (length xs, omega (arith, longer-by-one), last (length xs) refl)

  stands_on : (k : ℕ) → Stands k xs → Stands k (xs ++ (x ∷ []))
  stands_on k (i, there, e) = (i, omega (arith, longer-by-one), earlier i there ∙ e)

  still-ascending : Ascending xs → ((i : ℕ) → i < length xs → get_or xs i 0 < x) → Ascending (xs ++ (x ∷ []))
  still-ascending up below i j less l =
      ⊎_elim (λ e. rw (last j e, earlier i (omega arith)) (below i (omega arith)))
      (λ there. rw (earlier j there, earlier i (omega arith)) (up i j less there)) (place j l)

pub record Those (p : ℕ → Bool) (n : ℕ) (xs : List ℕ) : Type 0 where
  pub below : (i : ℕ) → i < length xs → get_or xs i 0 < n
  pub only : (i : ℕ) → i < length xs → p (get_or xs i 0) ≡ true
  pub every : (k : ℕ) → k < n → p k ≡ true → Stands k xs
  pub ascending : Ascending xs

module _ (p : ℕ → Bool) (n : ℕ) {xs : List ℕ} (h : Those p n xs) where
  last-or-less : {A : Type 0} (k : ℕ) → k < suc n → (k ≡ n → A) → (k < n → A) → A
  last-or-less k l same less = ⊎_elim same less (eq-or-lt_of_le (omega arith))

  -- n passes: it is the last
  one_more : p n ≡ true → Those p (suc n) (xs ++ (n ∷ []))
  one_more passes =
      record {
        below = at_each xs n (λ k. k < suc n) (λ i l. omega (arith, h.below i l)) (omega arith);
        only = at_each xs n (λ k. p k ≡ true) h.only passes;
        every = λ k l pk. last-or-less k l (λ e. rw e (stands-last xs n)) (λ less. stands_on xs n k (h.every k less pk));
        ascending = still-ascending xs n h.ascending h.below;
      }

  -- n does not pass
  none_more : p n ≡ false → Those p (suc n) xs
  none_more fails =
      record {
        below = λ i l. omega (arith, h.below i l);
        only = h.only;
        every = λ k l pk.
            last-or-less k l (λ e. absurd (false-true (sym fails ∙ ap p (sym e) ∙ pk))) (λ less. h.every k less pk);
        ascending = h.ascending;
      }

pub those-numbers : (p : ℕ → Bool) (n : ℕ) → Those p n (those p n)
unfolding those pick
those-numbers p zero =
    record {
      below = λ i l. absurd (omega arith);
      only = λ i l. absurd (omega arith);
      every = λ k l pk. absurd (omega arith);
      ascending = λ i j less l. absurd (omega arith);
    }
those-numbers p (suc n) = go (p n) refl (those-numbers p n)
  where
    go : (b : Bool) → p n ≡ b → Those p n (those p n) → Those p (suc n) (pick (p n) (those p n ++ (n ∷ [])) (those p n))
    go true e before = rw e (one_more p n before e)
    go false e before = rw e (none_more p n before e)

-- numbers do not descend along an ascending list
ascending-le : (xs : List ℕ) → Ascending xs → (i j : ℕ) → i ≤ j → j < length xs → get_or xs i 0 ≤ get_or xs j 0
ascending-le xs up i j le l =
    ⊎_elim (λ e. rw e (omega arith)) (λ less. omega (arith, up i j less l)) (eq-or-lt_of_le le)

-- each number stands once
pub one_place : (xs : List ℕ) → Ascending xs → (i j : ℕ) → i < length xs → j < length xs → get_or xs i 0 ≡ get_or xs j 0 → i ≡ j
one_place xs up i j l l' e =
    let one = lt_of_not-le {n = suc i} {m = j} (λ less. omega (arith, up i j less l')) in
    let two = lt_of_not-le {n = suc j} {m = i} (λ less. omega (arith, up j i less l)) in
    omega arith

-- where each number of xs stands in ys, both ascending, ys reaches as far, and its number at each place is no greater
module _ (xs ys : List ℕ) (up : Ascending xs) (up' : Ascending ys) (among : Among xs ys) where
  no-greater : (i : ℕ) → i < length xs → (i < length ys) × (get_or ys i 0 ≤ get_or xs i 0)
  no-greater zero l =
      let (k, there, e) = among 0 l in
      (omega arith, omega (arith, ascending-le ys up' 0 k (omega arith) there))
  no-greater (suc i) l =
      let (k, there, e) = among (suc i) l in
      let before = no-greater i (omega arith) in
      let less = up i (suc i) (omega arith) l in
      let on = lt_of_not-le {n = k} {m = i} (λ back. omega (arith, ascending-le ys up' k i back before.0)) in
      (omega arith, omega (arith, ascending-le ys up' (suc i) k on there))

  reaches : length xs ≤ length ys
  reaches =
      let far = lt_of_not-le {n = suc (length ys)} {m = length xs} (λ l. omega (arith, (no-greater (length ys) l).0)) in
      omega arith

pub one_list : (xs ys : List ℕ) → Ascending xs → Ascending ys → Among xs ys → Among ys xs → xs ≡ ys
one_list xs ys up up' among among' =
    ext_get_or 0 xs ys (omega (arith, reaches xs ys up up' among, reaches ys xs up' up among'))
    (λ i l. let (l', le) = no-greater xs ys up up' among i l in omega (arith, (no-greater ys xs up' up among' i l').1))
