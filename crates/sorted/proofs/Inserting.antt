-- A number put among those that a buffer holds, in its place: the buffer then holds it too.
use mathlib.Core.Path.{◌≡◌, refl, sym, ap, ◌∙◌}
use mathlib.Core.List.{List, [], ◌∷◌, ◌++◌, append_assoc, append-nil}
use mathlib.Core.Bool.{Bool, true, false}
use Prim.Native.Nat.{ℕ, zero, suc, ◌+◌, ◌-◌, ◌<◌, ◌≤◌, min}
use native.Mathlib.Omega.{arith}
use native.Mathlib.Decide.{ℕ_discrete}
use lib.ListN.{get_or, length, length-append, get_or-append}
use lib.Seq.{get_or-append-add, get_or-append_seam}
use borrow.Author.Tests.{eq-eqb, ne_eqb}
use Rattle.sets.specs.Logic.{◌or◌}
use Rattle.sets.proofs.Tests.{or-false, or-second}
use Rattle.sorted.specs.Sorted.{HoldsLeast, Inserted, laid, or_is, those}
use Rattle.sorted.proofs.Lists.{less-or-not, those-same, those-skips, those-takes}
use Rattle.sorted.proofs.Ascending.{those-numbers}
use Rattle.sorted.proofs.Between.{between, between-seam, laid-between}
use Rattle.sorted.proofs.Placing.{Placed}
use Rattle.sorted.proofs.Holding.{holds_at, holds-length}

-- the test with x
module _ (p : ℕ → Bool) (x : ℕ) where
  pub or-is-itself : or_is p x x ≡ true
  unfolding or_is
  or-is-itself = or-second (p x) (eq-eqb x x refl)

  pub or-is-other : (y : ℕ) → (x ≡ y → ⊥) → or_is p x y ≡ p y
  unfolding or_is
  or-is-other y apart = ap (λ (b : Bool). p y or b) (ne_eqb x y apart) ∙ or-false (p y)

-- the numbers below n that pass, split at x, which does not pass; and the same with x among them
pub record Split (p : ℕ → Bool) (x n : ℕ) : Type 0 where
  pub rest : List ℕ
  pub without : those p n ≡ those p x ++ rest
  pub with : those (or_is p x) n ≡ those p x ++ x ∷ rest

module _ (p : ℕ → Bool) (x : ℕ) where
  split-here : p x ≡ false → Split p x (suc x)
  split-here fails =
      record {
        rest = [];
        without = those-skips p x fails ∙ sym (append-nil (those p x));
        with =
            those-takes (or_is p x) x (or-is-itself p x)
            ∙ ap (λ (l : List ℕ). l ++ (x ∷ [])) (those-same (or_is p x) p x (λ y l. or-is-other p x y (λ e. omega arith)));
      }

  split-on : (n : ℕ) → x < n → Split p x n → (b : Bool) → p n ≡ b → Split p x (suc n)
  split-on n l s true e =
      record {
        rest = s.rest ++ (n ∷ []);
        without = those-takes p n e ∙ rw s.without (append_assoc (those p x) s.rest (n ∷ []));
        with =
            those-takes (or_is p x) n (or-is-other p x n (λ e. omega arith) ∙ e)
            ∙ rw s.with (append_assoc (those p x) (x ∷ s.rest) (n ∷ []));
      }
  split-on n l s false e =
      record {
        rest = s.rest;
        without = those-skips p n e ∙ s.without;
        with = those-skips (or_is p x) n (or-is-other p x n (λ e. omega arith) ∙ e) ∙ s.with;
      }

  pub split_at : (n : ℕ) → x < n → p x ≡ false → Split p x n
  split_at zero l fails = absurd (omega arith)
  split_at (suc n) l fails = go (ℕ_discrete x n) (split_at n)
    where
      go : Dec (x ≡ n) → (x < n → p x ≡ false → Split p x n) → Split p x (suc n)
      go (yes e) before = rw (← e) (split-here fails)
      go (no e) before = split-on n (omega arith) (before (omega arith) fails) (p n) refl

-- where x stands among those
module _ (p : ℕ → Bool) (x n : ℕ) (s : Split p x n) where
  split-longer : length (those (or_is p x) n) ≡ suc (length (those p n))
  split-longer =
      rw (s.with, s.without) (omega (arith, length-append (those p x) (x ∷ s.rest), length-append (those p x) s.rest))

  -- the numbers before x are less, the others greater
  split-less : (j : ℕ) → j < length (those p x) → get_or (those p n) j 0 < x
  split-less j l =
      rw (s.without, get_or-append (those p x) s.rest 0 j l) ((those-numbers p x).below j l)

  split-greater : (k j : ℕ) → length (those p x) + k ≡ j → j < length (those p n) → x < get_or (those p n) j 0
  split-greater k j e l =
      let a = length (those p x) in
      let on : a + suc k ≡ suc j = omega arith in
      let same : get_or (those (or_is p x) n) (suc j) 0 ≡ get_or (those p n) j 0 =
      rw (s.with, s.without, ← on, ← e, get_or-append-add (those p x) (x ∷ s.rest), get_or-append-add (those p x) s.rest) in
      let here : get_or (those (or_is p x) n) a 0 ≡ x = rw s.with (get_or-append_seam (those p x) x s.rest 0) in
      omega (arith, (those-numbers (or_is p x) n).ascending a (suc j) (omega arith) (omega (arith, split-longer)))

  split-within : length (those p x) ≤ length (those p n)
  split-within = rw s.without (omega (arith, length-append (those p x) s.rest))

  module _ (before entry exit : List ℕ) (found : ℕ) (b : HoldsLeast p n before entry found) (h : Placed entry found x exit) where
    -- no number less than x stands from its place on, and none that is greater stands before it
    place-early : h.place < length (those p x) → length before ≤ h.place
    place-early early =
        less-or-not h.place (length before)
        (λ there.
        let l : h.place < found = omega (arith, b.count, split-within) in
        let l' : h.place < length entry = omega (arith, holds-length b) in
        absurd (omega (arith, holds_at b h.place l l', split-less h.place early, h.greater h.place (omega arith) l l')))
        (λ le. le)

    place-late : h.place ≤ length (those p x)
    place-late =
        less-or-not (length (those p x)) h.place
        (λ late.
        let j = h.place - 1 in
        let l : j < found = omega (arith, h.few) in
        let l' : j < length entry = omega (arith, h.fits) in
        let more = split-greater (j - length (those p x)) j (omega arith) (omega (arith, b.count)) in
        absurd (omega (arith, holds_at b j l l', more, h.lesser (omega arith))))
        (λ le. le)

    -- so its place is among those, as far as there are cells
    place_is : h.place ≡ min (length (those p x)) (length before)
    place_is =
        less-or-not h.place (length (those p x))
        (λ early. omega (arith, place-early early, h.fits, holds-length b))
        (λ le. omega (arith, place-late, h.fits, holds-length b))

    holds-placed : exit ≡ laid (those (or_is p x) n) before
    holds-placed =
        let among : between (length (those p x)) x (those p n) ≡ those (or_is p x) n =
        rw (s.without, s.with) (between-seam x (those p x) s.rest) in
        h.put
        ∙ rw (b.held, b.count) (laid-between h.place (length (those p x)) x (those p n) before place_is split-within)
        ∙ ap (λ (l : List ℕ). laid l before) among

pub placed-inserted : (entry exit : List ℕ) (found number found' : ℕ) → Placed entry found number exit → found' ≡ found + 1
    → Inserted entry found number exit found'
placed-inserted entry exit found number found' h e =
    record {
      holds = λ p n before b l fails.
          let s = split_at p number n l fails in
          record {
            held = holds-placed p number n s before entry exit found b h;
            count = omega (arith, b.count, split-longer p number n s);
          };
    }
