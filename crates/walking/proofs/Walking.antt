-- A walk over the nodes of a record goes on where it ended: numbers stand one after the other in the cells. What a whole walk
-- has put into the cells is the record laid in them.
use mathlib.Core.Path.{◌≡◌, refl, sym, ◌∙◌}
use mathlib.Core.List.{List, [], ◌∷◌, ◌++◌}
use Prim.Native.Nat.{ℕ, zero, suc, ◌+◌, ◌-◌, ◌<◌, ◌≤◌}
use native.Mathlib.Omega.{arith}
use native.Mathlib.Nat.{zero-add}
use lib.ListN.{get_or, length, length-append, length-set, get_or-append, set}
use lib.Seq.{ext_get_or, get_or-append-add, get_or-set_other, get_or-set_same}
use Rattle.sorted.specs.Sorted.{laid}
use Rattle.sorted.proofs.Lists.{laid-at, laid-beyond, laid-length, less-or-not}
use Rattle.walking.specs.Walked.{Over, Walked}

-- numbers behind those that the cells hold already
module _ (at : ℕ) (xs ys before mid after : List ℕ) (first : Over at xs before mid)
    (second : Over (at + length xs) ys mid after) where
  held-behind : (j : ℕ) → j < length ys → get_or after (at + (length xs + j)) 0 ≡ get_or (xs ++ ys) (length xs + j) 0
  held-behind j l =
      let place : at + (length xs + j) ≡ at + length xs + j = omega arith in
      rw (place, get_or-append-add xs ys j 0) (second.held j l)

  held_both : (i : ℕ) → i < length (xs ++ ys) → get_or after (at + i) 0 ≡ get_or (xs ++ ys) i 0
  held_both i l =
      let size = length-append xs ys in
      less-or-not i (length xs)
      (λ less. second.earlier (at + i) (omega arith) ∙ first.held i less ∙ sym (get_or-append xs ys 0 i less))
      (λ more.
      let e : length xs + (i - length xs) ≡ i = omega arith in
      rw e at (held-behind (i - length xs) (omega arith)))

  pub over-append : Over at (xs ++ ys) before after
  over-append =
      let size = length-append xs ys in
      record {
        held = held_both;
        earlier = λ i l. second.earlier i (omega arith) ∙ first.earlier i l;
        beyond = λ i h. second.beyond i (omega arith) ∙ first.beyond i (omega arith);
      }

-- numbers that are put without a limit
pub walked-any : {at next : ℕ} {xs before after : List ℕ} → Walked at next xs before after next
    → (most : ℕ) → Walked at most xs before after next
walked-any {next = next} walked most =
    let here = walked.whole (omega arith) in
    record {
      size = walked.size;
      whole = λ h. here;
      stopped = λ h. omega arith;
      over = λ h l. walked.over (omega arith) l;
    }

-- a walk that goes on, and one that has stopped
module _ {at most next : ℕ} {xs before mid : List ℕ} (walked : Walked at most xs before mid next) (ys : List ℕ) where
  pub walked-append : {after : List ℕ} {next' : ℕ} → next ≤ most → Walked next most ys mid after next'
      → Walked at most (xs ++ ys) before after next'
  walked-append {after} {next'} room on =
      let size = length-append xs ys in
      let here = walked.whole room in
      record {
        size = on.size ∙ walked.size;
        whole = λ h. let e = on.whole h in omega arith;
        stopped = λ h. let e = on.stopped h in omega arith;
        over = λ h l.
            let e = on.whole h in
            let first = walked.over room (omega arith) in
            let second = on.over h (omega (arith, walked.size)) in
            over-append at xs ys before mid after first (rw here at second);
      }

  pub walked-beyond : most < next → Walked at most (xs ++ ys) before mid next
  walked-beyond over =
      let size = length-append xs ys in
      record {
        size = walked.size;
        whole = λ h. absurd (omega arith);
        stopped = λ h. let e = walked.stopped h in omega arith;
        over = λ h l. absurd (omega arith);
      }

-- a walk that has not begun
pub walked_none : (at most : ℕ) (rec : List ℕ) → Walked at most [] rec rec at
walked_none at most rec =
    record {
      size = refl;
      whole = λ h. omega arith;
      stopped = λ h. omega arith;
      over = λ h l.
          record { held = λ i m. absurd (omega arith); earlier = λ i m. refl; beyond = λ i m. refl };
    }

-- a node's numbers, where there are cells for both, and where there are not
module _ (at c m : ℕ) (rec : List ℕ) where
  pub put_both : at + 2 ≤ length rec → Walked at (at + 2) (c ∷ m ∷ []) rec (set (set rec at c) (at + 1) m) (at + 2)
  put_both room =
      record {
        size = length-set (set rec at c) (at + 1) m ∙ length-set rec at c;
        whole = λ h. refl;
        stopped = λ h. h;
        over = λ h l. record { held = held; earlier = λ i k. other i (λ e. omega arith) (λ e. omega arith); beyond = beyond };
      }
    where
      other : (i : ℕ) → (i ≡ at → ⊥) → (i ≡ at + 1 → ⊥) → get_or (set (set rec at c) (at + 1) m) i 0 ≡ get_or rec i 0
      other i n0 n1 = get_or-set_other (set rec at c) (at + 1) i m 0 n1 ∙ get_or-set_other rec at i c 0 n0

      beyond : (i : ℕ) → at + 2 ≤ i → get_or (set (set rec at c) (at + 1) m) i 0 ≡ get_or rec i 0
      beyond i k = other i (λ e. omega arith) (λ e. omega arith)

      held : (i : ℕ) → i < 2 → get_or (set (set rec at c) (at + 1) m) (at + i) 0 ≡ get_or (c ∷ m ∷ []) i 0
      held zero l =
          let here : at + 0 ≡ at = omega arith in
          rw here (get_or-set_other (set rec at c) (at + 1) at m 0 (λ e. omega arith) ∙ get_or-set_same rec at c 0 (omega arith))
      held (suc zero) l = get_or-set_same (set rec at c) (at + 1) m 0 (omega (arith, length-set rec at c))
      held (suc (suc i)) l = absurd (omega arith)

  pub put-none : length rec < at + 2 → Walked at (at + 2) (c ∷ m ∷ []) rec rec (at + 2)
  put-none few =
      record { size = refl; whole = λ h. refl; stopped = λ h. h; over = λ h l. absurd (omega arith) }

-- numbers behind those that are all put
pub walked_then : {at most next next' : ℕ} {xs ys before mid after : List ℕ} → Walked at next xs before mid next
    → Walked next most ys mid after next' → Walked at most (xs ++ ys) before after next'
walked_then {at} {most} {next} {next'} {xs} {ys} {before} {mid} {after} first second =
    let size = length-append xs ys in
    let here = first.whole (omega arith) in
    record {
      size = second.size ∙ first.size;
      whole = λ h. let e = second.whole h in omega arith;
      stopped = λ h. let e = second.stopped h in omega arith;
      over = λ h l.
          let e = second.whole h in
          over-append at xs ys before mid after (first.over (omega arith) (omega arith))
          (rw here at (second.over h (omega (arith, first.size))));
    }

-- the record of a whole walk
pub over-laid : (numbers before after : List ℕ) → length after ≡ length before → length numbers ≤ length before
    → Over 0 numbers before after → after ≡ laid numbers before
over-laid numbers before after size room over =
    ext_get_or 0 after (laid numbers before) (size ∙ sym (laid-length numbers before))
    (λ i l. less-or-not i (length numbers)
    (λ less. rw (laid-at numbers before room i less) (rw zero-add at (over.held i less)))
    (λ more. rw (laid-beyond numbers before room i more) (over.beyond i (omega arith))))
