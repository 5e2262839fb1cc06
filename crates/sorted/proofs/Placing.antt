-- The place of a number among those that a buffer holds: what is held from there on is greater, and moves up by a cell.
use mathlib.Core.Path.{◌≡◌, refl, sym, ap, ◌∙◌}
use mathlib.Core.List.{List, [], ◌∷◌, ◌++◌}
use Prim.Native.Nat.{ℕ, zero, suc, ◌+◌, ◌-◌, ◌<◌, ◌≤◌, min}
use native.Mathlib.Omega.{arith}
use native.Mathlib.Decide.{dec_le}
use lib.ListN.{drop, drop_of_length-le, get_or, length, set, take, length-take}
use lib.Seq.{set_out}
use Rattle.std.specs.List.{copy_within}
use Rattle.std.proofs.lemmas.List.{take_all, take-take}
use Rattle.sorted.specs.Sorted.{laid}
use Rattle.sorted.proofs.Lists.{laid_next, laid-own}
use Rattle.sorted.proofs.Between.{between, between-last}

-- of those held, all from `place` on are greater than the number
pub record Passed (entry : List ℕ) (held number place : ℕ) : Type 0 where
  pub few : place ≤ held
  pub greater : (j : ℕ) → place ≤ j → j < held → number < get_or entry j 0

-- it is put there, and what stands before it is no greater
pub record Placed (entry : List ℕ) (found number : ℕ) (exit : List ℕ) : Type 0 where
  pub place : ℕ
  pub few : place ≤ found
  pub fits : place ≤ length entry
  pub put : exit ≡ laid (between place number (take found entry)) entry
  pub lesser : 0 < place → get_or entry (place - 1) 0 ≤ number
  pub greater : (j : ℕ) → place ≤ j → j < found → j < length entry → number < get_or entry j 0

-- the numbers from the place on move up by a cell; in a full buffer the last of them has none to move to
moved-rest : (found e : ℕ) (es : List ℕ) (n : ℕ) → n ≡ min found (length es)
    → take n (e ∷ es) ++ drop n es ≡ take (length es) (take found (e ∷ es)) ++ drop (length (take found (e ∷ es))) es
moved-rest found e es n is = go (dec_le found (length es))
  where
    go : Dec (found ≤ length es)
        → take n (e ∷ es) ++ drop n es ≡ take (length es) (take found (e ∷ es)) ++ drop (length (take found (e ∷ es))) es
    go (yes room) =
        let all : n ≡ found = omega arith in
        let size : length (take found (e ∷ es)) ≡ found = omega (arith, length-take found (e ∷ es)) in
        rw (size, all, take_all (length es) (take found (e ∷ es)) (omega arith)) refl
    go (no full) =
        let cells : n ≡ length es = omega arith in
        let beyond : length es ≤ length (take found (e ∷ es)) = omega (arith, length-take found (e ∷ es)) in
        rw (cells, take-take (length es) found (e ∷ es) (omega arith), drop_of_length-le es beyond, drop_of_length-le es {i = length es} (omega arith)) refl

moved_up : (entry : List ℕ) (found number place n m : ℕ) → place < length entry → place ≤ found
    → m ≡ min found (length entry - 1) → n ≡ m - place
    → set (take (suc place) entry ++ take n (drop place entry) ++ drop (suc m) entry) place number
    ≡ laid (between place number (take found entry)) entry
unfolding laid
moved_up [] found number place n m there few is rest = absurd (omega arith)
moved_up (e ∷ es) found number zero n m there few is rest =
    let same : n ≡ m = omega arith in
    rw same (ap {B = List ℕ} (λ l. number ∷ l) (moved-rest found e es m (omega arith)))
moved_up (e ∷ es) zero number (suc p) n m there few is rest = absurd (omega arith)
moved_up (e ∷ es) (suc found) number (suc p) n zero there few is rest = absurd (omega arith)
moved_up (e ∷ es) (suc found) number (suc p) n (suc m) there few is rest =
    ap {B = List ℕ} (λ l. e ∷ l) (moved_up es found number p n m (omega arith) (omega arith) (omega arith) (omega arith))

-- and where there is no cell at the place, nothing changes
laid-out : (entry : List ℕ) (found number place : ℕ) → place ≡ length entry → place ≤ found
    → entry ≡ laid (between place number (take found entry)) entry
laid-out entry found number place e few =
    let held = take found entry in
    let size : place ≡ length held = omega (arith, length-take found entry) in
    sym (set_out entry place number (omega arith))
    ∙ rw size (sym (ap (λ (l : List ℕ). laid l entry) (between-last number held) ∙ laid_next held entry number (laid-own found entry)))

-- the number is put at its place: those that are held from there on move up first, where there is a cell for it
module _ (entry : List ℕ) (found number held place : ℕ) (is : held ≡ min (length entry) found) (passed : Passed entry held number place)
    (ends : 0 < place → get_or entry (place - 1) 0 ≤ number) where
  put_at : (exit : List ℕ) → exit ≡ laid (between place number (take found entry)) entry → Placed entry found number exit
  put_at exit put =
      record {
        place = place;
        few = omega (arith, passed.few);
        fits = omega (arith, passed.few);
        put = put;
        lesser = ends;
        greater = λ j low few there. passed.greater j low (omega arith);
      }

  pub placed-moved : (exit : List ℕ) (last : ℕ) → place < length entry → last ≡ min held (length entry - 1)
      → exit ≡ set (copy_within entry place last (place + 1)) place number → Placed entry found number exit
  placed-moved exit last there at put =
      let next : place + 1 ≡ suc place = omega arith in
      let end : suc place + (last - place) ≡ suc last = omega (arith, passed.few) in
      put_at exit (put ∙ rw (next, end)
      (moved_up entry found number place (last - place) last there (omega (arith, passed.few)) (omega arith) refl))

  pub placed-out : (exit : List ℕ) → length entry ≤ place → exit ≡ entry → Placed entry found number exit
  placed-out exit full same = put_at exit (same ∙ laid-out entry found number place (omega (arith, passed.few)) (omega (arith, passed.few)))
