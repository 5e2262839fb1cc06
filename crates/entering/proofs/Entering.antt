-- A node's entry, test by test: rows 11, 12 and 13.
use mathlib.Core.Path.{◌≡◌, refl, ap, ◌∙◌}
use mathlib.Core.List.{List, [], ◌∷◌}
use mathlib.Core.Bool.{Bool, true, false}
use mathlib.Core.Option.{none, some}
use Prim.Native.Nat.{ℕ, zero, suc, ◌≤◌, ◌<◌}
use native.Mathlib.Omega.{arith}
use lib.ListN.{drop, get_or, length, take}
use borrow.Author.Tests.{ne_eqb}
use Rattle.sets.specs.Logic.{pick}
use Rattle.table.specs.declared.Goal.{Goal}
use Rattle.derivation.specs.Rules.{fresh, premises}
use Rattle.entering.specs.Entry.{Entry, admitted, entry, entry_by}
use Rattle.entering.specs.Entry.Entry.{ask, halt}
use Rattle.entering.specs.Steps.{may}

pub may_none : (levels : ℕ) (branch : List Goal) (g : Goal) → levels ≡ 0 → may levels branch g ≡ false
unfolding may
may_none levels branch g h = rw h

pub may-fresh : (levels : ℕ) (branch : List Goal) (g : Goal) → (levels ≡ 0 → ⊥) → may levels branch g ≡ fresh branch g
unfolding may
may-fresh zero branch g h = absurd (h refl)
may-fresh (suc levels) branch g h = refl

module _ (t : List ℕ) (open' : Bool) (g : Goal) where
  pub entry-short : (rec : List ℕ) → length rec < 2 → halt 11 ≡ entry t open' g rec
  unfolding entry_by
  entry-short [] h = refl
  entry-short (c ∷ []) h = refl
  entry-short (c ∷ m ∷ rest) h = absurd (omega arith)

  entry-two : (rec : List ℕ) → 2 ≤ length rec
      → entry t open' g rec
      ≡ admitted open' (get_or rec 0 0) (get_or rec 1 0) (drop 2 rec) (premises t g (get_or rec 0 0) (get_or rec 1 0))
  unfolding entry_by
  entry-two [] h = absurd (omega arith)
  entry-two (c ∷ []) h = absurd (omega arith)
  entry-two (c ∷ m ∷ rest) h = refl

  module _ (rec : List ℕ) (long : 2 ≤ length rec) where
    pub entry-unfit : premises t g (get_or rec 0 0) (get_or rec 1 0) ≡ none → halt 12 ≡ entry t open' g rec
    unfolding admitted
    entry-unfit h = rw (entry-two rec long, h)

    pub entry_closed : {goals : List Goal} → premises t g (get_or rec 0 0) (get_or rec 1 0) ≡ some goals
        → open' ≡ false → halt 13 ≡ entry t open' g rec
    unfolding admitted pick
    entry_closed h shut = rw (entry-two rec long, h, shut)

    pub entry-asks : {goals : List Goal} → premises t g (get_or rec 0 0) (get_or rec 1 0) ≡ some goals
        → open' ≡ true → ask (get_or rec 0 0) (get_or rec 1 0) goals (drop 2 rec) ≡ entry t open' g rec
    unfolding admitted pick
    entry-asks h free = rw (entry-two rec long, h, free)
