-- How goals share out what is owed: each part that one of them meets, and together all of it.
use mathlib.Core.Path.{◌≡◌, refl, sym, ap, ap₂, ◌∙◌}
use mathlib.Core.List.{List, [], ◌∷◌}
use mathlib.Core.Bool.{Bool, true, false}
use Prim.Native.Nat.{ℕ, zero, suc, ◌<◌, ◌≤◌}
use native.Mathlib.Omega.{arith}
use lib.ListN.{get_or, length}
use lib.Bits.{bit_or}
use borrow.Author.Tests.{eq-eqb, eqb-true}
use Rattle.sets.specs.Logic.{◌and◌, ◌or◌, any_below}
use Rattle.sets.specs.Sets.{in_set, part}
use Rattle.sets.proofs.Tests.{and_both, and_first, and_second, and-true, any-mono, any-reached}
use Rattle.sets.proofs.Tests.{any_same, any-shows, false-true, or-either, or-first, or-second, refuted, same_test}
use Rattle.sets.proofs.Members.{in_set-or, in_set-zero, part-antisym, part-member, part-or, part-refl, part-trans, part-zero}
use Rattle.table.specs.declared.Goal.{Goal}
use Rattle.members.specs.Trying.{every_goal, proves_by}
use Rattle.members.proofs.Stepping.{all-by-mono}
use Rattle.search.specs.Search.{shares}

-- a part of nothing is nothing
pub part_none : (X X' : ℕ) → X ≡ 0 → part X' X ≡ true → X' ≡ 0
part_none X X' none less = part-antisym X' 0 (rw none at less) (part-zero X')

module _ {G : Type 0} (one : G → ℕ → Bool) (O : ℕ) where
  -- what the first goal meets, and what the others do
  pub record Shared (g : G) (goals : List G) (X : ℕ) : Type 0 where
    pub first : ℕ
    pub others : ℕ
    pub few : first ≤ O
    pub few-others : others ≤ O
    pub proves-first : one g first ≡ true
    pub proves-others : shares one O goals others ≡ true
    pub together : part X (bit_or first others) ≡ true

  pub shares-shows : (g : G) (goals : List G) (X : ℕ) → shares one O (g ∷ goals) X ≡ true → Shared g goals X
  unfolding shares
  shares-shows g goals X h =
      let (Y, l, both) = any-shows _ (suc O) h in
      let (Z, m, rest) = any-shows _ (suc O) (and_second _ _ both) in
      record {
        first = Y;
        others = Z;
        few = omega arith;
        few-others = omega arith;
        proves-first = and_first _ _ both;
        proves-others = and_first _ _ rest;
        together = and_second _ _ rest;
      }

  pub shares-reached : (g : G) (goals : List G) (X Y Z : ℕ) → Y ≤ O → Z ≤ O → one g Y ≡ true → shares one O goals Z ≡ true
      → part X (bit_or Y Z) ≡ true → shares one O (g ∷ goals) X ≡ true
  unfolding shares
  shares-reached g goals X Y Z few few' first others all =
      any-reached _ (suc O) Y (omega arith)
      (and_both first (any-reached _ (suc O) Z (omega arith) (and_both others all)))

  -- who can meet more can meet less
  pub shares_less : (goals : List G) (X X' : ℕ) → part X' X ≡ true → shares one O goals X ≡ true → shares one O goals X' ≡ true
  unfolding shares
  shares_less [] X X' less h = eq-eqb X' 0 (part_none X X' (eqb-true X 0 h) less)
  shares_less (g ∷ goals) X X' less h =
      let by = shares-shows g goals X h in
      shares-reached g goals X' by.first by.others by.few by.few-others by.proves-first by.proves-others
      (part-trans X' X _ less by.together)

  -- a goal alone meets all of it
  pub shares-alone : ((Y Y' : ℕ) (g : G) → part Y' Y ≡ true → one g Y ≡ true → one g Y' ≡ true)
      → (g : G) (X : ℕ) → shares one O (g ∷ []) X ≡ true → one g X ≡ true
  unfolding shares
  shares-alone less g X h =
      let by = shares-shows g [] X h in
      let none : by.others ≡ 0 = eqb-true by.others 0 by.proves-others in
      less by.first X g (alone by.first by.others none by.together) by.proves-first
    where
      alone : (Y Z : ℕ) → Z ≡ 0 → part X (bit_or Y Z) ≡ true → part X Y ≡ true
      alone Y Z none all = part-trans X (bit_or Y Z) Y all (part-or Y Z Y (part-refl Y) (rw none (part-zero Y)))

-- where one test passes whenever another does
module _ {G : Type 0} (one one' : G → ℕ → Bool) (O : ℕ) where
  pub shares-mono : ((g : G) (Y : ℕ) → one g Y ≡ true → one' g Y ≡ true) → (goals : List G) (X : ℕ)
      → shares one O goals X ≡ true → shares one' O goals X ≡ true
  unfolding shares
  shares-mono more [] X h = h
  shares-mono more (g ∷ goals) X h =
      any-mono _ _ (suc O) (λ Y l both.
      and_both (more g Y (and_first _ _ both))
      (any-mono _ _ (suc O) (λ Z m rest.
      and_both (shares-mono more goals Z (and_first _ _ rest)) (and_second _ _ rest)) (and_second _ _ both))) h

-- pointwise the same test
pub shares-same : {G : Type 0} (one one' : G → ℕ → Bool) (O : ℕ) → ((g : G) (Y : ℕ) → one g Y ≡ one' g Y)
    → (goals : List G) (X : ℕ) → shares one O goals X ≡ shares one' O goals X
unfolding shares
shares-same one one' O same [] X = refl
shares-same one one' O same (g ∷ goals) X =
    any_same _ _ (suc O) (λ Y l.
    ap₂ ◌and◌ (same g Y)
    (any_same _ _ (suc O) (λ Z m. ap (λ b. b and part X (bit_or Y Z)) (shares-same one one' O same goals Z))))

-- where nothing is owed each goal is proved
pub shares-every : (one : Goal → ℕ → Bool) (goals : List Goal) → shares one 0 goals 0 ≡ every_goal (λ g. one g 0) goals
unfolding shares every_goal any_below ◌or◌
shares-every one [] = refl
shares-every one (g ∷ goals) =
    ap (λ b. one g 0 and b)
    (ap (λ b. shares one 0 goals 0 and b) (part-zero (bit_or 0 0)) ∙ and-true (shares one 0 goals 0) ∙ shares-every one goals)

-- each goal is proved, whatever it meets
pub shares_each : (one : Goal → ℕ → Bool) (O : ℕ) (proved : Goal → Bool) → ((g : Goal) (Y : ℕ) → one g Y ≡ true → proved g ≡ true)
    → (goals : List Goal) (X : ℕ) → shares one O goals X ≡ true → every_goal proved goals ≡ true
unfolding every_goal
shares_each one O proved is [] X h = refl
shares_each one O proved is (g ∷ goals) X h =
    let by = shares-shows one O g goals X h in
    and_both (is g by.first by.proves-first) (shares_each one O proved is goals by.others by.proves-others)

-- automaton k is imposed or owed, and no goal is proved where it is
module _ {G : Type 0} (one : G → ℕ → Bool) (O A k : ℕ)
    (none : (g : G) (Y : ℕ) → in_set (bit_or A Y) k ≡ true → one g Y ≡ false) where
  owed-unshared : (goals : List G) (X : ℕ) → in_set X k ≡ true → shares one O goals X ≡ true → ⊥
  unfolding shares
  owed-unshared [] X owed h =
      false-true (sym (in_set-zero k) ∙ ap (λ x. in_set x k) (sym (eqb-true X 0 h)) ∙ owed)
  owed-unshared (g ∷ goals) X owed h =
      let by = shares-shows one O g goals X h in
      or-either
      (λ first. false-true (sym (none g by.first (in_set-or A by.first k ∙ or-second _ first)) ∙ by.proves-first))
      (λ others. owed-unshared goals by.others others by.proves-others)
      (sym (in_set-or by.first by.others k) ∙ part-member X _ k by.together owed)

  pub unshared : (g : G) (goals : List G) (X : ℕ) → in_set (bit_or A X) k ≡ true → shares one O (g ∷ goals) X ≡ false
  unshared g goals X demanded =
      refuted _ (λ h.
      let by = shares-shows one O g goals X h in
      or-either
      (λ imposed. false-true (sym (none g by.first (in_set-or A by.first k ∙ or-first _ imposed)) ∙ by.proves-first))
      (λ owed. owed-unshared (g ∷ goals) X owed h)
      (sym (in_set-or A X k) ∙ demanded))

-- a goal that is not proved, whatever it meets, leaves nothing proved
pub first-unshared : {G : Type 0} (one : G → ℕ → Bool) (O : ℕ) (g : G) (goals : List G) (X : ℕ) → ((Y : ℕ) → one g Y ≡ false)
    → shares one O (g ∷ goals) X ≡ false
first-unshared one O g goals X none =
    refuted _ (λ h.
    let by = shares-shows one O g goals X h in
    false-true (sym (none by.first) ∙ by.proves-first))

pub second-unshared : {G : Type 0} (one : G → ℕ → Bool) (O : ℕ) (g h : G) (X : ℕ) → ((Y : ℕ) → one h Y ≡ false)
    → shares one O (g ∷ h ∷ []) X ≡ false
second-unshared one O g h X none =
    refuted _ (λ is.
    let by = shares-shows one O g (h ∷ []) X is in
    false-true (sym (first-unshared one O h [] by.others none) ∙ by.proves-others))

-- what a credential proves, where nothing is owed
pub every-by : (one : Goal → ℕ → Bool) (word : Bool) (t : List ℕ) (g : Goal) (c : ℕ)
    → proves_by t (λ goals. shares one 0 goals 0) word g c ≡ proves_by t (every_goal (λ h. one h 0)) word g c
every-by one word t g c =
    same_test _ _
    (all-by-mono _ _ (λ goals h. sym (shares-every one goals) ∙ h) word word (λ e. e) t g c)
    (all-by-mono _ _ (λ goals h. shares-every one goals ∙ h) word word (λ e. e) t g c)

-- each goal of the list is proved, even where it has nothing to meet
pub shares-member : {G : Type 0} (one : G → ℕ → Bool) (O : ℕ) (other : G)
    → ((g : G) (Y : ℕ) → one g Y ≡ true → one g 0 ≡ true) → (goals : List G) (X : ℕ) → shares one O goals X ≡ true
    → (k : ℕ) → k < length goals → one (get_or goals k other) 0 ≡ true
shares-member one O other less [] X h k l = absurd (omega arith)
shares-member one O other less (g ∷ goals) X h k l = go k l (shares-shows one O g goals X h) (shares-member one O other less goals)
  where
    go : (k : ℕ) → k < length (g ∷ goals) → Shared one O g goals X
        → ((X : ℕ) → shares one O goals X ≡ true → (k : ℕ) → k < length goals → one (get_or goals k other) 0 ≡ true)
        → one (get_or (g ∷ goals) k other) 0 ≡ true
    go zero l by rest = less g by.first by.proves-first
    go (suc k) l by rest = rest by.others by.proves-others k (omega arith)
