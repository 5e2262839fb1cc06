-- What is wanted of the automata that are owed, from goal to goal: a goal may meet what leaves to those behind it what they can
-- meet, and those behind it have to meet what it has not. Only parts of what is owed are wanted, and with each every greater one.
use mathlib.Core.Path.{◌≡◌, refl, sym, ◌∙◌}
use mathlib.Core.List.{List, [], ◌∷◌}
use mathlib.Core.Bool.{Bool, true}
use Prim.Native.Nat.{ℕ, suc, ◌<◌, ◌≤◌}
use native.Mathlib.Omega.{arith}
use lib.Bits.{bit_and, bit_or, or_lt}
use lib.Dec.{eqb}
use borrow.Author.Tests.{eq-eqb, eqb-true}
use Rattle.sets.specs.Sets.{part}
use Rattle.sets.proofs.Tests.{and_both, and_first, and_second, any-reached, any-shows, or-either, or-first, or-second}
use Rattle.sets.proofs.Members.{in_set-and, in_set-or, part-antisym, part-le, part-member, part-or, part-or-left, part-or-right}
use Rattle.sets.proofs.Members.{part-refl, part-shown, part-trans}
use Rattle.sets.proofs.Without.{and-part}
use Rattle.families.specs.Families.{all_sets}
use Rattle.table.specs.declared.Goal.{Goal}
use Rattle.automata.specs.Together.{accepting_set}
use Rattle.automata.specs.declared.StateSets.{StateSets}
use Rattle.search.specs.Search.{ends, shares}
use Rattle.search.proofs.Sharing.{shares_less, shares-reached, shares-shows}
use Rattle.choice.specs.Choice.{Upward, ends_well, suits}
use Rattle.walking.specs.First.{leaves}

-- each set that is wanted is a part of O, and each greater part of O is wanted too
pub record Wanted (O : ℕ) (wants : ℕ → Bool) : Type 0 where
  pub few : O < all_sets
  pub upward : Upward O wants
  pub inside : (X : ℕ) → X < all_sets → wants X ≡ true → part X O ≡ true

-- a part of both, in each of its sets
and-part-left : (x y : ℕ) → part (bit_and x y) x ≡ true
and-part-left x y = part-shown (bit_and x y) x (λ s h. and_first _ _ (sym (in_set-and x y s) ∙ h))

part-or-both : (x y u v : ℕ) → part x u ≡ true → part y v ≡ true → part (bit_or x y) (bit_or u v) ≡ true
part-or-both x y u v h l =
    part-or x y (bit_or u v) (part-trans x u _ h (part-or-left u v)) (part-trans y v _ l (part-or-right u v))

-- what is left of a cover within O
part-within : (X Y Z O : ℕ) → part X O ≡ true → part X (bit_or Y Z) ≡ true → part X (bit_or (bit_and Y O) (bit_and Z O)) ≡ true
part-within X Y Z O few all =
    part-shown X _ (λ k h.
    let owed = part-member X O k few h in
    in_set-or (bit_and Y O) (bit_and Z O) k
    ∙ or-either (λ one. or-first _ (in_set-and Y O k ∙ and_both one owed))
    (λ other. or-second _ (in_set-and Z O k ∙ and_both other owed))
    (sym (in_set-or Y Z k) ∙ part-member X _ k all h))

-- who can meet more can meet less
abbrev pub Lessens : {G : Type 0} → (G → ℕ → Bool) → Type 0
Lessens {G} one = (g : G) (Y Y' : ℕ) → part Y' Y ≡ true → one g Y ≡ true → one g Y' ≡ true

-- what the first goal meets of O, and what the others do
pub shared-owed : {G : Type 0} (one : G → ℕ → Bool) (O : ℕ) → Lessens one → (g : G) (goals : List G) (X : ℕ) → part X O ≡ true
    → shares one O (g ∷ goals) X ≡ true
    → (Y Z : ℕ) × (part Y O ≡ true) × (part Z O ≡ true) × (one g Y ≡ true) × (shares one O goals Z ≡ true)
    × (part X (bit_or Y Z) ≡ true)
shared-owed one O less g goals X owed shared =
    let by = shares-shows one O g goals X shared in
    let Y = by.first in
    let Z = by.others in (
      bit_and Y O,
      bit_and Z O,
      and-part Y O,
      and-part Z O,
      less g Y (bit_and Y O) (and-part-left Y O) by.proves-first,
      shares_less one O goals Z (bit_and Z O) (and-part-left Z O) by.proves-others,
      part-within X Y Z O owed by.together,
    )

-- all that is owed, and nothing less
pub wanted-all : (O : ℕ) → O < all_sets → Wanted O (eqb O)
wanted-all O few =
    record {
      few = few;
      upward = λ X Y less part_of h.
          eq-eqb O Y (part-antisym O Y (rw (← eqb-true O X h) at less) part_of);
      inside = λ X l h. rw (eqb-true O X h) (part-refl X);
    }

module _ {O : ℕ} {wants : ℕ → Bool} (wanted : Wanted O wants) where
  -- both are parts of O where what they meet together is wanted
  both-few : (X Y : ℕ) → X ≤ O → Y ≤ O → wants (bit_or X Y) ≡ true → part (bit_or X Y) O ≡ true
  both-few X Y l m h =
      wanted.inside (bit_or X Y) (or_lt 8 X Y (omega (arith, wanted.few)) (omega (arith, wanted.few))) h

  -- what the goals behind have to meet where the goal has met `now`
  pub wanted-after : (now : ℕ) → part now O ≡ true → Wanted O (λ X. wants (bit_or now X))
  wanted-after now owed =
      record {
        few = wanted.few;
        upward = λ X Y less within h.
            wanted.upward (bit_or now X) (bit_or now Y) (part-or-both now X now Y (part-refl now) less)
            (part-or now Y O owed within) h;
        inside = λ X l h.
            let fits = part-le now O owed in
            part-trans X (bit_or now X) O (part-or-right now X)
            (wanted.inside (bit_or now X) (or_lt 8 now X (omega (arith, wanted.few)) l) h);
      }

  -- what a goal may meet, before these
  module _ (one : Goal → ℕ → Bool) (goals : List Goal) where
    pub leaves-shows : (X : ℕ) → leaves one O wants goals X ≡ true
        → (part X O ≡ true) × (Z : ℕ) × (Z ≤ O) × (shares one O goals Z ≡ true) × (wants (bit_or X Z) ≡ true)
    unfolding leaves
    leaves-shows X h =
        let (Z, l, both) = any-shows _ (suc O) (and_second _ _ h) in
        (and_first _ _ h, Z, omega arith, and_first _ _ both, and_second _ _ both)

    pub leaves-reached : (X Z : ℕ) → part X O ≡ true → Z ≤ O → shares one O goals Z ≡ true → wants (bit_or X Z) ≡ true
        → leaves one O wants goals X ≡ true
    unfolding leaves
    leaves-reached X Z owed l shared h = and_both owed (any-reached _ (suc O) Z (omega arith) (and_both shared h))

    pub wanted-here : Wanted O (leaves one O wants goals)
    wanted-here =
        record {
          few = wanted.few;
          upward = λ X Y less within h.
              let (owed, Z, l, shared, all) = leaves-shows X h in
              let together = both-few X Z (part-le X O owed) l all in
              leaves-reached Y Z within l shared
              (wanted.upward (bit_or X Z) (bit_or Y Z) (part-or-both X Z Y Z less (part-refl Z))
              (part-or Y Z O within (part-trans Z (bit_or X Z) O (part-or-right X Z) together)) all);
          inside = λ X l h. (leaves-shows X h).0;
        }

    -- what it has met leaves to those behind it what they can meet
    pub suits-after : (now : ℕ) → leaves one O wants goals now ≡ true → suits one O (λ X. wants (bit_or now X)) goals ≡ true
    unfolding suits
    suits-after now h =
        let (owed, Z, l, shared, all) = leaves-shows now h in
        any-reached _ (suc O) Z (omega arith) (and_both all shared)

  -- the goals suit what is wanted exactly where they can meet one of its sets
  module _ {G : Type 0} (one : G → ℕ → Bool) where
    pub suits-shows : (goals : List G) → suits one O wants goals ≡ true
        → (X : ℕ) × (part X O ≡ true) × (wants X ≡ true) × (shares one O goals X ≡ true)
    unfolding suits
    suits-shows goals h =
        let (X, l, both) = any-shows _ (suc O) h in
        (X, wanted.inside X (omega (arith, wanted.few)) (and_first _ _ both), and_first _ _ both, and_second _ _ both)

    pub suits-reached : (goals : List G) (X : ℕ) → X ≤ O → wants X ≡ true → shares one O goals X ≡ true
        → suits one O wants goals ≡ true
    unfolding suits
    suits-reached goals X l is shared = any-reached _ (suc O) X (omega arith) (and_both is shared)

    -- one goal that can meet such a set
    pub suits-alone : (g : G) (X : ℕ) → X ≤ O → wants X ≡ true → one g X ≡ true → suits one O wants (g ∷ []) ≡ true
    unfolding shares
    suits-alone g X l is proved =
        suits-reached (g ∷ []) X l is
        (shares-reached one O g [] X X 0 l (omega arith) proved (eq-eqb 0 0 refl) (part-or-left X 0))

  pub ends-shows : (t : List ℕ) (A : ℕ) (s : StateSets) → ends_well t A O wants s ≡ true
      → (X : ℕ) × (part X O ≡ true) × (wants X ≡ true) × (ends t A s X ≡ true)
  unfolding ends_well
  ends-shows t A s h =
      let (X, l, both) = any-shows _ (suc O) h in
      (X, wanted.inside X (omega (arith, wanted.few)) (and_first _ _ both), and_first _ _ both, and_second _ _ both)

  pub ends-reached : (t : List ℕ) (A : ℕ) (s : StateSets) (X : ℕ) → X ≤ O → wants X ≡ true → ends t A s X ≡ true
      → ends_well t A O wants s ≡ true
  unfolding ends_well
  ends-reached t A s X l is ended = any-reached _ (suc O) X (omega arith) (and_both is ended)

  -- what the word meets is wanted
  pub ends-met : (t : List ℕ) (A : ℕ) (s : StateSets) → ends_well t A O wants s ≡ true
      → wants (bit_and O (accepting_set t s)) ≡ true
  unfolding ends
  ends-met t A s h =
      let (X, owed, is, ended) = ends-shows t A s h in
      let accepted = part-trans X (bit_or A X) (accepting_set t s) (part-or-right A X) ended in
      wanted.upward X (bit_and O (accepting_set t s))
      (part-shown X _ (λ k in-X. in_set-and O (accepting_set t s) k
      ∙ and_both (part-member X O k owed in-X) (part-member X _ k accepted in-X)))
      (and-part-left O (accepting_set t s)) is

  -- where goals suit what is wanted the first of them can meet a set that it may meet
  pub first-suits : (one : Goal → ℕ → Bool) → Lessens one → (g : Goal) (goals : List Goal) → suits one O wants (g ∷ goals) ≡ true
      → (Y : ℕ) × (Y ≤ O) × (leaves one O wants goals Y ≡ true) × (one g Y ≡ true)
  first-suits one less g goals h =
      let (X, owed, is, shared) = suits-shows one (g ∷ goals) h in
      let (Y, Z, few, few', first, others, together) = shared-owed one O less g goals X owed shared in (
        Y,
        part-le Y O few,
        leaves-reached one goals Y Z few (part-le Z O few') others
            (wanted.upward X (bit_or Y Z) together (part-or Y Z O few few') is),
        first,
      )
