-- What the goals behind one can meet, as the code gathers it: a family of the sets that they can meet together. And what it
-- leaves to the one, where the children so far have met `met`.
use mathlib.Core.Path.{◌≡◌, refl, sym, ap, ◌∙◌}
use mathlib.Core.List.{List, [], ◌∷◌}
use mathlib.Core.Bool.{Bool, true}
use Prim.Native.Nat.{ℕ, suc, ◌+◌, ◌<◌, ◌≤◌}
use native.Mathlib.Omega.{arith}
use lib.ListN.{drop, get_or, length}
use lib.Seq.{drop-length}
use lib.Bits.{bit_or, or_comm, or_lt, or_zero_r}
use lib.Dec.{eqb}
use borrow.Author.Tests.{eq-eqb, eqb-true, lt-ltb, ltb-true}
use Rattle.sets.specs.Sets.{part}
use Rattle.sets.proofs.Tests.{and_both, and_first, and_second, same_test}
use Rattle.sets.proofs.Members.{part-le, part-or, part-or-left, part-or-right, part-refl, part-trans, part-zero}
use Rattle.families.specs.Families.{FamilyOf, all_sets, in_family, joins}
use Rattle.families.specs.Families as families
use Rattle.families.specs.declared.Family.{Family}
use Rattle.families.proofs.Covering.{covers-joined, covers-own, covers-shows, inside-joined, joins-reached, joins-shows}
use Rattle.families.proofs.Covering as covering
use Rattle.table.specs.Layout.{credentials}
use Rattle.table.specs.declared.Goal.{Goal}
use Rattle.automata.specs.declared.StateSets.{StateSets}
use Rattle.members.specs.declared.above.Above.{Above}
use Rattle.search.specs.Asking.{pair}
use Rattle.search.specs.Search.{goal_at, proves, proves_at, shares}
use Rattle.search.specs.Failing.{FoundBelow, goal_test, pair_test}
use Rattle.search.proofs.Sharing.{shares-reached}
use Rattle.search.proofs.Owing.{proves-less}
use Rattle.search.specs.declared.asking.Pair.{Pair}
use Rattle.choice.specs.Choice.{Children}
use Rattle.choice.specs.Choice as choice
use Rattle.walking.specs.First.{leaves}
use Rattle.walking.specs.Walked.{goals_at, later_test}
use Rattle.walking.proofs.Wanting.{Wanted, leaves-reached, leaves-shows, shared-owed, wanted-after}
use Rattle.walking.proofs.Alike.{Alike}
use Rattle.walking.proofs.Children.{goals-next, or-behind}

module _ (t : List ℕ) (S A O levels : ℕ) (s : StateSets) {above : Above} where
  -- no goals meet nothing
  pub told_none : {f : Family} → FamilyOf (eqb 0) f → FoundBelow O (later_test t S A O levels s []) above f
  unfolding shares
  told_none {f} only =
      record {
        finds =
            record {
              inside = λ X l own. rw (← eqb-true 0 X (sym (only X l) ∙ own)) (part-zero O);
              passes = λ X l own. eq-eqb X 0 (sym (eqb-true 0 X (sym (only X l) ∙ own)));
            };
        all = λ X owed none. rw (eqb-true X 0 none) (covers-own f 0 (omega arith) (only 0 (omega arith) ∙ eq-eqb 0 0 refl));
      }

  -- a goal more, before the others; its role is defined
  pub told-next : (person place : ℕ) → place < credentials t → (rest : List Goal) {f g r : Family} → FamilyOf (joins f g) r
      → FoundBelow O (goal_test t S A O levels s person place) above f → FoundBelow O (later_test t S A O levels s rest) above g
      → FoundBelow O (later_test t S A O levels s (goal_at t person place ∷ rest)) above r
  unfolding proves_at
  told-next person place there rest {f} {g} {r} all first others =
      record {
        finds =
            record {
              inside = inside-joined f g r all O first.finds.inside others.finds.inside;
              passes = λ X l own.
                  let (Y, Z, few, less, in_f, in_g, same) = joins-shows f g X (sym (all X l) ∙ own) in
                  shares-reached one O (goal_at t person place) rest X Y Z (part-le Y O (first.finds.inside Y few in_f))
                  (part-le Z O (others.finds.inside Z less in_g)) (and_second _ _ (first.finds.passes Y few in_f))
                  (others.finds.passes Z less in_g) (rw same (part-refl X));
            };
        all = λ X owed shared.
            let (Y, Z, few, few', proved, behind, together) =
            shared-owed one O (proves-less t S A O levels above s) (goal_at t person place) rest X owed shared in
            covers-joined f g r all X Y Z together
            (first.all Y few (and_both (lt-ltb place (credentials t) there) proved)) (others.all Z few' behind);
      }
    where
      one : Goal → ℕ → Bool
      one = proves t S A O levels above s

-- from the last of the goals that are asked to the first
module _ (t : List ℕ) (S A O levels : ℕ) (s : StateSets) (pairs : List Pair) {above : Above} where
  pub later-none : {f : Family} → FamilyOf (eqb 0) f
      → FoundBelow O (later_test t S A O levels s (goals_at t (drop (length pairs) pairs))) above f
  unfolding goals_at
  later-none only = rw (drop-length pairs) (told_none t S A O levels s only)

  pub later-next : (k : ℕ) → k < length pairs → (get_or pairs k (pair 0 0)).place < credentials t → {f g r : Family} → FamilyOf (joins f g) r
      → FoundBelow O (pair_test t S A O levels s (get_or pairs k (pair 0 0))) above f
      → FoundBelow O (later_test t S A O levels s (goals_at t (drop (k + 1) pairs))) above g
      → FoundBelow O (later_test t S A O levels s (goals_at t (drop k pairs))) above r
  later-next k l there all first others =
      rw (goals-next t pairs k l) (told-next t S A O levels s _ _ there _ all first others)

-- goals each of which is proved
pub shares-nothing : (t : List ℕ) (S A O levels : ℕ) (above : Above) (s : StateSets) (pairs : List Pair)
    → ((k : ℕ) → k < length pairs
    → proves_at t S A O levels above s (get_or pairs k (pair 0 0)).person (get_or pairs k (pair 0 0)).place 0 ≡ true)
    → shares (proves t S A O levels above s) O (goals_at t pairs) 0 ≡ true
unfolding shares goals_at proves_at
shares-nothing t S A O levels above s [] each = eq-eqb 0 0 refl
shares-nothing t S A O levels above s (p ∷ pairs) each =
    shares-reached (proves t S A O levels above s) O (goal_at t p.person p.place) (goals_at t pairs) 0 0 0 (omega arith) (omega arith)
    (and_second _ _ (each 0 (omega arith))) (shares-nothing t S A O levels above s pairs (λ k l. each (suc k) (omega arith)))
    (part-zero (bit_or 0 0))

-- a child's role is defined, and all children are proved
module _ {t : List ℕ} {S A O levels : ℕ} {above : Above} {s : StateSets} {goals : List Goal} {pairs : List Pair}
    (children : Children t S A O levels above s goals pairs) where
  pub child-there : (k : ℕ) → k < length pairs → (get_or pairs k (pair 0 0)).place < credentials t
  unfolding proves_at
  child-there k l = ltb-true _ (credentials t) (and_first _ _ (children.proved k l))

  pub children-nothing : shares (proves t S A O levels above s) O (goals_at t pairs) 0 ≡ true
  children-nothing = shares-nothing t S A O levels above s pairs children.proved

-- a family says what is wanted
pub family-wants : {O : ℕ} {wanted : Family} → choice.Wanted O wanted → Wanted O (in_family wanted)
family-wants w = record { few = w.few; upward = w.upward; inside = w.inside }

pub wants-family : {O : ℕ} {wanted : Family} → Wanted O (in_family wanted) → choice.Wanted O wanted
wants-family w = record { few = w.few; upward = w.upward; inside = w.inside }

-- where nothing is owed there is nothing to share out: a goal may meet what is wanted
pub here-none : (one : Goal → ℕ → Bool) (O : ℕ) (wanted : Family) → Wanted O (in_family wanted) → (met : ℕ) → part met O ≡ true
    → (rest : List Goal) → O ≡ 0 → shares one O rest 0 ≡ true
    → Alike (in_family wanted) (leaves one O (λ X. in_family wanted (bit_or met X)) rest)
here-none one O wanted wants met owed rest none nothing X l = same_test _ _ on back
  where
    left : Wanted O (λ Y. in_family wanted (bit_or met Y))
    left = wanted-after wants met owed

    empty : (Y : ℕ) → Y ≤ O → part Y X ≡ true
    empty Y m = let zero : Y ≡ 0 = omega arith in rw zero (part-zero X)

    on : in_family wanted X ≡ true → leaves one O (λ Y. in_family wanted (bit_or met Y)) rest X ≡ true
    on h =
        let few = wants.inside X l h in
        leaves-reached left one rest X 0 few (omega arith) nothing
        (ap (λ x. in_family wanted (bit_or met x)) (or_zero_r X)
        ∙ wants.upward X (bit_or met X) (part-or-right met X) (part-or met X O owed few) h)

    back : leaves one O (λ Y. in_family wanted (bit_or met Y)) rest X ≡ true → in_family wanted X ≡ true
    back h =
        let (few, Z, z, shared, has) = leaves-shows left one rest X h in
        wants.upward (bit_or met (bit_or X Z)) X
        (part-or met (bit_or X Z) X (empty met (part-le met O owed)) (part-or X Z X (part-refl X) (empty Z z))) few has

-- what is left to a goal, where those behind it are `rest`
module _ (one : Goal → ℕ → Bool) (O : ℕ) (wanted : Family) (wants : Wanted O (in_family wanted)) (met : ℕ)
    (owed : part met O ≡ true)
    (rest : List Goal) (now : Family) (only : FamilyOf (eqb met) now) where
  abbrev left : ℕ → Bool
  left = λ X. in_family wanted (bit_or met X)

  met-small : met < all_sets
  met-small = let l = part-le met O owed in omega (arith, wants.few)

  in-now : in_family now met ≡ true
  in-now = only met met-small ∙ eq-eqb met met refl

  regroup : (X Z : ℕ) → bit_or X (bit_or met Z) ≡ bit_or met (bit_or X Z)
  regroup X Z = or-behind X met Z ∙ ap (λ x. bit_or x Z) (or_comm X met) ∙ sym (or-behind met X Z)

  -- where all that is wanted has been met, all is
  pub here-all : shares one O rest 0 ≡ true → in_family wanted met ≡ true → (r : Family)
      → FamilyOf (families.leaves wanted now O) r → Alike (in_family r) (leaves one O left rest)
  here-all nothing enough r is X l = is X l ∙ same_test _ _ on back
    where
      wider : (Y : ℕ) → part X O ≡ true → part met Y ≡ true → part Y O ≡ true → in_family wanted Y ≡ true
      wider Y few more within = wants.upward met Y more within enough

      on : families.leaves wanted now O X ≡ true → leaves one O left rest X ≡ true
      on h =
          let few = (covering.leaves-shows wanted now O X h).0 in
          leaves-reached (wanted-after wants met owed) one rest X 0 few (omega arith) nothing
          (ap (λ x. in_family wanted (bit_or met x)) (or_zero_r X)
          ∙ wider (bit_or met X) few (part-or-left met X) (part-or met X O owed few))

      back : leaves one O left rest X ≡ true → families.leaves wanted now O X ≡ true
      back h =
          let few = (leaves-shows (wanted-after wants met owed) one rest X h).0 in
          covering.leaves-reached wanted now O X met few met-small in-now
          (wider (bit_or X met) few (part-or-right X met) (part-or X met O few owed))

  -- otherwise what those behind it can meet is left to them
  pub here-left : (test : ℕ → Above → Bool) (above : Above) → ((X : ℕ) → test X above ≡ shares one O rest X)
      → (later both r : Family) → FoundBelow O test above later
      → FamilyOf (joins now later) both → FamilyOf (families.leaves wanted both O) r → Alike (in_family r) (leaves one O left rest)
  here-left test above tests later both r told all is X l = is X l ∙ same_test _ _ on back
    where
      on : families.leaves wanted both O X ≡ true → leaves one O left rest X ≡ true
      on h =
          let (few, U, small, in_both, has) = covering.leaves-shows wanted both O X h in
          let (Y, Z, y, z, in-Y, in-Z, same) = joins-shows now later U (sym (all U small) ∙ in_both) in
          let this : met ≡ Y = eqb-true met Y (sym (only Y y) ∙ in-Y) in
          leaves-reached (wanted-after wants met owed) one rest X Z few (part-le Z O (told.finds.inside Z z in-Z))
          (sym (tests Z) ∙ told.finds.passes Z z in-Z)
          (sym (ap (in_family wanted) (ap (bit_or X) (sym same ∙ ap (λ y. bit_or y Z) (sym this)) ∙ regroup X Z)) ∙ has)

      back : leaves one O left rest X ≡ true → families.leaves wanted both O X ≡ true
      back h =
          let (few, Z, z, shared, has) = leaves-shows (wanted-after wants met owed) one rest X h in
          let x = part-le X O few in
          let small = or_lt 8 X Z (omega (arith, wants.few)) (omega (arith, wants.few)) in
          let inside = (wanted-after wants met owed).inside (bit_or X Z) small has in
          let in-O = part-trans Z (bit_or X Z) O (part-or-right X Z) inside in
          let (Y, y, in-Y, more) = covers-shows later Z (told.all Z in-O (tests Z ∙ shared)) in
          let within = told.finds.inside Y y in-Y in
          let fits = or_lt 8 met Y met-small y in
          covering.leaves-reached wanted both O X (bit_or met Y) few fits
          (all (bit_or met Y) fits ∙ joins-reached now later met Y met-small y in-now in-Y)
          (ap (in_family wanted) (regroup X Y)
          ∙ (wanted-after wants met owed).upward (bit_or X Z) (bit_or X Y)
          (part-or X Z (bit_or X Y) (part-or-left X Y) (part-trans Z Y (bit_or X Y) more (part-or-right X Y)))
          (part-or X Y O few within) has)
