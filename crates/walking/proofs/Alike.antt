-- What is wanted is asked only of sets of the eight automata: where two tests agree on these, the first derivations are the
-- same. And that of one goal alone is its tree.
use mathlib.Core.Path.{◌≡◌, refl, sym, ap, ap₂, fun_ext, ◌∙◌}
use mathlib.Core.List.{List, [], ◌∷◌}
use mathlib.Core.Bool.{Bool, true, false}
use Prim.Native.Nat.{ℕ, zero, suc, ◌<◌}
use native.Mathlib.Omega.{arith}
use lib.Bits.{bit_or, or_lt, or_zero_r}
use borrow.Author.Tests.{eq-eqb, eqb-true}
use Rattle.sets.specs.Logic.{◌and◌, any_below}
use Rattle.sets.specs.Sets.{part}
use Rattle.sets.proofs.Tests.{and-is-off, any_same, same_test}
use Rattle.sets.proofs.Members.{part-le, part-trans}
use Rattle.families.specs.Families.{all_sets}
use Rattle.table.specs.declared.Goal.{Goal}
use Rattle.automata.specs.declared.StateSets.{StateSets}
use Rattle.derivation.specs.Forest.{Forest}
use Rattle.derivation.specs.Forest.Forest.{end}
use Rattle.members.specs.declared.above.Above.{Above}
use Rattle.search.specs.Search.{ends, proves, shares}
use Rattle.choice.specs.Choice.{ends_well, suits}
use Rattle.walking.specs.First.{first_forest, leaves, met_from}
use Rattle.walking.proofs.Wanting.{Wanted, leaves-reached, leaves-shows}
use Rattle.walking.proofs.Meeting.{met-few}
use Rattle.walking.proofs.FirstNode.{first-end, first-floor, first-node, first_tree, pairs_below, sets_below}
use Rattle.walking.proofs.FirstNode.{wants_behind, wants_here}

-- the same sets of the eight automata pass
abbrev pub Alike : (ℕ → Bool) → (ℕ → Bool) → Type 0
Alike wants wants' = (X : ℕ) → X < all_sets → wants X ≡ wants' X

module _ (O : ℕ) (few : O < all_sets) (wants wants' : ℕ → Bool) (alike : Alike wants wants') where
  pub suits-alike : {G : Type 0} (one : G → ℕ → Bool) → suits one O wants ≡ suits one O wants'
  unfolding suits
  suits-alike one =
      fun_ext (λ goals. any_same _ _ (suc O) (λ X l. ap (λ b. b and shares one O goals X) (alike X (omega arith))))

  pub ends-alike : (t : List ℕ) (A : ℕ) (s : StateSets) → ends_well t A O wants s ≡ ends_well t A O wants' s
  unfolding ends_well
  ends-alike t A s = any_same _ _ (suc O) (λ X l. ap (λ b. b and ends t A s X) (alike X (omega arith)))

  pub leaves_alike : (one : Goal → ℕ → Bool) (goals : List Goal) → leaves one O wants goals ≡ leaves one O wants' goals
  unfolding leaves
  leaves_alike one goals = fun_ext (λ X. go X (part X O) refl)
    where
      go : (X : ℕ) (b : Bool) → part X O ≡ b
          → (part X O and any_below (λ Z. shares one O goals Z and wants (bit_or X Z)) (suc O))
          ≡ (part X O and any_below (λ Z. shares one O goals Z and wants' (bit_or X Z)) (suc O))
      go X true owed =
          let l = part-le X O owed in
          ap (λ b. part X O and b) (any_same _ _ (suc O) (λ Z m.
          ap (λ b. shares one O goals Z and b) (alike (bit_or X Z) (or_lt 8 X Z (omega arith) (omega arith)))))
      go X false other = and-is-off _ other ∙ sym (and-is-off _ other)

  pub wanted-alike : Wanted O wants → Wanted O wants'
  wanted-alike wanted =
      record {
        few = few;
        upward = λ X Y less within h.
            let x = part-le X O (part-less X Y within less) in
            let y = part-le Y O within in
            sym (alike Y (omega arith)) ∙ wanted.upward X Y less within (alike X (omega arith) ∙ h);
        inside = λ X l h. wanted.inside X l (alike X l ∙ h);
      }
    where
      part-less : (X Y : ℕ) → part Y O ≡ true → part X Y ≡ true → part X O ≡ true
      part-less X Y within less = part-trans X Y O less within

module _ (t : List ℕ) (S A O : ℕ) (few : O < all_sets) where
  pub first_alike : (levels : ℕ) (above : Above) (s : StateSets) (wants wants' : ℕ → Bool) → Alike wants wants'
      → (goals : List Goal)
      → first_forest t S A O levels above s wants goals ≡ first_forest t S A O levels above s wants' goals
  first_alike zero above s wants wants' alike goals =
      first-floor t S A O above s wants goals ∙ sym (first-floor t S A O above s wants' goals)
  first_alike (suc levels) above s wants wants' alike [] =
      first-end t S A O above s wants (suc levels) ∙ sym (first-end t S A O above s wants' (suc levels))
  first_alike (suc levels) above s wants wants' alike (g ∷ rest) =
      let here : wants_here t S A O levels above s wants g rest ≡ wants_here t S A O levels above s wants' g rest =
      leaves_alike O few wants wants' alike (proves t S A O (suc levels) above s) rest in
      let now : (ℕ → Bool) → ℕ = λ may. met_from t A O s (first_tree t S A O levels above s may g end) in
      let less = part-le _ O
      (met-few t A O (first_tree t S A O levels above s (wants_here t S A O levels above s wants g rest) g end) s) in
      first-node t S A O levels above s wants g rest
      ∙ ap₂ (first_tree_of levels above s g) here
      (first_alike (suc levels) above s (wants_behind t S A O levels above s wants g rest)
      (wants_behind t S A O levels above s wants' g rest)
      (λ X l.
      alike (bit_or (now (wants_here t S A O levels above s wants g rest)) X)
      (or_lt 8 (now (wants_here t S A O levels above s wants g rest)) X (omega arith) l)
      ∙ ap (λ may. wants' (bit_or (now may) X)) here)
      rest)
      ∙ sym (first-node t S A O levels above s wants' g rest)
    where
      first_tree_of : ℕ → Above → StateSets → Goal → (ℕ → Bool) → Forest → Forest
      first_tree_of levels above s g may = first_tree t S A O levels above s may g

  pub tree-alike : (levels : ℕ) (above : Above) (s : StateSets) (g : Goal) (here here' : ℕ → Bool) → Alike here here'
      → (f : Forest)
      → first_tree t S A O levels above s here g f ≡ first_tree t S A O levels above s here' g f
  tree-alike levels above s g here here' alike f =
      let below = sets_below t S A O levels above s here g in
      let deeper = pairs_below t S A O levels above s here g in
      rw (suits-alike O few here here' alike, ends-alike O few here here' alike, first_alike levels deeper below here here' alike)

  -- one goal alone may meet all that is wanted
  alone-wants : (one : Goal → ℕ → Bool) (wants : ℕ → Bool) → Wanted O wants → Alike (leaves one O wants []) wants
  unfolding shares
  alone-wants one wants wanted X l = same_test _ _ on back
    where
      on : leaves one O wants [] X ≡ true → wants X ≡ true
      on h =
          let (owed, Z, m, nothing, is) = leaves-shows wanted one [] X h in
          sym (ap wants (ap (bit_or X) (eqb-true Z 0 nothing) ∙ or_zero_r X)) ∙ is

      back : wants X ≡ true → leaves one O wants [] X ≡ true
      back is =
          leaves-reached wanted one [] X 0 (wanted.inside X l is) (omega arith) (eq-eqb 0 0 refl) (ap wants (or_zero_r X) ∙ is)

  pub first_alone : (levels : ℕ) (above : Above) (s : StateSets) (wants : ℕ → Bool) → Wanted O wants → (g : Goal)
      → first_forest t S A O (suc levels) above s wants (g ∷ []) ≡ first_tree t S A O levels above s wants g end
  first_alone levels above s wants wanted g =
      first-node t S A O levels above s wants g []
      ∙ ap (first_tree t S A O levels above s _ g) (first-end t S A O above s _ (suc levels))
      ∙ tree-alike levels above s g _ wants (alone-wants (proves t S A O (suc levels) above s) wants wanted) end
