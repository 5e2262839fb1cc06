-- What a node of the first derivation is made of. Where the goal can meet a set that is wanted, the node's credential is in the
-- set and applies with the node's middle, and what it asks suits what is wanted.
use mathlib.Core.Path.{◌≡◌, refl}
use mathlib.Core.List.{List, [], ◌∷◌}
use mathlib.Core.Bool.{Bool, true, not}
use mathlib.Core.Option.{some}
use Prim.Native.Nat.{ℕ, zero, suc, ◌-◌, ◌≤◌}
use lib.ListN.{length}
use lib.Bits.{bit_or}
use lib.Dec.{eqb}
use Rattle.sets.specs.Logic.{any_below, pick}
use Rattle.sets.specs.Sets.{in_set}
use Rattle.sets.proofs.Tests.{and_both, and_first, and_second, any-mono}
use Rattle.table.specs.Layout.{credentials}
use Rattle.table.specs.declared.Goal.{Goal}
use Rattle.automata.specs.declared.StateSets.{StateSets}
use Rattle.derivation.specs.Rules.{premises}
use Rattle.derivation.specs.Forest.{Forest}
use Rattle.derivation.specs.Forest.Forest.{end, node}
use Rattle.members.specs.Above.{is_above, with_goal}
use Rattle.members.specs.Trying.{proved_premises}
use Rattle.members.specs.declared.above.Above.{Above}
use Rattle.members.proofs.Stepping.{all-by-mono}
use Rattle.goals.specs.Goals.{stepped}
use Rattle.search.specs.Search.{ends, proves, shares}
use Rattle.choice.specs.Choice.{asked, ends_well, least_credential, least_middle, proves_with, suits}
use Rattle.walking.specs.First.{each_first, first_forest, leaves, met_from}
use Rattle.walking.proofs.Wanting.{Wanted, ends-reached, suits-reached}
use Rattle.walking.proofs.LeastNode.{asked-proved, asked-some, least-credential-own, least-credential-proves}

-- what the node of a goal is made of, with so many levels left below it, where `here` says which sets it may meet
module _ (t : List ℕ) (S A O levels : ℕ) (above : Above) (s : StateSets) (here : ℕ → Bool) (g : Goal) where
  abbrev pub sets_below : StateSets
  sets_below = stepped t (bit_or A O) g.role s

  abbrev pub pairs_below : Above
  pairs_below = with_goal t above g

  abbrev pub proved_below : Goal → ℕ → Bool
  proved_below = proves t S A O levels pairs_below sets_below

  abbrev pub suits_below : List Goal → Bool
  suits_below = suits proved_below O here

  abbrev pub word_ends : Bool
  word_ends = ends_well t A O here sets_below

  abbrev pub first_credential : ℕ
  first_credential = least_credential t S suits_below word_ends g

  abbrev pub first_middle : ℕ
  first_middle = least_middle t suits_below word_ends g first_credential

  abbrev pub first_asked : List Goal
  first_asked = asked (premises t g first_credential first_middle)

  abbrev pub first_below : List Goal → Forest
  first_below = first_forest t S A O levels pairs_below sets_below here

  abbrev pub first_tree : Forest → Forest
  first_tree = node first_credential first_middle (first_below first_asked)

  -- where the goal can be proved such that it meets a set that it may meet
  module _ (wanted : Wanted O here) (X : ℕ) (few : X ≤ O) (may : here X ≡ true)
      (proved : proves t S A O (suc levels) above s g X ≡ true) where
    pub first_found : any_below (proves_with t S suits_below word_ends g) (credentials t) ≡ true
    unfolding proves
    first_found =
        any-mono _ _ (credentials t) (λ c l both.
        and_both (and_first _ _ both)
        (all-by-mono (λ goals. shares proved_below O goals X) suits_below
        (λ goals. suits-reached wanted proved_below goals X few may)
        (ends t A sets_below X) word_ends (ends-reached wanted t A sets_below X few may) t g (suc c) (and_second _ _ both)))
        (and_second _ _ proved)

    pub first-own : in_set S (first_credential - 1) ≡ true
    first-own = least-credential-own t S suits_below word_ends g first_found

    passes : proved_premises suits_below word_ends (premises t g first_credential first_middle) ≡ true
    passes = least-credential-proves t S suits_below word_ends g first_found

    pub first-applies : premises t g first_credential first_middle ≡ some first_asked
    first-applies = asked-some suits_below word_ends (premises t g first_credential first_middle) passes

    pub first-proved : pick (eqb (length first_asked) 0) word_ends (suits_below first_asked) ≡ true
    first-proved = asked-proved suits_below word_ends (premises t g first_credential first_middle) passes

    pub first-new : not (is_above t above g) ≡ true
    unfolding proves
    first-new = and_first _ _ proved

-- the first of some goals, and those behind it
module _ (t : List ℕ) (S A O levels : ℕ) (above : Above) (s : StateSets) (wants : ℕ → Bool) (g : Goal) (rest : List Goal) where
  abbrev pub wants_here : ℕ → Bool
  wants_here = leaves (proves t S A O (suc levels) above s) O wants rest

  abbrev pub met_here : ℕ
  met_here = met_from t A O s (first_tree t S A O levels above s wants_here g end)

  abbrev pub wants_behind : ℕ → Bool
  wants_behind = λ X. wants (bit_or met_here X)

  pub first-node : first_forest t S A O (suc levels) above s wants (g ∷ rest)
      ≡ first_tree t S A O levels above s wants_here g (first_forest t S A O (suc levels) above s wants_behind rest)
  unfolding first_forest each_first
  first-node = refl

module _ (t : List ℕ) (S A O : ℕ) (above : Above) (s : StateSets) (wants : ℕ → Bool) where
  pub first-floor : (goals : List Goal) → first_forest t S A O zero above s wants goals ≡ end
  unfolding first_forest
  first-floor goals = refl

  pub first-end : (levels : ℕ) → first_forest t S A O levels above s wants [] ≡ end
  unfolding first_forest each_first
  first-end zero = refl
  first-end (suc levels) = refl
