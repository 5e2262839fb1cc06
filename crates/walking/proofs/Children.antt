-- From child to child: the record of some goals is that of the first, who may meet what leaves to the others what these can, and
-- behind it that of the others, who have to meet what the first has not. `met` is what all children so far have met together.
use mathlib.Core.Path.{◌≡◌, refl, sym, ap, fun_ext, ◌∙◌}
use mathlib.Core.List.{List, [], ◌∷◌, ◌++◌, append_assoc, append-nil}
use mathlib.Core.Bool.{Bool, true}
use Prim.Native.Nat.{ℕ, zero, suc, ◌+◌, ◌<◌, ◌≤◌}
use lib.ListN.{drop, get_or, length}
use Rattle.std.proofs.lemmas.List.{drop_all, drop_more}
use lib.Bits.{bit_or, or_zero_r}
use Rattle.sets.specs.Sets.{in_set, part}
use Rattle.sets.specs.Logic.{◌or◌}
use Rattle.sets.proofs.Tests.{or_assoc}
use Rattle.sets.proofs.Members.{in_set-or, part-or, part-zero, same-members}
use Rattle.table.specs.Holding.{WellFormed}
use Rattle.table.specs.declared.Goal.{Goal}
use Rattle.automata.specs.declared.StateSets.{StateSets}
use Rattle.derivation.specs.Forest.{Forest, written}
use Rattle.derivation.specs.Forest.Forest.{end, node}
use Rattle.members.specs.declared.above.Above.{Above}
use Rattle.search.specs.Search.{goal_at, proves}
use Rattle.search.specs.Asking.{pair}
use Rattle.search.specs.declared.asking.Pair.{Pair}
use Rattle.search.proofs.Owing.{proves-less}
use Rattle.choice.specs.Choice.{suits}
use Rattle.walking.specs.First.{first_forest, leaves, met_from}
use Rattle.walking.specs.Walked.{Walked, goals_at}
use Rattle.walking.proofs.Wanting.{Wanted, first-suits, suits-alone, wanted-after, wanted-here}
use Rattle.walking.proofs.Meeting.{met-end, met-few, met-split}
use Rattle.walking.proofs.FirstNode.{first-end, first-node, first_tree, wants_here}
use Rattle.walking.proofs.Alike.{Alike, first_alike, first_alone, suits-alike, wanted-alike}
use Rattle.walking.proofs.FirstMet.{behind-suits, level-none}
use Rattle.walking.proofs.Walking.{walked-append, walked-beyond, walked_none}

pub or-behind : (x y z : ℕ) → bit_or x (bit_or y z) ≡ bit_or (bit_or x y) z
or-behind x y z =
    same-members _ _ (λ k.
    in_set-or x (bit_or y z) k ∙ ap (λ b. in_set x k or b) (in_set-or y z k) ∙ sym (or_assoc (in_set x k) (in_set y k) (in_set z k))
    ∙ sym (ap (λ b. b or in_set z k) (in_set-or x y k)) ∙ sym (in_set-or (bit_or x y) z k))

written-split : (c m : ℕ) (children siblings : Forest)
    → written (node c m children siblings) ≡ written (node c m children end) ++ written siblings
unfolding written
written-split c m children siblings = rw (append-nil (written children))

module _ (t : List ℕ) (S A O levels : ℕ) (above : Above) (s : StateSets) where
  abbrev one : Goal → ℕ → Bool
  one = proves t S A O levels above s

  abbrev forest : (ℕ → Bool) → List Goal → Forest
  forest = first_forest t S A O levels above s

  abbrev meets : Forest → ℕ
  meets = met_from t A O s

  -- the first goal, alone, such that it meets what it may
  module _ (wants : ℕ → Bool) (wanted : Wanted O wants) (g : Goal) (rest : List Goal)
      (suited : suits one O wants (g ∷ rest) ≡ true)
      (may : ℕ → Bool) (alike : Alike may (leaves one O wants rest)) where
    child-wanted : Wanted O may
    child-wanted = wanted-alike O wanted.few _ may (λ X l. sym (alike X l)) (wanted-here wanted one rest)

    child-suits : suits one O may (g ∷ []) ≡ true
    child-suits =
        let (Y, few, is, proved) = first-suits wanted one (proves-less t S A O levels above s) g rest suited in
        ap (λ all. all (g ∷ [])) (suits-alike O wanted.few may _ alike one)
        ∙ suits-alone (wanted-here wanted one rest) one g Y few is proved

  -- where the children before have met `met`, and `rest` are those behind: what is walked so far, and what is left
  pub record Passed (wants : ℕ → Bool) (goals rest : List Goal) (from most : ℕ) (before mid : List ℕ) (next met : ℕ)
      : Type 0 where
    pub numbers : List ℕ
    pub walked : Walked from most numbers before mid next
    pub written_is : written (forest wants goals) ≡ numbers ++ written (forest (λ X. wants (bit_or met X)) rest)
    pub met-is : meets (forest wants goals) ≡ bit_or met (meets (forest (λ X. wants (bit_or met X)) rest))
    pub few : part met O ≡ true
    pub suited : suits one O (λ X. wants (bit_or met X)) rest ≡ true

  pub passed_none : (wants : ℕ → Bool) (goals : List Goal) (from most : ℕ) (rec : List ℕ) → suits one O wants goals ≡ true
      → Passed wants goals goals from most rec rec from 0
  passed_none wants goals from most rec suited =
      record {
        numbers = [];
        walked = walked_none from most rec;
        written_is = refl;
        met-is = refl;
        few = part-zero O;
        suited = suited;
      }

  pub passed-last : (wants : ℕ → Bool) (goals : List Goal) {from most next met : ℕ} {before mid : List ℕ}
      → Passed wants goals [] from most before mid next met
      → Walked from most (written (forest wants goals)) before mid next × (met ≡ meets (forest wants goals))
  unfolding written
  passed-last wants goals {from} {most} {next} {met} {before} {mid} passed =
      let none = first-end t S A O above s (λ X. wants (bit_or met X)) levels in (
        rw (passed.written_is, none, append-nil) passed.walked,
        sym (passed.met-is ∙ ap (λ f. bit_or met (meets f)) none ∙ ap (bit_or met) (met-end t A O s) ∙ or_zero_r met),
      )

-- the first of some goals, with a level left
module _ (t : List ℕ) (wf : WellFormed t) (S A O levels : ℕ) (above : Above) (s : StateSets) (wants : ℕ → Bool)
    (wanted : Wanted O wants)
    (g : Goal) (rest : List Goal) where
  abbrev tree : Forest
  tree = first_forest t S A O (suc levels) above s (wants_here t S A O levels above s wants g rest) (g ∷ [])

  abbrev behind : ℕ → Forest
  behind now = first_forest t S A O (suc levels) above s (λ X. wants (bit_or now X)) rest

  tree_is : tree ≡ first_tree t S A O levels above s (wants_here t S A O levels above s wants g rest) g end
  tree_is = first_alone t S A O wanted.few levels above s _ (wanted-here wanted (proves t S A O (suc levels) above s) rest) g

  cons-written : written (first_forest t S A O (suc levels) above s wants (g ∷ rest))
      ≡ written tree ++ written (behind (met_from t A O s tree))
  cons-written =
      ap written (first-node t S A O levels above s wants g rest) ∙ written-split _ _ _ _
      ∙ sym (ap (λ f. written f ++ written (behind (met_from t A O s f))) tree_is)

  cons-met : met_from t A O s (first_forest t S A O (suc levels) above s wants (g ∷ rest))
      ≡ bit_or (met_from t A O s tree) (met_from t A O s (behind (met_from t A O s tree)))
  cons-met =
      ap (met_from t A O s) (first-node t S A O levels above s wants g rest) ∙ met-split t A O s _ _ _ _
      ∙ sym (ap (λ f. bit_or (met_from t A O s f) (met_from t A O s (behind (met_from t A O s f)))) tree_is)

  cons-suits : suits (proves t S A O (suc levels) above s) O wants (g ∷ rest) ≡ true
      → suits (proves t S A O (suc levels) above s) O (λ X. wants (bit_or (met_from t A O s tree) X)) rest ≡ true
  cons-suits suited =
      ap (λ f. suits (proves t S A O (suc levels) above s) O (λ X. wants (bit_or (met_from t A O s f) X)) rest) tree_is
      ∙ behind-suits t wf S A O levels above s wants wanted g rest suited

-- one child more, with a level left
module _ (t : List ℕ) (wf : WellFormed t) (S A O levels : ℕ) (above : Above) (s : StateSets) (wants : ℕ → Bool)
    (wanted : Wanted O wants)
    (goals rest : List Goal) (g : Goal) {from most next met : ℕ} {before mid : List ℕ}
    (passed : Passed t S A O (suc levels) above s wants goals (g ∷ rest) from most before mid next met) where
  abbrev left : ℕ → Bool
  left = λ X. wants (bit_or met X)

  left-wanted : Wanted O left
  left-wanted = wanted-after wanted met passed.few

  abbrev child : Forest
  child = tree t wf S A O levels above s left left-wanted g rest

  abbrev now : ℕ
  now = met_from t A O s child

  -- what is wanted of those behind, of what has been met before and of what the child has met
  abbrev then : ℕ → Bool
  then = λ X. wants (bit_or (bit_or met now) X)

  regrouped : (λ (X : ℕ). left (bit_or now X)) ≡ then
  regrouped = fun_ext (λ X. ap wants (or-behind met now X))

  whole-written : written (first_forest t S A O (suc levels) above s wants goals)
      ≡ (passed.numbers ++ written child) ++ written (first_forest t S A O (suc levels) above s then rest)
  whole-written =
      passed.written_is ∙ ap (λ xs. passed.numbers ++ xs) (cons-written t wf S A O levels above s left left-wanted g rest)
      ∙ sym (append_assoc passed.numbers (written child) _)
      ∙ ap (λ w. (passed.numbers ++ written child) ++ written (first_forest t S A O (suc levels) above s w rest)) regrouped

  module _ (room : next ≤ most) {next' : ℕ} {after : List ℕ} (on : Walked next most (written child) mid after next') where
    tree-passed : Passed t S A O (suc levels) above s wants goals rest from most before after next' (bit_or met now)
    tree-passed =
        record {
          numbers = passed.numbers ++ written child;
          walked = walked-append passed.walked (written child) room on;
          written_is = whole-written;
          met-is =
              passed.met-is ∙ ap (bit_or met) (cons-met t wf S A O levels above s left left-wanted g rest) ∙ or-behind met now _
              ∙ ap (λ w. bit_or (bit_or met now) (met_from t A O s (first_forest t S A O (suc levels) above s w rest))) regrouped;
          few = part-or met now O passed.few (met-few t A O child s);
          suited =
              sym (ap (λ w. suits (proves t S A O (suc levels) above s) O w rest) regrouped)
              ∙ cons-suits t wf S A O levels above s left left-wanted g rest passed.suited;
        }

    tree-beyond : most < next'
        → Walked from most (written (first_forest t S A O (suc levels) above s wants goals)) before after next'
    tree-beyond over =
        rw whole-written (walked-beyond (walked-append passed.walked (written child) room on) _ over)

-- one child more, which may meet what a family has
module _ (t : List ℕ) (wf : WellFormed t) (S A O : ℕ) (above : Above) (s : StateSets) (wants : ℕ → Bool) (wanted : Wanted O wants)
    (goals rest : List Goal) (g : Goal) (may : ℕ → Bool) {from most next met : ℕ} {before mid : List ℕ} where
  module _ (levels : ℕ) (passed : Passed t S A O levels above s wants goals (g ∷ rest) from most before mid next met)
      (alike : Alike may (leaves (proves t S A O levels above s) O (λ X. wants (bit_or met X)) rest)) where
    pub may-wanted : Wanted O may
    may-wanted =
        child-wanted t S A O levels above s _ (wanted-after wanted met passed.few) g rest passed.suited may alike

    pub may-suits : suits (proves t S A O levels above s) O may (g ∷ []) ≡ true
    may-suits =
        child-suits t S A O levels above s _ (wanted-after wanted met passed.few) g rest passed.suited may alike

    child-is : first_forest t S A O levels above s may (g ∷ [])
        ≡ first_forest t S A O levels above s (leaves (proves t S A O levels above s) O (λ X. wants (bit_or met X)) rest) (g ∷ [])
    child-is = first_alike t S A O wanted.few levels above s may _ alike (g ∷ [])

  pub passed-next : (levels : ℕ) → Passed t S A O levels above s wants goals (g ∷ rest) from most before mid next met
      → Alike may (leaves (proves t S A O levels above s) O (λ X. wants (bit_or met X)) rest) → next ≤ most
      → {next' : ℕ} {after : List ℕ}
      → Walked next most (written (first_forest t S A O levels above s may (g ∷ []))) mid after next'
      → (now : ℕ) → now ≡ met_from t A O s (first_forest t S A O levels above s may (g ∷ []))
      → Passed t S A O levels above s wants goals rest from most before after next' (bit_or met now)
  passed-next zero passed alike room on now is =
      absurd (level-none t S A O above s _ (wanted-after wanted met passed.few) g rest passed.suited)
  passed-next (suc levels) passed alike room on now is =
      let same = child-is (suc levels) passed alike in
      rw (is ∙ ap (met_from t A O s) same)
      (tree-passed t wf S A O levels above s wants wanted goals rest g passed room (rw same at on))

  pub passed-beyond : (levels : ℕ) → Passed t S A O levels above s wants goals (g ∷ rest) from most before mid next met
      → Alike may (leaves (proves t S A O levels above s) O (λ X. wants (bit_or met X)) rest) → next ≤ most
      → {next' : ℕ} {after : List ℕ}
      → Walked next most (written (first_forest t S A O levels above s may (g ∷ []))) mid after next' → most < next'
      → Walked from most (written (first_forest t S A O levels above s wants goals)) before after next'
  passed-beyond zero passed alike room on over =
      absurd (level-none t S A O above s _ (wanted-after wanted met passed.few) g rest passed.suited)
  passed-beyond (suc levels) passed alike room on over =
      let same = child-is (suc levels) passed alike in
      tree-beyond t wf S A O levels above s wants wanted goals rest g passed room (rw same at on) over

-- goal by goal of those that are asked
pub goals-next : (t : List ℕ) (pairs : List Pair) (k : ℕ) → k < length pairs
    → goals_at t (drop k pairs)
    ≡ goal_at t (get_or pairs k (pair 0 0)).person (get_or pairs k (pair 0 0)).place ∷ goals_at t (drop (k + 1) pairs)
unfolding goals_at
goals-next t pairs k l = rw (drop_more pairs k (pair 0 0) l)

pub goals-last : (t : List ℕ) (pairs : List Pair) (k : ℕ) → length pairs ≤ k → goals_at t (drop k pairs) ≡ []
unfolding goals_at
goals-last t pairs k all = rw (drop_all k pairs all)

pub asked-last : (t : List ℕ) (S A O levels : ℕ) (above : Above) (s : StateSets) (wants : ℕ → Bool) (goals : List Goal)
    (pairs : List Pair) (k : ℕ)
    → length pairs ≤ k → {from most next met : ℕ} {before mid : List ℕ}
    → Passed t S A O levels above s wants goals (goals_at t (drop k pairs)) from most before mid next met
    → Walked from most (written (first_forest t S A O levels above s wants goals)) before mid next
    × (met ≡ met_from t A O s (first_forest t S A O levels above s wants goals))
asked-last t S A O levels above s wants goals pairs k all passed =
    passed-last t S A O levels above s wants goals (rw (goals-last t pairs k all) at passed)

module _ {t : List ℕ} (wf : WellFormed t) (S A O levels : ℕ) (above : Above) (s : StateSets) (wants : ℕ → Bool)
    (wanted : Wanted O wants)
    {goals : List Goal} (pairs : List Pair) (k : ℕ) (l : k < length pairs) {from most next met : ℕ} {before mid : List ℕ}
    (passed : Passed t S A O levels above s wants goals (goals_at t (drop k pairs)) from most before mid next met) (may : ℕ → Bool)
    (alike : Alike may (leaves (proves t S A O levels above s) O (λ X. wants (bit_or met X)) (goals_at t (drop (k + 1) pairs)))) where
  abbrev g : Goal
  g = goal_at t (get_or pairs k (pair 0 0)).person (get_or pairs k (pair 0 0)).place

  here : Passed t S A O levels above s wants goals (g ∷ goals_at t (drop (k + 1) pairs)) from most before mid next met
  here = rw (goals-next t pairs k l) at passed

  pub asked-wanted : Wanted O may
  asked-wanted = may-wanted t wf S A O above s wants wanted goals (goals_at t (drop (k + 1) pairs)) g may levels here alike

  pub asked-suits : suits (proves t S A O levels above s) O may (g ∷ []) ≡ true
  asked-suits = may-suits t wf S A O above s wants wanted goals (goals_at t (drop (k + 1) pairs)) g may levels here alike

  module _ (room : next ≤ most) {next' : ℕ} {after : List ℕ}
      (on : Walked next most (written (first_forest t S A O levels above s may (g ∷ []))) mid after next') where
    pub asked-next : (now : ℕ) → now ≡ met_from t A O s (first_forest t S A O levels above s may (g ∷ []))
        → Passed t S A O levels above s wants goals (goals_at t (drop (k + 1) pairs)) from most before after next' (bit_or met now)
    asked-next now is =
        passed-next t wf S A O above s wants wanted goals (goals_at t (drop (k + 1) pairs)) g may levels here alike room on now is

    pub asked-beyond : most < next'
        → Walked from most (written (first_forest t S A O levels above s wants goals)) before after next'
    asked-beyond over =
        passed-beyond t wf S A O above s wants wanted goals (goals_at t (drop (k + 1) pairs)) g may levels here alike room on over
