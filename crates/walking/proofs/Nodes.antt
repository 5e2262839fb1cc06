-- A node as the walk comes to it: what the goal may meet it can, so a level is left; the node's two numbers are followed by the
-- records of what it asks, and what these meet is what the node does. A node that asks nothing ends a word.
use mathlib.Core.Path.{◌≡◌, refl, sym, ap, ◌∙◌}
use mathlib.Core.List.{List, [], ◌∷◌, ◌++◌, append-nil}
use mathlib.Core.Bool.{Bool, true}
use mathlib.Core.Option.{some}
use Prim.Native.Nat.{ℕ, zero, suc, ◌+◌, ◌-◌, ◌<◌, ◌≤◌}
use native.Mathlib.Omega.{arith}
use native.Mathlib.Decide.{ℕ_discrete}
use lib.ListN.{drop, get_or, length}
use lib.Seq.{ext_get_or}
use lib.Bits.{bit_and, bit_or}
use Rattle.sets.specs.Logic.{any_below, pick}
use Rattle.sets.proofs.Members.{part-le}
use Rattle.table.specs.Layout.{credential, credentials}
use Rattle.table.specs.Holding.{WellFormed}
use Rattle.table.specs.declared.Goal.{Goal}
use Rattle.automata.specs.Together.{accepting_set}
use Rattle.automata.specs.declared.StateSets.{StateSets}
use Rattle.derivation.specs.Rules.{premises}
use Rattle.derivation.specs.Held.{no_goal}
use Rattle.derivation.specs.Forest.{Forest, written}
use Rattle.derivation.specs.Forest.Forest.{end, node}
use Rattle.members.specs.Above.{with_goal, with_pair}
use Rattle.members.proofs.Places.{is-person}
use Rattle.members.specs.declared.above.Above.{Above}
use Rattle.goals.specs.Goals.{stepped}
use Rattle.std.proofs.lemmas.List.{get_or-drop, length-drop}
use Rattle.few.specs.Listed.{listed}
use Rattle.search.specs.Asking.{pair}
use Rattle.search.specs.Search.{Stands, goal_at, proves, proves_with}
use Rattle.search.specs.declared.asking.Pair.{Pair}
use Rattle.search.proofs.Sharing.{shares-alone}
use Rattle.search.proofs.Owing.{proves-less}
use Rattle.choice.specs.declared.Node.{Node}
use Rattle.choice.specs.Choice.{Children, Chosen, asked, ends_well, suits}
use Rattle.walking.specs.First.{first_forest, met_from}
use Rattle.walking.specs.Walked.{Walked, goals_at}
use Rattle.walking.proofs.Wanting.{Wanted, suits-shows}
use Rattle.walking.proofs.Meeting.{met-alone, node-asks, node_met}
use Rattle.walking.proofs.FirstNode.{first-applies, first-end, first_found}
use Rattle.walking.proofs.Alike.{first_alone}
use Rattle.walking.proofs.FirstMet.{level-none}
use Rattle.walking.proofs.Walking.{walked-any, walked-beyond, walked_then}

-- the goals that are asked, one by one
module _ (t : List ℕ) where
  goals-count : (pairs : List Pair) → length (goals_at t pairs) ≡ length pairs
  unfolding goals_at
  goals-count [] = refl
  goals-count (p ∷ pairs) = ap suc (goals-count pairs)

  goals-each : (pairs : List Pair) (k : ℕ) → k < length pairs
      → get_or (goals_at t pairs) k no_goal ≡ goal_at t (get_or pairs k (pair 0 0)).person (get_or pairs k (pair 0 0)).place
  unfolding goals_at
  goals-each [] k l = absurd (omega arith)
  goals-each (p ∷ pairs) zero l = refl
  goals-each (p ∷ pairs) (suc k) l = goals-each pairs k (omega arith)

-- what a node's children are asked is what its numbers ask
module _ {t : List ℕ} {S A O levels : ℕ} {above : Above} {s : StateSets} {goals : List Goal} {pairs : List Pair}
    (children : Children t S A O levels above s goals pairs) where
  pub children-goals : goals ≡ goals_at t pairs
  children-goals =
      ext_get_or no_goal goals (goals_at t pairs) (sym children.count ∙ sym (goals-count t pairs))
      (λ k l.
      sym (children.goals-are k (omega (arith, children.count))) ∙ sym (goals-each t pairs k (omega (arith, children.count))))

  pub children-asked : Children t S A O levels above s (goals_at t pairs) pairs
  children-asked = rw children-goals at children

  -- and so from goal k on
  pub children-drop : (k : ℕ) → Children t S A O levels above s (goals_at t (drop k pairs)) (drop k pairs)
  children-drop k =
      record {
        count = sym (goals-count t (drop k pairs));
        stands = λ j l. rw (get_or-drop k pairs j (pair 0 0)) (children.stands (k + j) (later j l));
        proved = λ j l. rw (get_or-drop k pairs j (pair 0 0)) (children.proved (k + j) (later j l));
        goals-are = λ j l. sym (goals-each t (drop k pairs) j l);
      }
    where
      later : (j : ℕ) → j < length (drop k pairs) → k + j < length pairs
      later j l = omega (arith, length-drop k pairs)

-- a goal whose node is to be chosen: it suits what is wanted, and branch and state sets are one role on
pub record Entered (t : List ℕ) (S A O levels : ℕ) (above deeper : Above) (s below : StateSets) (wants : ℕ → Bool)
    (person place : ℕ)
    : Type 0 where
  pub well_formed : WellFormed t
  pub stands : Stands t person place
  pub there : place < credentials t
  pub wanted : Wanted O wants
  pub suited : suits (proves t S A O levels above s) O wants (goal_at t person place ∷ []) ≡ true
  pub moved : below ≡ stepped t (bit_or A O) (credential t (suc place)).role s
  pub deeper-is : deeper ≡ with_pair above person place

-- a level is left
pub suits-left : (t : List ℕ) (S A O levels : ℕ) (above : Above) (s : StateSets) (wants : ℕ → Bool) → Wanted O wants
    → (g : Goal) (rest : List Goal) → suits (proves t S A O levels above s) O wants (g ∷ rest) ≡ true → 1 ≤ levels
suits-left t S A O levels above s wants wanted g rest suited = go (ℕ_discrete levels 0)
  where
    go : Dec (levels ≡ 0) → 1 ≤ levels
    go (yes none) = absurd (level-none t S A O above s wants wanted g rest (rw none at suited))
    go (no left) = omega arith

module _ {t : List ℕ} {S A O levels : ℕ} {above deeper : Above} {s below : StateSets} {wants : ℕ → Bool} {person place : ℕ}
    (entered : Entered t S A O levels above deeper s below wants person place) where
  abbrev g : Goal
  g = goal_at t person place

  pub entered-left : 1 ≤ levels
  entered-left = suits-left t S A O levels above s wants entered.wanted g [] entered.suited

  one_less : suc (levels - 1) ≡ levels
  one_less = omega (arith, entered-left)

  same-deeper : with_goal t above g ≡ deeper
  unfolding with_goal
  same-deeper =
      rw (entered.stands.first entered.there, (is-person t person entered.stands.named).1) (sym entered.deeper-is)

  -- it can meet a set that is wanted
  can-meet : (X : ℕ) × (X ≤ O) × (wants X ≡ true) × (proves t S A O (suc (levels - 1)) above s g X ≡ true)
  can-meet =
      let (X, owed, is, shared) = suits-shows entered.wanted _ (g ∷ []) entered.suited in (
        X,
        part-le X O owed,
        is,
        rw one_less (shares-alone (proves t S A O levels above s) O
            (λ Y Y' h. proves-less t S A O levels above s h Y Y') g X shared),
      )

  -- some credential proves it
  pub node-found : any_below
      (proves_with t S (suits (proves t S A O (levels - 1) deeper below) O wants) (ends_well t A O wants below) g)
      (credentials t) ≡ true
  node-found =
      let (X, few, is, proved) = can-meet in
      rw (same-deeper, ← entered.moved) at
      (first_found t S A O (levels - 1) above s wants g entered.wanted X few is proved)

  module _ {n : Node} (chosen : Chosen t S A O (levels - 1) deeper below wants g n) where
    abbrev asks : List Goal
    asks = asked (premises t g n.credential n.middle)

    abbrev children : Forest
    children = first_forest t S A O (levels - 1) deeper below wants asks

    tree_is : first_forest t S A O levels above s wants (g ∷ []) ≡ node n.credential n.middle children end
    tree_is =
        ap (λ l. first_forest t S A O l above s wants (g ∷ [])) (sym one_less)
        ∙ first_alone t S A O entered.wanted.few (levels - 1) above s wants entered.wanted g
        ∙ rw (chosen.middle-is, chosen.credential-is, ← same-deeper, entered.moved)

    applies : premises t g n.credential n.middle ≡ some asks
    applies =
        let (X, few, is, proved) = can-meet in
        rw (chosen.middle-is, chosen.credential-is, ← same-deeper, entered.moved)
        (first-applies t S A O (levels - 1) above s wants g entered.wanted X few is proved)

    tree-written : written (first_forest t S A O levels above s wants (g ∷ []))
        ≡ (n.credential ∷ n.middle ∷ []) ++ written children
    unfolding written
    tree-written = ap written tree_is ∙ rw (append-nil (written children))

    tree-met : met_from t A O s (first_forest t S A O levels above s wants (g ∷ [])) ≡ node_met t A O below asks children
    tree-met =
        ap (met_from t A O s) tree_is
        ∙ met-alone t A O entered.well_formed g n.credential n.middle asks applies s children
        ∙ ap (λ x. node_met t A O x asks children) (sym entered.moved)

    pub chosen-suits : (length (listed n.asked) ≡ 0 → ⊥)
        → suits (proves t S A O (levels - 1) deeper below) O wants (goals_at t (listed n.asked)) ≡ true
    chosen-suits some-goals = rw (children-goals chosen.children) at (chosen.suited some-goals)

    -- its numbers are put
    module _ {at : ℕ} {before mid : List ℕ}
        (put : Walked at (at + 2) (n.credential ∷ n.middle ∷ []) before mid (at + 2)) (most : ℕ) where
      -- a walk over the node that tells the cell `next`, and `met`
      abbrev Told : List ℕ → ℕ → ℕ → Type 0
      Told after next met =
          Walked at most (written (first_forest t S A O levels above s wants (g ∷ []))) before after next
          × (next ≤ most → met ≡ met_from t A O s (first_forest t S A O levels above s wants (g ∷ [])))

      -- it asks nothing
      pub node-ends : length (listed n.asked) ≡ 0 → {accepting : ℕ} → accepting ≡ accepting_set t below
          → Told mid (at + 2) (bit_and O accepting)
      unfolding node_met pick written
      node-ends none accepting-is =
          let nothing : asks ≡ [] = no-goals asks (sym chosen.children.count ∙ none) in
          let ended : written children ≡ [] =
          ap (λ gs. written (first_forest t S A O (levels - 1) deeper below wants gs)) nothing
          ∙ ap written (first-end t S A O deeper below wants (levels - 1)) in (
            rw (tree-written, ended) (walked-any put most),
            (λ room. sym (tree-met ∙ ap (λ gs. node_met t A O below gs (first_forest t S A O (levels - 1) deeper below wants gs))
                nothing
                ∙ ap (bit_and O) (sym accepting-is))),
          )
        where
          no-goals : (goals : List Goal) → length goals ≡ 0 → goals ≡ []
          no-goals [] none = refl
          no-goals (h ∷ goals) none = absurd (omega arith)

      -- there is no room for what it asks
      pub node_over : most < at + 2 → (met : ℕ) → Told mid (at + 2) met
      node_over over met =
          (rw tree-written (walked-beyond (walked-any put most) (written children) over), λ room. absurd (omega arith))

      -- what it asks is walked
      pub node-goes : (length (listed n.asked) ≡ 0 → ⊥) → {after : List ℕ} {next met : ℕ}
          → Walked (at + 2) most (written (first_forest t S A O (levels - 1) deeper below wants (goals_at t (listed n.asked)))) mid
          after next
          → (next ≤ most → met ≡ met_from t A O below
          (first_forest t S A O (levels - 1) deeper below wants (goals_at t (listed n.asked))))
          → Told after next met
      node-goes some-goals on meets =
          let same = children-goals chosen.children in (
            rw tree-written (walked_then put (rw (← same) at on)),
            (λ room. meets room
                ∙ ap (λ gs. met_from t A O below (first_forest t S A O (levels - 1) deeper below wants gs)) (sym same)
                ∙ sym (tree-met ∙ node-asks t A O below asks children (λ none. some-goals (chosen.children.count ∙ none)))),
          )
