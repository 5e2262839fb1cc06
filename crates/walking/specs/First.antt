-- docs/DEFINITION.md, "The first record": the first derivation, node by node. At each node the least credential with which the
-- goal can be proved such that all that is owed can still be met, and with it the least middle; then what it asks, in order.
-- crates/writing/specs/Writes.antt states that this is the record that the definition means.
use Rattle.std.specs.Prelude.{ℕ, zero, suc, List, [], ◌∷◌, Bool, eqb}
use Rattle.std.specs.Int.Bits.{bit_and, bit_or}
use Rattle.sets.specs.Logic.{◌and◌, any_below, pick}
use Rattle.sets.specs.Sets.{part}
use Rattle.table.specs.Layout.{credential}
use Rattle.table.specs.declared.Goal.{Goal}
use Rattle.table.specs.declared.Query.{Query}
use Rattle.automata.specs.Together.{accepting_set, starting_sets}
use Rattle.automata.specs.declared.StateSets.{StateSets}
use Rattle.derivation.specs.Rules.{goal_of, premises}
use Rattle.derivation.specs.Forest.{Forest, written}
use Rattle.derivation.specs.Forest.Forest.{end, node}
use Rattle.attached.specs.Attached.{every_of, owed_of}
use Rattle.members.specs.Above.{nothing_above, with_goal}
use Rattle.members.specs.declared.above.Above.{Above}
use Rattle.goals.specs.Goals.{stepped}
use Rattle.search.specs.Search.{proves, shares}
use Rattle.choice.specs.Choice.{asked, ends_well, least_credential, least_middle, suits}

-- what a goal may meet, where what is wanted is met with it by the goals behind it
unfoldable pub leaves : (Goal → ℕ → Bool) → ℕ → (ℕ → Bool) → List Goal → ℕ → Bool
leaves one O wants goals X = part X O and any_below (λ Z. shares one O goals Z and wants (bit_or X Z)) (suc O)

-- the automata of O that accept some word of the forest, which is read from the state sets s on; A is imposed besides
unfoldable pub met_from : List ℕ → ℕ → ℕ → StateSets → Forest → ℕ
met_from t A O s end = 0
met_from t A O s (node c m children siblings) =
    let below = stepped t (bit_or A O) (credential t c).role s in
    bit_or
    (pick (eqb (credential t c).kind 1) (bit_and O (accepting_set t below)) (met_from t A O below children))
    (met_from t A O s siblings)

-- a tree for each goal, before those of the goals behind it: it leaves to these what they can meet, and they have to meet what it
-- has not
unfoldable pub each_first : (Goal → ℕ → Bool) → ℕ → (Goal → (ℕ → Bool) → Forest → Forest) → (Forest → ℕ) → (ℕ → Bool) → List Goal
    → Forest
each_first one O tree met wants [] = end
each_first one O tree met wants (g ∷ goals) =
    let here = leaves one O wants goals in
    let now = met (tree g here end) in
    tree g here (each_first one O tree met (λ X. wants (bit_or now X)) goals)

-- where the goals can be proved with so many levels left such that they meet a set that is wanted, below a branch on which the
-- pairs `above` stand, and on whose words the automata have come to the state sets s
unfoldable pub first_forest : List ℕ → ℕ → ℕ → ℕ → ℕ → Above → StateSets → (ℕ → Bool) → List Goal → Forest
first_forest t S A O zero above s wants goals = end
first_forest t S A O (suc levels) above s wants goals =
    each_first (proves t S A O (suc levels) above s) O
    (λ g here siblings.
    let below = stepped t (bit_or A O) g.role s in
    let deeper = with_goal t above g in
    let all = suits (proves t S A O levels deeper below) O here in
    let word = ends_well t A O here below in
    let c = least_credential t S all word g in
    let m = least_middle t all word g c in
    node c m (first_forest t S A O levels deeper below here (asked (premises t g c m))) siblings)
    (met_from t A O s) wants goals

-- all automata of S are imposed or owed, by their marks: a record of a minimal set uses all of it
unfoldable pub first_record : List ℕ → Query → ℕ → List ℕ
first_record t q S =
    let owed = owed_of t S in
    written (first_forest t S (every_of t S) owed q.depth nothing_above (starting_sets t) (eqb owed) (goal_of q ∷ []))
