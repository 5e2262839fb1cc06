-- The first derivation comes before every other of the same goals that uses only credentials of the set, whose words the
-- imposed automata accept, and that meets what is wanted. By induction over the other one: a node of it has a greater number,
-- or both nodes ask the same goals; and where the records of these are the same both have met the same, so that the same is
-- left to meet.
use mathlib.Core.Path.{◌≡◌, refl, ap, sym, ◌∙◌}
use mathlib.Core.List.{List, [], ◌∷◌, ◌++◌}
use mathlib.Core.Bool.{Bool, true}
use mathlib.Core.Option.{some}
use Prim.Native.Nat.{ℕ, suc, ◌-◌, ◌≤◌}
use native.Mathlib.Omega.{arith}
use lib.ListN.{length}
use lib.Bits.{bit_or}
use borrow.Author.Tests.{ne_eqb}
use Rattle.sets.specs.Logic.{pick}
use Rattle.sets.specs.Sets.{in_set}
use Rattle.sets.proofs.Tests.{and_both}
use Rattle.sets.proofs.Members.{part-le}
use Rattle.table.specs.Holding.{WellFormed}
use Rattle.table.specs.declared.Role.{Role}
use Rattle.table.specs.declared.Goal.{Goal}
use Rattle.automata.specs.declared.StateSets.{StateSets}
use Rattle.derivation.specs.Rules.{fresh, premises}
use Rattle.derivation.specs.Forest.{Derives, Forest, written}
use Rattle.derivation.specs.Forest.Forest.{end, node}
use Rattle.derivation.specs.Forest.DerivesBy.{done, step}
use Rattle.derivation.specs.Words.{every_word, words, words_by}
use Rattle.derivation.proofs.Applying.{applies-defines, applies-numbered}
use Rattle.verifier.proofs.DemandTwo.{one-derivation}
use Rattle.members.specs.Trying.{may_use, proved_premises, proves_by}
use Rattle.members.specs.declared.above.Above.{Above}
use Rattle.members.proofs.Branching.{OnBranch, on-next}
use Rattle.members.proofs.Stepping.{premises-mono}
use Rattle.search.specs.Search.{AllAccept, UsesOnly, ends, proves, shares}
use Rattle.search.proofs.Naming.{middle-tried, tried-proves}
use Rattle.search.proofs.Within.{only_below, only_here, only-later}
use Rattle.search.proofs.Searching.{Led, derived-proves, led_on, node_words, node-accepted, words-split}
use Rattle.choice.specs.Choice.{asked}
use Rattle.walking.specs.First.{first_forest, met_from}
use Rattle.walking.proofs.Wanting.{Wanted, ends-reached, leaves-reached, suits-reached, wanted-after, wanted-here}
use Rattle.walking.proofs.Meeting.{met-alone, met-few, met-node, met-shared, node-accepts, node-asks, node-few, node_met}
use Rattle.walking.proofs.LeastNode.{least-credential-least, least-middle-least}
use Rattle.walking.proofs.FirstNode.{first-end, first-node, first_asked, first_below, first_credential, first_middle}
use Rattle.walking.proofs.FirstNode.{met_here, proved_below, sets_below, suits_below, wants_behind, wants_here, word_ends}
use Rattle.writing.proofs.FirstShown.{NodeShows, first-shows, node-shown}
use Rattle.writing.proofs.Ordering.{Order, order-next, order-then}
use Rattle.writing.proofs.Ordering.Order.{same}

same_asked : (t : List ℕ) (g : Goal) {c c' m m' : ℕ} {goals : List Goal} → premises t g c m ≡ some goals → c' ≡ c → m' ≡ m
    → asked (premises t g c' m') ≡ goals
unfolding asked
same_asked t g applies e e' = rw (e, e', applies)

-- another node of the same goal, with so many levels left below it
module _ (t : List ℕ) (wf : WellFormed t) (S A O levels : ℕ) (above : Above) (s : StateSets) (here : ℕ → Bool) (g : Goal)
    (c m : ℕ)
    (goals : List Goal) (applies : premises t g c m ≡ some goals) where
  abbrev all : List Goal → Bool
  all = suits_below t S A O levels above s here g

  abbrev word : Bool
  word = word_ends t S A O levels above s here g

  abbrev c₁ : ℕ
  c₁ = first_credential t S A O levels above s here g

  abbrev m₁ : ℕ
  m₁ = first_middle t S A O levels above s here g

  abbrev children : List Goal → Forest
  children = first_below t S A O levels above s here g

  -- its credential is no less than the first
  credential-no-less : in_set S (c - 1) ≡ true → proves_by t all word g c ≡ true → c₁ ≤ c
  unfolding may_use
  credential-no-less own proves =
      let defines = applies-defines t g c m goals applies in
      least-credential-least t S all word g c (applies-numbered t g c m goals applies) (and_both own defines) proves

  -- where it is the first its middle is no less either, and where both are the same the rest decides
  node-order : {branch : List Goal} {ch : Forest} {later later' : List ℕ} → in_set S (c - 1) ≡ true
      → Derives t levels branch goals ch
      → proved_premises all word (premises t g c m) ≡ true → Order (written (children goals)) (written ch)
      → (c₁ ≡ c → m₁ ≡ m → written (children goals) ≡ written ch → Order later later')
      → Order (c₁ ∷ m₁ ∷ (written (children (first_asked t S A O levels above s here g)) ++ later))
      (c ∷ m ∷ (written ch ++ later'))
  node-order own d proved below after =
      order-next _ c (credential-no-less own (tried-proves t all word g c m (middle-tried wf g c m goals applies d) proved))
      (λ e. order-next _ m (rw e (least-middle-least t all word g c m proved))
      (λ e'. rw (same_asked t g applies e e') (order-then below (after e e'))))

  -- where it is the first and the records of what both ask are the same, both have met the same
  same_met : {branch : List Goal} {w : List Role} {ch : Forest}
      → NodeShows t S A levels branch w g c₁ m₁ (first_asked t S A O levels above s here g)
      (children (first_asked t S A O levels above s here g))
      → Derives t levels (g ∷ branch) goals ch → c₁ ≡ c → m₁ ≡ m → written (children goals) ≡ written ch
      → met_from t A O s (node c₁ m₁ (children (first_asked t S A O levels above s here g)) end)
      ≡ node_met t A O (sets_below t S A O levels above s here g) goals ch
  same_met {branch} {w} {ch} first d e e' alike =
      let below = sets_below t S A O levels above s here g in
      let asks : first_asked t S A O levels above s here g ≡ goals = same_asked t g applies e e' in
      let derives = rw asks at first.derives in
      met-alone t A O wf g c₁ m₁ _ first.applies s _
      ∙ ap (λ (gs : List Goal). node_met t A O below gs (children gs)) asks
      ∙ ap (node_met t A O below goals) (one-derivation t levels (g ∷ branch) goals (children goals) ch derives d alike)

module _ (t : List ℕ) (wf : WellFormed t) (S A O : ℕ) where
  -- the words of what a node asks are among the node's
  below-accepted : {levels : ℕ} {branch goals : List Goal} {f : Forest} (word : List Role) → Derives t levels branch goals f
      → AllAccept t A (node_words t goals word f) → AllAccept t A (words t word f)
  unfolding node_words pick words_by every_word
  below-accepted word done all = λ k h. refl
  below-accepted word (step {rest = rest} applies new d later) all = rw (ne_eqb (suc (length rest)) 0 (λ e. omega arith)) at all

  -- another derivation's node proves what it asks, such that it meets what its words do
  node-proved : {levels : ℕ} {branch goals : List Goal} {f : Forest} (above : Above) → OnBranch t branch above
      → (w : List Role) (s : StateSets) (here : ℕ → Bool) → Wanted O here → (g : Goal) (c m : ℕ) → premises t g c m ≡ some goals
      → Derives t levels (g ∷ branch) goals f
      → UsesOnly f S → Led t (bit_or A O) s w → AllAccept t A (node_words t goals (w ++ (g.role ∷ [])) f)
      → here (node_met t A O (sets_below t S A O levels above s here g) goals f) ≡ true
      → proved_premises (suits_below t S A O levels above s here g) (word_ends t S A O levels above s here g) (premises t g c m) ≡
      true
  unfolding proved_premises
  node-proved {levels} {branch} {goals} {f} above on w s here wanted g c m applies d only led all may =
      let word = w ++ (g.role ∷ []) in
      let below = sets_below t S A O levels above s here g in
      let one = proved_below t S A O levels above s here g in
      let after = led_on t (bit_or A O) s w g.role led in
      let X = node_met t A O below goals f in
      let few = part-le X O (node-few t A O below goals f) in
      premises-mono (λ gs. shares one O gs X) _ (λ gs. suits-reached wanted one gs X few may)
      (ends t A below X) _ (ends-reached wanted t A below X few may) (premises t g c m)
      (rw applies (node-accepted t wf S A O goals (λ gs. shares one O gs X) below word f X few after all
      (node-accepts t wf A O below goals word f after)
      (λ all' met'. derived-proves t wf S A O d only _ (on-next t wf.sized.counted.few_credentials branch above g on) word
      below after
      all' X few met')))

-- another derivation of some goals, by its first node and what follows, which meets what is wanted
module _ (t : List ℕ) (wf : WellFormed t) (S A O levels : ℕ) {branch goals rest : List Goal} (g : Goal) (c m : ℕ) (ch si : Forest)
    (applies : premises t g c m ≡ some goals) (new : fresh branch g ≡ true) (d : Derives t levels (g ∷ branch) goals ch)
    (later : Derives t (suc levels) branch rest si) (only : UsesOnly (node c m ch si) S) (above : Above)
    (on : OnBranch t branch above)
    (w : List Role) (s : StateSets) (led : Led t (bit_or A O) s w) (all : AllAccept t A (words t w (node c m ch si)))
    (wants : ℕ → Bool) (wanted : Wanted O wants) (met : wants (met_from t A O s (node c m ch si)) ≡ true) where
  abbrev one : Goal → ℕ → Bool
  one = proves t S A O (suc levels) above s

  abbrev here : ℕ → Bool
  here = wants_here t S A O levels above s wants g rest

  abbrev below : StateSets
  below = sets_below t S A O levels above s here g

  abbrev firsts : Forest
  firsts = first_below t S A O levels above s here g goals

  abbrev behind : ℕ → Bool
  behind = wants_behind t S A O levels above s wants g rest

  here-wanted : Wanted O here
  here-wanted = wanted-here wanted one rest

  parted : AllAccept t A (node_words t goals (w ++ (g.role ∷ [])) ch) × AllAccept t A (words t w si)
  parted = words-split t wf A g c m goals applies w ch si all

  -- what the node meets, with what follows
  meets : wants (bit_or (node_met t A O below goals ch) (met_from t A O s si)) ≡ true
  meets = sym (ap wants (met-node t A O wf g c m goals applies s ch si)) ∙ met

  -- so the goal may meet it
  may : here (node_met t A O below goals ch) ≡ true
  may =
      leaves-reached wanted one rest _ (met_from t A O s si) (node-few t A O below goals ch) (part-le _ O (met-few t A O si s))
      (met-shared t wf A O S later (only-later S c m ch si only) above on w s led parted.1) meets

  may-below : (length goals ≡ 0 → ⊥) → here (met_from t A O below ch) ≡ true
  may-below asks = sym (ap here (node-asks t A O below goals ch asks)) ∙ may

  first : NodeShows t S A levels branch w g (first_credential t S A O levels above s here g)
      (first_middle t S A O levels above s here g)
      (first_asked t S A O levels above s here g)
      (first_below t S A O levels above s here g (first_asked t S A O levels above s here g))
  first =
      node-shown t wf S A O levels (first-shows t wf S A O levels) above on w s led wants wanted g rest
      (suits-reached wanted one (g ∷ rest) (met_from t A O s (node c m ch si)) (part-le _ O (met-few t A O (node c m ch si) s)) met
      (met-shared t wf A O S (step applies new d later) only above on w s led all))

  -- where what the goals ask is in order, and what follows is where both nodes have met the same
  step-order : Order (written firsts) (written ch)
      → (behind (met_from t A O s si) ≡ true → Order (written (first_forest t S A O (suc levels) above s behind rest)) (written si))
      → Order (written (first_forest t S A O (suc levels) above s wants (g ∷ rest))) (written (node c m ch si))
  unfolding written
  step-order children after =
      rw (first-node t S A O levels above s wants g rest)
      (node-order t wf S A O levels above s here g c m goals applies (only_here S c m ch si only) d
      (node-proved t wf S A O above on w s here here-wanted g c m applies d (only_below S c m ch si only) led parted.0 may)
      children
      (λ e e' alike.
      let now = same_met t wf S A O levels above s here g c m goals applies first d e e' alike in
      after (ap (λ x. wants (bit_or x (met_from t A O s si))) now ∙ meets)))

module _ (t : List ℕ) (wf : WellFormed t) (S A O : ℕ) where
  pub first-order : {levels : ℕ} {branch goals : List Goal} {f : Forest} → Derives t levels branch goals f → UsesOnly f S
      → (above : Above) → OnBranch t branch above → (w : List Role) (s : StateSets) → Led t (bit_or A O) s w
      → AllAccept t A (words t w f) → (wants : ℕ → Bool) → Wanted O wants
      → ((length goals ≡ 0 → ⊥) → wants (met_from t A O s f) ≡ true)
      → Order (written (first_forest t S A O levels above s wants goals)) (written f)
  unfolding written
  first-order (done {levels}) only above on w s led all wants wanted met = rw (first-end t S A O above s wants levels) same
  first-order (step {levels} {c} {m} {branch} {goals} {rest} {g} {children = ch} {siblings = si} applies new d later)
      only above on w s led all wants wanted met =
      let asks : length (g ∷ rest) ≡ 0 → ⊥ = λ e. omega arith in
      let both = parted t wf S A O levels g c m ch si applies new d later only above on w s led all wants wanted (met asks) in
      step-order t wf S A O levels g c m ch si applies new d later only above on w s led all wants wanted (met asks)
      (first-order d (only_below S c m ch si only) _ (on-next t wf.sized.counted.few_credentials branch above g on)
      (w ++ (g.role ∷ [])) _ (led_on t (bit_or A O) s w g.role led)
      (below-accepted t wf S A O (w ++ (g.role ∷ [])) d both.0) _ (wanted-here wanted _ rest)
      (may-below t wf S A O levels g c m ch si applies new d later only above on w s led all wants wanted (met asks)))
      (λ behind-met.
      first-order later (only-later S c m ch si only) above on w s led both.1 _
      (wanted-after wanted (met_here t S A O levels above s wants g rest) (met-few t A O _ s)) (λ some-goals. behind-met))
