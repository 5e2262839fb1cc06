-- The first derivation is one: where the goals suit what is wanted it derives them and uses only credentials of the set, and each
-- automaton that is imposed accepts its words. By induction over the levels, goal by goal.
use mathlib.Core.Path.{◌≡◌, refl, ◌∙◌}
use mathlib.Core.List.{List, [], ◌∷◌, ◌++◌}
use mathlib.Core.Bool.{Bool, true}
use mathlib.Core.Option.{some}
use Prim.Native.Nat.{ℕ, zero, suc, ◌-◌}
use native.Mathlib.Omega.{arith}
use lib.ListN.{length}
use lib.Bits.{bit_or}
use lib.Dec.{eqb}
use borrow.Author.Tests.{ne_eqb}
use Rattle.sets.specs.Logic.{pick}
use Rattle.sets.specs.Sets.{in_set}
use Rattle.sets.proofs.Members.{part-le}
use Rattle.table.specs.Holding.{WellFormed}
use Rattle.table.specs.declared.Role.{Role}
use Rattle.table.specs.declared.Goal.{Goal}
use Rattle.automata.specs.declared.StateSets.{StateSets}
use Rattle.derivation.specs.Rules.{fresh, premises}
use Rattle.derivation.specs.Forest.{Derives, Forest}
use Rattle.derivation.specs.Forest.Forest.{end, node}
use Rattle.derivation.specs.Forest.DerivesBy.{done, step}
use Rattle.derivation.specs.Words.{every_word, words, words_by}
use Rattle.members.specs.declared.above.Above.{Above}
use Rattle.members.proofs.Branching.{OnBranch, on-next}
use Rattle.search.specs.Search.{AllAccept, UsesOnly, proves}
use Rattle.search.proofs.Within.{only_end, only-node}
use Rattle.search.proofs.Owing.{proves-less}
use Rattle.search.proofs.Searching.{Led, accept-both, has-place, led_on, node_words, node-words, one_word}
use Rattle.choice.specs.Choice.{ends_well, suits}
use Rattle.walking.specs.First.{first_forest}
use Rattle.walking.proofs.Wanting.{Wanted, ends-shows, first-suits, wanted-after, wanted-here}
use Rattle.walking.proofs.Meeting.{met-few}
use Rattle.walking.proofs.FirstNode.{first-applies, first-end, first-new, first-node, first-own, first-proved, first_asked}
use Rattle.walking.proofs.FirstNode.{first_below, first_credential, first_middle, met_here, pairs_below, sets_below}
use Rattle.walking.proofs.FirstNode.{wants_behind, wants_here}
use Rattle.walking.proofs.FirstMet.{behind-suits, level-none}

-- with so many levels left, below a branch whose roles are the word w: the forest derives the goals and uses only credentials
-- of S, and each automaton of A accepts its words
pub record Shows (t : List ℕ) (S A levels : ℕ) (branch : List Goal) (w : List Role) (goals : List Goal) (f : Forest)
    : Type 0 where
  pub derives : Derives t levels branch goals f
  pub uses_only : UsesOnly f S
  pub accepted : AllAccept t A (words t w f)

-- the same of a node over what it asks
pub record NodeShows (t : List ℕ) (S A levels : ℕ) (branch : List Goal) (w : List Role) (g : Goal) (c m : ℕ) (goals : List Goal)
    (f : Forest) : Type 0 where
  pub applies : premises t g c m ≡ some goals
  pub new : fresh branch g ≡ true
  pub own : in_set S (c - 1) ≡ true
  pub derives : Derives t levels (g ∷ branch) goals f
  pub uses_only : UsesOnly f S
  pub accepted : AllAccept t A (node_words t goals (w ++ (g.role ∷ [])) f)

module _ (t : List ℕ) (wf : WellFormed t) (S A O : ℕ) where
  shows-none : (levels : ℕ) (branch : List Goal) (w : List Role) → Shows t S A levels branch w [] end
  unfolding words_by every_word
  shows-none levels branch w = record { derives = done; uses_only = only_end S; accepted = λ k h. refl }

  -- a node beside what follows
  shows-node : {levels : ℕ} {branch rest goals : List Goal} {w : List Role} {g : Goal} {c m : ℕ} {f f' : Forest}
      → NodeShows t S A levels branch w g c m goals f → Shows t S A (suc levels) branch w rest f'
      → Shows t S A (suc levels) branch w (g ∷ rest) (node c m f f')
  shows-node {goals = goals} {w = w} {g = g} {c = c} {m = m} {f = f} {f' = f'} own after =
      record {
        derives = step own.applies own.new own.derives after.derives;
        uses_only = only-node S c m f f' own.own own.uses_only after.uses_only;
        accepted =
            rw (node-words t wf g c m goals own.applies w f f') (accept-both t A _ _ own.accepted after.accepted);
      }

  -- what suits with so many levels left is shown, below any branch, set of places, word and state sets that belong together
  abbrev pub AllShown : ℕ → Type 0
  AllShown levels =
      (branch : List Goal) (above : Above) → OnBranch t branch above → (w : List Role) (s : StateSets) → Led t (bit_or A O) s w
      → (wants : ℕ → Bool) → Wanted O wants → (goals : List Goal) → suits (proves t S A O levels above s) O wants goals ≡ true
      → Shows t S A levels branch w goals (first_forest t S A O levels above s wants goals)

  none_left : AllShown zero
  none_left branch above on w s led wants wanted [] h = rw (first-end t S A O above s wants zero) (shows-none zero branch w)
  none_left branch above on w s led wants wanted (g ∷ goals) h = absurd (level-none t S A O above s wants wanted g goals h)

  -- what a node asks, where a word ends well if that is nothing
  asked-shown : (levels : ℕ) → AllShown levels → (branch : List Goal) (above : Above) → OnBranch t branch above
      → (word : List Role) (s : StateSets) → Led t (bit_or A O) s word → (here : ℕ → Bool) → Wanted O here → (goals : List Goal)
      → pick (eqb (length goals) 0) (ends_well t A O here s) (suits (proves t S A O levels above s) O here goals) ≡ true
      → (let f = first_forest t S A O levels above s here goals in
      Derives t levels branch goals f × UsesOnly f S × AllAccept t A (node_words t goals word f))
  unfolding pick node_words
  asked-shown levels inside branch above on word s led here wanted [] h =
      let (X, owed, is, ended) = ends-shows wanted t A s h in
      rw (first-end t S A O above s here levels) (done, only_end S, (one_word t wf A O X (part-le X O owed) s word led ended).0)
  asked-shown levels inside branch above on word s led here wanted (g ∷ goals) h =
      let nonzero = ne_eqb (suc (length goals)) 0 (λ e. omega arith) in
      let below = inside branch above on word s led here wanted (g ∷ goals) (rw nonzero at h) in
      (below.derives, below.uses_only, rw nonzero below.accepted)

  -- the first of some goals
  module _ (levels : ℕ) (inside : AllShown levels) {branch : List Goal} (above : Above) (on : OnBranch t branch above)
      (w : List Role) (s : StateSets) (led : Led t (bit_or A O) s w) (wants : ℕ → Bool) (wanted : Wanted O wants) (g : Goal)
      (rest : List Goal) (suited : suits (proves t S A O (suc levels) above s) O wants (g ∷ rest) ≡ true) where
    abbrev here : ℕ → Bool
    here = wants_here t S A O levels above s wants g rest

    abbrev c₁ : ℕ
    c₁ = first_credential t S A O levels above s here g

    abbrev m₁ : ℕ
    m₁ = first_middle t S A O levels above s here g

    abbrev asks : List Goal
    asks = first_asked t S A O levels above s here g

    pub node-shown : NodeShows t S A levels branch w g c₁ m₁ asks (first_below t S A O levels above s here g asks)
    node-shown =
        let one = proves t S A O (suc levels) above s in
        let wanted₁ = wanted-here wanted one rest in
        let (X, few, may, proved) = first-suits wanted one (proves-less t S A O (suc levels) above s) g rest suited in
        let applies = first-applies t S A O levels above s here g wanted₁ X few may proved in
        let (derives, only, all) = asked-shown levels inside (g ∷ branch) (pairs_below t S A O levels above s here g)
        (on-next t wf.sized.counted.few_credentials branch above g on) (w ++ (g.role ∷ []))
        (sets_below t S A O levels above s here g)
        (led_on t (bit_or A O) s w g.role led) here wanted₁ asks
        (first-proved t S A O levels above s here g wanted₁ X few may proved) in
        record {
          applies = applies;
          new =
              on.same g (has-place wf g c₁ m₁ asks applies derives)
              ∙ first-new t S A O levels above s here g wanted₁ X few may proved;
          own = first-own t S A O levels above s here g wanted₁ X few may proved;
          derives = derives;
          uses_only = only;
          accepted = all;
        }

  level-left : (levels : ℕ) → AllShown levels → AllShown (suc levels)
  level-left levels inside branch above on w s led wants wanted [] h =
      rw (first-end t S A O above s wants (suc levels)) (shows-none (suc levels) branch w)
  level-left levels inside branch above on w s led wants wanted (g ∷ rest) h =
      rw (first-node t S A O levels above s wants g rest)
      (shows-node (node-shown levels inside above on w s led wants wanted g rest h)
      (level-left levels inside branch above on w s led (wants_behind t S A O levels above s wants g rest)
      (wanted-after wanted (met_here t S A O levels above s wants g rest) (met-few t A O _ s)) rest
      (behind-suits t wf S A O levels above s wants wanted g rest h)))

  pub first-shows : (levels : ℕ) → AllShown levels
  first-shows zero = none_left
  first-shows (suc levels) = level-left levels (first-shows levels)
