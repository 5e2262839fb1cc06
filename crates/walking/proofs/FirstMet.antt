-- What the first derivation meets is wanted, where the goals suit what is wanted: so what its first tree meets leaves to the
-- goals behind it what they can meet. By induction over the levels, goal by goal.
use mathlib.Core.Path.{◌≡◌, ap, sym, ◌∙◌}
use mathlib.Core.List.{List, [], ◌∷◌}
use mathlib.Core.Bool.{Bool, true}
use Prim.Native.Nat.{ℕ, zero, suc}
use native.Mathlib.Omega.{arith}
use lib.ListN.{length}
use lib.Dec.{eqb}
use borrow.Author.Tests.{eqb-true, ne_eqb}
use Rattle.sets.specs.Logic.{pick}
use Rattle.sets.proofs.Tests.{false-true}
use Rattle.table.specs.Holding.{WellFormed}
use Rattle.table.specs.declared.Goal.{Goal}
use Rattle.automata.specs.declared.StateSets.{StateSets}
use Rattle.members.specs.declared.above.Above.{Above}
use Rattle.search.specs.Search.{proves, shares}
use Rattle.search.proofs.Sharing.{shares-shows}
use Rattle.search.proofs.Owing.{proves-less}
use Rattle.choice.specs.Choice.{ends_well, suits}
use Rattle.walking.specs.First.{first_forest, met_from}
use Rattle.walking.proofs.Wanting.{Wanted, ends-met, first-suits, suits-after, suits-shows, wanted-after, wanted-here}
use Rattle.walking.proofs.Meeting.{met-alone, met-end, met-few, met-split, node_met}
use Rattle.walking.proofs.FirstNode.{first-applies, first-end, first-node, first-proved, first_asked, first_credential}
use Rattle.walking.proofs.FirstNode.{first_middle, met_here, pairs_below, sets_below, wants_behind, wants_here}

-- with no level left nothing suits
pub level-none : (t : List ℕ) (S A O : ℕ) (above : Above) (s : StateSets) (wants : ℕ → Bool) → Wanted O wants
    → (g : Goal) (goals : List Goal) → suits (proves t S A O zero above s) O wants (g ∷ goals) ≡ true → ⊥
unfolding proves
level-none t S A O above s wants wanted g goals h =
    let (X, owed, is, shared) = suits-shows wanted (proves t S A O zero above s) (g ∷ goals) h in
    false-true (shares-shows (proves t S A O zero above s) O g goals X shared).proves-first

module _ (t : List ℕ) (wf : WellFormed t) (S A O : ℕ) where
  abbrev AllMet : ℕ → Type 0
  AllMet levels =
      (above : Above) (s : StateSets) (wants : ℕ → Bool) → Wanted O wants → (goals : List Goal)
      → suits (proves t S A O levels above s) O wants goals ≡ true
      → wants (met_from t A O s (first_forest t S A O levels above s wants goals)) ≡ true

  -- no goals have nothing to meet
  none-met : (levels : ℕ) (above : Above) (s : StateSets) (wants : ℕ → Bool) → Wanted O wants
      → suits (proves t S A O levels above s) O wants [] ≡ true
      → wants (met_from t A O s (first_forest t S A O levels above s wants [])) ≡ true
  unfolding shares
  none-met levels above s wants wanted h =
      let (X, owed, is, nothing) = suits-shows wanted (proves t S A O levels above s) [] h in
      ap (λ f. wants (met_from t A O s f)) (first-end t S A O above s wants levels)
      ∙ ap wants (met-end t A O s ∙ sym (eqb-true X 0 nothing)) ∙ is

  -- what a node asks, where a word ends well if that is nothing
  asked-met : (levels : ℕ) → AllMet levels → (above : Above) (s : StateSets) (here : ℕ → Bool) → Wanted O here
      → (goals : List Goal)
      → pick (eqb (length goals) 0) (ends_well t A O here s) (suits (proves t S A O levels above s) O here goals) ≡ true
      → here (node_met t A O s goals (first_forest t S A O levels above s here goals)) ≡ true
  unfolding pick node_met
  asked-met levels inside above s here wanted [] h = ends-met wanted t A s h
  asked-met levels inside above s here wanted (g ∷ goals) h =
      let nonzero = ne_eqb (suc (length goals)) 0 (λ e. omega arith) in
      rw nonzero (inside above s here wanted (g ∷ goals) (rw nonzero at h))

  -- the first of some goals
  module _ (levels : ℕ) (inside : AllMet levels) (above : Above) (s : StateSets) (wants : ℕ → Bool) (wanted : Wanted O wants)
      (g : Goal)
      (rest : List Goal) (suited : suits (proves t S A O (suc levels) above s) O wants (g ∷ rest) ≡ true) where
    abbrev one : Goal → ℕ → Bool
    one = proves t S A O (suc levels) above s

    abbrev here : ℕ → Bool
    here = wants_here t S A O levels above s wants g rest

    met-here : here (met_here t S A O levels above s wants g rest) ≡ true
    met-here =
        let wanted₁ = wanted-here wanted one rest in
        let (X, few, may, proved) = first-suits wanted one (proves-less t S A O (suc levels) above s) g rest suited in
        ap here (met-alone t A O wf g (first_credential t S A O levels above s here g) (first_middle t S A O levels above s here g)
        (first_asked t S A O levels above s here g) (first-applies t S A O levels above s here g wanted₁ X few may proved) s _)
        ∙ asked-met levels inside (pairs_below t S A O levels above s here g) (sets_below t S A O levels above s here g) here
        wanted₁ _
        (first-proved t S A O levels above s here g wanted₁ X few may proved)

    suits-behind : suits one O (wants_behind t S A O levels above s wants g rest) rest ≡ true
    suits-behind = suits-after wanted one rest (met_here t S A O levels above s wants g rest) met-here

  level-met : (levels : ℕ) → AllMet levels → AllMet (suc levels)
  level-met levels inside above s wants wanted [] h = none-met (suc levels) above s wants wanted h
  level-met levels inside above s wants wanted (g ∷ rest) h =
      ap (λ f. wants (met_from t A O s f)) (first-node t S A O levels above s wants g rest)
      ∙ ap wants (met-split t A O s _ _ _ _)
      ∙ level-met levels inside above s (wants_behind t S A O levels above s wants g rest)
      (wanted-after wanted (met_here t S A O levels above s wants g rest) (met-few t A O _ s)) rest
      (suits-behind levels inside above s wants wanted g rest h)

  pub first-met : (levels : ℕ) → AllMet levels
  first-met zero above s wants wanted [] h = none-met zero above s wants wanted h
  first-met zero above s wants wanted (g ∷ goals) h = absurd (level-none t S A O above s wants wanted g goals h)
  first-met (suc levels) above s wants wanted goals h = level-met levels (first-met levels) above s wants wanted goals h

  -- what is left for the goals behind the first suits them
  pub behind-suits : (levels : ℕ) (above : Above) (s : StateSets) (wants : ℕ → Bool) → Wanted O wants
      → (g : Goal) (rest : List Goal)
      → suits (proves t S A O (suc levels) above s) O wants (g ∷ rest) ≡ true
      → suits (proves t S A O (suc levels) above s) O (wants_behind t S A O levels above s wants g rest) rest ≡ true
  behind-suits levels = suits-behind levels (first-met levels)
