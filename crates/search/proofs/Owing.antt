-- What can be met: who can meet more can meet less, and with more levels no less.
use mathlib.Core.Path.{◌≡◌}
use mathlib.Core.List.{List}
use mathlib.Core.Bool.{true}
use Prim.Native.Nat.{ℕ, zero, suc, ◌≤◌}
use native.Mathlib.Omega.{arith}
use native.Mathlib.Decide.{ℕ_discrete}
use lib.Bits.{bit_or}
use Rattle.sets.specs.Sets.{part}
use Rattle.sets.proofs.Tests.{and_both, and_first, and_second, any-mono, false-true}
use Rattle.sets.proofs.Members.{part-or, part-or-left, part-or-right, part-trans}
use Rattle.table.specs.Layout.{credentials}
use Rattle.table.specs.declared.Goal.{Goal}
use Rattle.automata.specs.declared.StateSets.{StateSets}
use Rattle.members.specs.Above.{with_goal}
use Rattle.members.specs.declared.above.Above.{Above}
use Rattle.members.proofs.Stepping.{all-by-mono}
use Rattle.goals.specs.Goals.{stepped}
use Rattle.search.specs.Search.{ends, proves, shares}
use Rattle.search.proofs.Sharing.{shares_less, shares-mono}

-- a word that meets more meets less
pub ends-less : (t : List ℕ) (A : ℕ) (s : StateSets) (X X' : ℕ) → part X' X ≡ true → ends t A s X ≡ true → ends t A s X' ≡ true
unfolding ends
ends-less t A s X X' less =
    part-trans (bit_or A X') (bit_or A X) _
    (part-or A X' (bit_or A X) (part-or-left A X) (part-trans X' X _ less (part-or-right A X)))

module _ (t : List ℕ) (S A O : ℕ) where
  pub proves-less : (levels : ℕ) (above : Above) (s : StateSets) (g : Goal) (X X' : ℕ) → part X' X ≡ true
      → proves t S A O levels above s g X ≡ true → proves t S A O levels above s g X' ≡ true
  unfolding proves
  proves-less zero above s g X X' less h = h
  proves-less (suc levels) above s g X X' less h =
      let below = stepped t (bit_or A O) g.role s in
      let one = proves t S A O levels (with_goal t above g) below in
      and_both (and_first _ _ h)
      (any-mono _ _ (credentials t) (λ c l both.
      and_both (and_first _ _ both)
      (all-by-mono (λ goals. shares one O goals X) (λ goals. shares one O goals X')
      (λ goals. shares_less one O goals X X' less) (ends t A below X) (ends t A below X') (ends-less t A below X X' less)
      t g (suc c) (and_second _ _ both)))
      (and_second _ _ h))

  -- more levels prove no less
  pub proves-more : (levels : ℕ) (above : Above) (s : StateSets) (g : Goal) (X : ℕ) → proves t S A O levels above s g X ≡ true
      → proves t S A O (suc levels) above s g X ≡ true
  unfolding proves
  proves-more zero above s g X h = absurd (false-true h)
  proves-more (suc levels) above s g X h =
      let below = stepped t (bit_or A O) g.role s in
      let deeper = with_goal t above g in
      let one = proves t S A O levels deeper below in
      let one' = proves t S A O (suc levels) deeper below in
      and_both (and_first _ _ h)
      (any-mono _ _ (credentials t) (λ c l both.
      and_both (and_first _ _ both)
      (all-by-mono (λ goals. shares one O goals X) (λ goals. shares one' O goals X)
      (λ goals. shares-mono one one' O (proves-more levels deeper below) goals X)
      (ends t A below X) (ends t A below X) (λ e. e) t g (suc c) (and_second _ _ both)))
      (and_second _ _ h))

  pub proves-later : (levels more : ℕ) → levels ≤ more → (above : Above) (s : StateSets) (g : Goal) (X : ℕ)
      → proves t S A O levels above s g X ≡ true → proves t S A O more above s g X ≡ true
  proves-later levels zero few above s g X h = let e : levels ≡ 0 = omega arith in rw e at h
  proves-later levels (suc more) few above s g X h =
      go (ℕ_discrete levels (suc more))
      (λ before. proves-more more above s g X (proves-later levels more before above s g X h))
    where
      go : Dec (levels ≡ suc more) → (levels ≤ more → proves t S A O (suc more) above s g X ≡ true)
          → proves t S A O (suc more) above s g X ≡ true
      go (yes e) below = rw e at h
      go (no e) below = below (omega arith)
