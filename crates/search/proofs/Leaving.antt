-- A branch may be left where an imposed automaton is dead, and where an owed one is it can be met no more. Its set stays empty, so
-- it accepts no word there; and where no word may end, nothing is proved.
use mathlib.Core.Path.{◌≡◌, refl, sym, ◌∙◌}
use mathlib.Core.List.{List, [], ◌∷◌}
use mathlib.Core.Bool.{Bool, true, false}
use mathlib.Core.Option.{Option, none, some}
use Prim.Native.Nat.{ℕ, zero, suc, ◌≤◌}
use native.Mathlib.Omega.{arith}
use native.Mathlib.Numerals.{sub-one}
use lib.ListN.{length, get_or}
use lib.Bits.{bit_or}
use lib.Dec.{ltb}
use borrow.Author.Tests.{ne_eqb}
use Rattle.sets.specs.Logic.{any_below, pick}
use Rattle.sets.specs.Sets.{in_set, meets, part}
use Rattle.sets.proofs.Tests.{and_none, any_none, false-true, pick_same, refuted}
use Rattle.sets.proofs.Members.{part-member, set_of-members}
use Rattle.table.specs.Layout.{automata, credentials}
use Rattle.table.specs.declared.Role.{Role}
use Rattle.table.specs.declared.Goal.{Goal}
use Rattle.automata.specs.Automata.{accepts_from}
use Rattle.automata.specs.Together.{accepting_set, dead_set, moved_sets}
use Rattle.automata.specs.declared.Moved.{Moved}
use Rattle.automata.specs.declared.StateSets.{StateSets}
use Rattle.automata.proofs.Promised.{dead-exact}
use Rattle.automata.proofs.Together.{empty-moved}
use Rattle.members.specs.Trying.{proved_premises, proves_by}
use Rattle.goals.specs.Goals.{stepped, stepped_on}
use Rattle.search.specs.Promised.{NothingLost}
use Rattle.members.specs.declared.above.Above.{Above}
use Rattle.search.specs.Search.{ends, proves, proves_with, shares}
use Rattle.search.proofs.Sharing.{unshared}
use Rattle.search.proofs.Searching.{demanded-asked}

-- where goals are not proved and no word may end, no credential proves a goal
module _ (all : List Goal → Bool) (none_below : (g : Goal) (goals : List Goal) → all (g ∷ goals) ≡ false) where
  premises-unproved : (asked : Option (List Goal)) → proved_premises all false asked ≡ false
  unfolding proved_premises pick
  premises-unproved none = refl
  premises-unproved (some []) = refl
  premises-unproved (some (g ∷ goals)) = rw (ne_eqb (suc (length goals)) 0 (λ e. omega arith)) (none_below g goals)

  unproved : (t : List ℕ) (g : Goal) (c : ℕ) → proves_by t all false g c ≡ false
  unfolding proves_by
  unproved t g c =
      let linked = any_none _ (credentials t) (λ j l. and_none _ (premises-unproved _)) in
      pick_same _ (linked ∙ sym (premises-unproved _)) ∙ premises-unproved _

-- automaton k + 1 is imposed or owed
module _ (t : List ℕ) (S A O k : ℕ) where
  -- where it is among those that are asked for
  module _ (asked : bit_or A O ≡ 0 → ⊥) where
    empty-stepped : (r : Role) (s : StateSets) → get_or s.sets k 0 ≡ 0 → get_or (stepped t (bit_or A O) r s).sets k 0 ≡ 0
    unfolding stepped pick
    empty-stepped r s empty = rw (ne_eqb (bit_or A O) 0 asked) (empty-moved t r s k empty)

  no_word : (X : ℕ) → in_set (bit_or A X) k ≡ true → (s : StateSets) → get_or s.sets k 0 ≡ 0 → ends t A s X ≡ false
  unfolding ends accepting_set accepts_from meets
  no_word X demanded s empty =
      refuted (part (bit_or A X) (accepting_set t s))
      (λ all. false-true (sym rejects ∙ part-member (bit_or A X) _ k all demanded))
    where
      rejects : in_set (accepting_set t s) k ≡ false
      rejects = set_of-members _ (automata t) k ∙ and_none (ltb k (automata t)) (rw empty)

  -- below sets in which its own is empty no credential proves a goal, where none is proved further down
  none_tried : (X : ℕ) → in_set (bit_or A X) k ≡ true → (s : StateSets) → get_or s.sets k 0 ≡ 0 → (one : Goal → ℕ → Bool)
      → ((g : Goal) (Y : ℕ) → in_set (bit_or A Y) k ≡ true → one g Y ≡ false) → (g : Goal)
      → any_below (proves_with t S (λ goals. shares one O goals X) (ends t A s X) g) (credentials t) ≡ false
  none_tried X demanded s empty one none_below g =
      rw (no_word X demanded s empty) (any_none _ (credentials t) (λ c l. and_none _
      (unproved (λ goals. shares one O goals X) (λ h goals. unshared one O A k none_below h goals X demanded) t g (suc c))))

  pub empty-proves-nothing : (bit_or A O ≡ 0 → ⊥) → (levels : ℕ) (above : Above) (s : StateSets) → get_or s.sets k 0 ≡ 0
      → (g : Goal) (X : ℕ) → in_set (bit_or A X) k ≡ true → proves t S A O levels above s g X ≡ false
  unfolding proves
  empty-proves-nothing asked zero above s empty g X demanded = refl
  empty-proves-nothing asked (suc levels) above s empty g X demanded =
      let after = empty-stepped asked g.role s empty in
      and_none _ (none_tried X demanded _ after _ (empty-proves-nothing asked levels _ _ after) g)

pub nothing-lost : NothingLost
nothing-lost t S A O levels above s k X few demanded dead g =
    empty-proves-nothing t S A O k (demanded-asked A O X k few demanded) levels above s
    (rw (sub-one (suc k)) at ((dead-exact t s k).0 dead).1) g X demanded

-- an automaton that the step tells dead has no state there
told-empty : (t : List ℕ) (W : ℕ) (r : Role) (s : StateSets) {x : Moved} → x ≡ stepped_on t W r s → (W ≡ 0 → ⊥)
    → (k : ℕ) → in_set x.dead k ≡ true → get_or x.states.sets k 0 ≡ 0
unfolding stepped_on stepped pick
told-empty t W r s told asked k dead =
    let moves = ne_eqb W 0 asked in
    let among : in_set (dead_set t (moved_sets t r s)) k ≡ true = rw (told, moves) at dead in
    rw (told, moves) (rw (sub-one (suc k)) at ((dead-exact t (moved_sets t r s) k).0 among).1)

-- the code has found an imposed or an owed automaton among the dead: below its sets no credential proves a goal for which it is
-- asked
pub dead-tried : (t : List ℕ) (S A O : ℕ) (r : Role) (s : StateSets) {x : Moved} → x ≡ stepped_on t (bit_or A O) r s
    → (X : ℕ) → X ≤ O → (k : ℕ) → in_set (bit_or A X) k ≡ true → in_set x.dead k ≡ true → (levels : ℕ) (above : Above) (g : Goal)
    → any_below (proves_with t S (λ goals. shares (proves t S A O levels above x.states) O goals X) (ends t A x.states X) g)
    (credentials t) ≡ false
dead-tried t S A O r s {x} told X few k demanded dead levels above g =
    let asked = demanded-asked A O X k few demanded in
    let empty = told-empty t (bit_or A O) r s told asked k dead in
    none_tried t S A O k X demanded x.states empty _
    (empty-proves-nothing t S A O k asked levels above x.states empty) g
