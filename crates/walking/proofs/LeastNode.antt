-- The least credential of a set that proves a goal, and the least middle with which it does: where the goal is proved both are
-- there, and none that proves it is less.
use mathlib.Core.Path.{◌≡◌, refl}
use mathlib.Core.List.{List}
use mathlib.Core.Bool.{Bool, true, false}
use mathlib.Core.Option.{Option, none, some}
use Prim.Native.Nat.{ℕ, suc, ◌-◌, ◌≤◌, ◌<◌}
use native.Mathlib.Omega.{arith}
use lib.ListN.{length}
use lib.Dec.{eqb}
use Rattle.sets.specs.Logic.{◌and◌, any_below, pick}
use Rattle.sets.specs.Sets.{in_set}
use Rattle.sets.proofs.Tests.{and_both, and_first, and_second, any-shows, false-true}
use Rattle.table.specs.Limits.{most_principals}
use Rattle.table.specs.Layout.{Numbered, credential, credentials}
use Rattle.table.specs.declared.Goal.{Goal}
use Rattle.derivation.specs.Rules.{premises}
use Rattle.derivation.proofs.Ruling.{Rule, rule-applied}
use Rattle.derivation.proofs.Ruling.Rule.{membership, containment, linking, intersection}
use Rattle.derivation.proofs.Using.{placed}
use Rattle.members.specs.Places.{is_person}
use Rattle.members.specs.Trying.{may_use, proved_premises, proves_by}
use Rattle.members.proofs.Places.{least-passes, least-reached}
use Rattle.choice.specs.Choice.{asked, least_credential, least_middle, proves_with}

-- what is asked, where that is proved
module _ (all : List Goal → Bool) (word : Bool) where
  pub asked-some : (found : Option (List Goal)) → proved_premises all word found ≡ true → found ≡ some (asked found)
  unfolding proved_premises asked
  asked-some none h = absurd (false-true h)
  asked-some (some goals) h = refl

  pub asked-proved : (found : Option (List Goal)) → proved_premises all word found ≡ true
      → pick (eqb (length (asked found)) 0) word (all (asked found)) ≡ true
  unfolding proved_premises asked
  asked-proved none h = absurd (false-true h)
  asked-proved (some goals) h = h

-- a middle is 0 or a principal
pub middle-few : (t : List ℕ) (g : Goal) (c m : ℕ) (goals : List Goal) → premises t g c m ≡ some goals → m ≤ most_principals
middle-few t g c m goals applies = by-rule (rule-applied t g c m goals applies)
  where
    by-rule : Rule t g (credential t c) m goals → m ≤ most_principals
    by-rule (membership one same z e) = omega arith
    by-rule (containment two z e) = omega arith
    by-rule (linking three middle e) = middle.last
    by-rule (intersection four z e) = omega arith

-- the middles with which credential c proves the goal
module _ (t : List ℕ) (all : List Goal → Bool) (word : Bool) (g : Goal) (c : ℕ) where
  abbrev pub proves_beside : ℕ → Bool
  proves_beside m = proved_premises all word (premises t g c m)

  some-middle : proves_by t all word g c ≡ true → (m : ℕ) × (proves_beside m ≡ true)
  unfolding proves_by pick
  some-middle h = go (eqb (credential t c).kind 3) h
    where
      tries : ℕ → Bool
      tries j = is_person t j and proves_beside (credential t (suc j)).first

      go : (linked : Bool) → pick linked (any_below tries (credentials t)) (proves_beside 0) ≡ true
          → (m : ℕ) × (proves_beside m ≡ true)
      go true found =
          let (j, l, passes) = any-shows tries (credentials t) found in
          ((credential t (suc j)).first, and_second _ _ passes)
      go false found = (0, found)

  below-bound : (m : ℕ) → proves_beside m ≡ true → m < suc most_principals
  below-bound m h = omega (arith, middle-few t g c m _ (asked-some all word (premises t g c m) h))

  pub least-middle-least : (m : ℕ) → proves_beside m ≡ true → least_middle t all word g c ≤ m
  unfolding least_middle
  least-middle-least m h = least-reached proves_beside (suc most_principals) m (below-bound m h) h

  pub least-middle-proves : proves_by t all word g c ≡ true → proves_beside (least_middle t all word g c) ≡ true
  unfolding least_middle
  least-middle-proves h =
      let (m, passes) = some-middle h in
      least-passes proves_beside (suc most_principals)
      (omega (arith, least-reached proves_beside (suc most_principals) m (below-bound m passes) passes, below-bound m passes))

module _ (t : List ℕ) (S : ℕ) (all : List Goal → Bool) (word : Bool) (g : Goal) where
  pub least-credential-least : (c : ℕ) → Numbered (credentials t) c → may_use t S g c ≡ true → proves_by t all word g c ≡ true
      → least_credential t S all word g ≤ c
  unfolding least_credential
  least-credential-least c there may proves =
      let at = placed there in
      omega (arith, least-reached (proves_with t S all word g) (credentials t) (c - 1) at.0 (rw at.1 (and_both may proves)))

  module _ (found : any_below (proves_with t S all word g) (credentials t) ≡ true) where
    least-credential-passes : (may_use t S g (least_credential t S all word g)
        and proves_by t all word g (least_credential t S all word g)) ≡ true
    unfolding least_credential
    least-credential-passes =
        let (c, l, passes) = any-shows (proves_with t S all word g) (credentials t) found in
        let before = least-reached (proves_with t S all word g) (credentials t) c l passes in
        least-passes (proves_with t S all word g) (credentials t) (omega arith)

    -- it is in the set, and proves the goal with its least middle
    pub least-credential-own : in_set S (least_credential t S all word g - 1) ≡ true
    unfolding may_use
    least-credential-own = and_first _ _ (and_first _ _ least-credential-passes)

    pub least-credential-proves : (let c = least_credential t S all word g in
        proved_premises all word (premises t g c (least_middle t all word g c)) ≡ true)
    least-credential-proves = least-middle-proves t all word g _ (and_second _ _ least-credential-passes)
