-- The credentials that may be used for a role, up to the last: where none before the last proves the goal, the last does.
use mathlib.Core.Path.{◌≡◌, sym, ap, ◌∙◌}
use mathlib.Core.List.{List}
use mathlib.Core.Bool.{Bool, true, false}
use Prim.Native.Nat.{ℕ, suc, ◌+◌, ◌-◌, ◌<◌, ◌≤◌}
use native.Mathlib.Omega.{arith}
use native.Mathlib.Decide.{dec_lt, ℕ_discrete}
use Rattle.sets.specs.Logic.{any_below}
use Rattle.sets.proofs.Tests.{and_both, and_first, any-not, any-shows, false-true, or_off}
use Rattle.table.specs.Layout.{credential, credentials, principal}
use Rattle.table.specs.declared.Goal.{Goal}
use Rattle.derivation.specs.Rules.{goal}
use Rattle.members.specs.Members.{Indexed}
use Rattle.members.specs.Trying.{proves_by}
use Rattle.members.proofs.Places.{least-found}
use Rattle.goals.specs.Goals.{usable}
use Rattle.search.specs.Search.{Stands, Tried, goal_at, proves_with}
use Rattle.search.proofs.Trying.{next-tried, next-unused, usable-is, usable-role}
use Rattle.choice.specs.Choice.{LastUsable, least_credential}

-- none behind `last` and before i may be used
abbrev pub NoneBehind : List ℕ → ℕ → ℕ → ℕ → ℕ → Type 0
NoneBehind index S place last i = (k : ℕ) → last < k → k < i → usable index S place k ≡ true → ⊥

module _ (index : List ℕ) (S place : ℕ) where
  pub none_first : (i : ℕ) → NoneBehind index S place i (i + 1)
  none_first i k behind before may = omega arith

  pub none_yet : (last : ℕ) → NoneBehind index S place last 0
  none_yet last k behind before may = omega arith

-- none of the first n from i on may be used
abbrev pub NoneFrom : List ℕ → ℕ → ℕ → ℕ → ℕ → Type 0
NoneFrom index S place n i = (k : ℕ) → i ≤ k → k < n → usable index S place k ≡ true → ⊥

pub none-down : (index : List ℕ) (S place n i : ℕ) → 1 ≤ i → NoneFrom index S place n i → usable index S place (i - 1) ≡ false
    → NoneFrom index S place n (i - 1)
none-down index S place n i some none off k from l may = go (ℕ_discrete k (i - 1))
  where
    go : Dec (k ≡ i - 1) → ⊥
    go (yes e) = false-true (sym off ∙ sym (ap (usable index S place) e) ∙ may)
    go (no e) = none k (omega arith) l may

pub tried-at : {t : List ℕ} {person place : ℕ} → Stands t person place → (i : ℕ) → i < credentials t → Tried t person i
tried-at stands i l = record { there = l; who = stands.there; named = stands.named }

-- the least credential that proves the goal at `person` and `place`
module _ {t index : List ℕ} (indexed : Indexed t index) {person place : ℕ} (stands : Stands t person place)
    (there : place < credentials t) (S : ℕ) (all : List Goal → Bool) (word : Bool) where
  abbrev tries : ℕ → Bool
  tries = proves_with t S all word (goal_at t person place)

  -- credential i + 1 is tried: it proves the goal, or the first i + 1 do no more than the first i
  module _ (i : ℕ) (l : i < credentials t) {may : Bool} (told : may ≡ usable index S place i) where
    module _ (on : may ≡ true) {proved : Bool} (e : proved ≡ proves_by t all word (goal_at t person i) (suc i)) where
      pub passes-here : proved ≡ true → tries i ≡ true
      passes-here is =
          let role = usable-role indexed stands there S i l (sym told ∙ on) in
          and_both (sym (usable-is indexed stands there S i l) ∙ sym told ∙ on)
          (sym (ap (λ r. proves_by t all word (goal (principal (credential t (suc person)).first) r) (suc i)) role) ∙ sym e ∙ is)

      pub next-failed : any_below tries i ≡ false → proved ≡ false → any_below tries (i + 1) ≡ false
      next-failed before off =
          next-tried indexed stands there S i l all word told on ∙ sym (or_off before) ∙ sym e ∙ off

    pub next-skipped : any_below tries i ≡ false → may ≡ false → any_below tries (i + 1) ≡ false
    next-skipped before off = next-unused indexed stands there S i l all word told off ∙ before

  -- none before it proves the goal, and it does
  pub chosen-here : (i : ℕ) → i < credentials t → any_below tries i ≡ false → tries i ≡ true
      → (i < credentials t) × (suc i ≡ least_credential t S all word (goal_at t person place))
  unfolding least_credential
  chosen-here i l none passes = (l, ap suc (least-found tries (credentials t) i l none passes))

  -- some credential does, none before the last that may be used does, and none behind it may be used
  pub chosen_last : (n last i : ℕ) → n ≡ credentials t → LastUsable index S place n last → i ≡ last → any_below tries i ≡ false
      → any_below tries (credentials t) ≡ true
      → (last < credentials t) × (suc last ≡ least_credential t S all word (goal_at t person place))
  chosen_last n last i counted is e none some =
      let (k, l, passes) = any-shows tries (credentials t) some in
      go k l passes (dec_lt k i) (dec_lt i k)
    where
      inside : last < credentials t
      inside = omega (arith, is.few, counted)

      go : (k : ℕ) → k < credentials t → tries k ≡ true → Dec (k < i) → Dec (i < k)
          → (last < credentials t) × (suc last ≡ least_credential t S all word (goal_at t person place))
      go k l passes (yes before) d = absurd (false-true (sym (any-not tries i k none before) ∙ passes))
      go k l passes (no b) (yes behind) =
          absurd (is.none k (omega arith) (omega arith)
          (usable-is indexed stands there S k l ∙ and_first _ _ passes))
      go k l passes (no b) (no a) =
          let same : k ≡ last = omega arith in
          chosen-here last inside (rw e at none) (rw same at passes)
