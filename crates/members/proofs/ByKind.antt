-- Whether a credential that defines the goal's role proves the goal, by its kind.
use mathlib.Core.Path.{◌≡◌, refl, sym, ap, ◌∙◌}
use mathlib.Core.List.{List, [], ◌∷◌, map}
use mathlib.Core.Bool.{Bool, true, false, not}
use mathlib.Core.Logic.{◌⊎◌, inl, inr}
use Prim.Native.Nat.{ℕ, zero, suc, ◌<◌, ◌≤◌}
use native.Mathlib.Omega.{arith}
use lib.ListN.{get_or, length, length-map}
use lib.Dec.{eqb}
use borrow.Author.Tests.{eq-eqb, eqb-true, ne_eqb, not-false, not-true}
use Rattle.sets.specs.Logic.{◌and◌, ◌or◌, any_below, pick}
use Rattle.sets.proofs.Tests.{and_first, and-is-off, and_second, and-true, any-not, any-shows, false-true}
pub use Rattle.sets.proofs.Tests.{any_same}
use Rattle.table.specs.Limits.{most_parts}
use Rattle.table.specs.Layout.{Numbered, cell, chain, credential, credentials, name, parts, parts_by, principal, role, same_role}
use Rattle.table.specs.Holding.{WellFormed}
use Rattle.table.specs.Checks.{credential_to, good_credential, good_credential_to, head_outcome, is_principal, table_outcome_to}
use Rattle.table.specs.declared.Role.{Role}
use Rattle.table.specs.declared.Credential.{Credential}
use Rattle.table.specs.declared.Goal.{Goal}
use Rattle.table.proofs.Meanings.{kind_1}
use Rattle.table.proofs.Stages.{each-ok, then-first, then-second}
use Rattle.table.proofs.WellFormed.{wf-chain}
use Rattle.derivation.specs.Rules.{asks, goal, premises, when}
use Rattle.derivation.proofs.Usable.{numbered-usable}
use Rattle.derivation.proofs.Asking.{asks-1, asks-2, asks-3, asks-4, asks_none, own-role}
use Rattle.derivation.proofs.Ruling.{by_kind}
use Rattle.members.specs.Places.{is_person}
use Rattle.members.specs.Trying.{every_goal, proved_premises, proves_by}
use Rattle.members.specs.Members.{padded, roles_asked}
use Rattle.members.proofs.Reading.{numbered}

-- a simple membership names a principal
pub names-principal : (t : List ℕ) → WellFormed t → (c : ℕ) → Numbered (credentials t) c → (credential t c).kind ≡ 1
    → is_principal (principal (credential t c).first) ≡ true
unfolding table_outcome_to good_credential_to credential_to
names-principal t wf c there one =
    let credentials-on = then-second (head_outcome t) _ 0 wf.accepted in
    let good = each-ok (good_credential t) 4 (credentials t) _ (then-first _ _ 0 credentials-on).1 c there in
    and_first _ _ (sym (kind_1 _ _ _ _ one) ∙ and_first _ _ (and_second _ _ good))

-- four places tested are all the roles of a list of one to four, the last of them at every place behind it
pub four-tests : (a b c d : Bool) → not ((((false or not a) or not b) or not c) or not d) ≡ (a and (b and (c and d)))
unfolding ◌and◌ ◌or◌
four-tests false b c d = go b c d
  where
    go : (b c d : Bool) → not (((true or not b) or not c) or not d) ≡ false
    go b c d = refl
four-tests true false c d = refl
four-tests true true false d = refl
four-tests true true true false = refl
four-tests true true true true = refl

pub repeated : (a : Bool) → (a and a) ≡ a
unfolding ◌and◌
repeated true = refl
repeated false = refl

-- the list's own role where there is one
pub padded-inside : (roles : List Role) (k : ℕ) (d : Role) → k < length roles → get_or roles k d ≡ padded roles k
unfolding padded
padded-inside [] k d l = absurd (omega arith)
padded-inside (r ∷ []) zero d l = refl
padded-inside (r ∷ []) (suc k) d l = absurd (omega arith)
padded-inside (r ∷ s ∷ roles) zero d l = refl
padded-inside (r ∷ s ∷ roles) (suc k) d l = padded-inside (s ∷ roles) k d (omega arith)

every-padded : (one : Goal → Bool) (f : Role → Goal) (roles : List Role) → 1 ≤ length roles → length roles ≤ most_parts
    → every_goal one (map f roles) ≡ not (any_below (λ k. not (one (f (padded roles k)))) most_parts)
unfolding every_goal any_below padded
every-padded one f [] any few = absurd (omega arith)
every-padded one f (r ∷ []) any few =
    let a = one (f r) in
    and-true a ∙ sym (four-tests a a a a ∙ rw (repeated a, repeated a, repeated a))
every-padded one f (r ∷ s ∷ []) any few =
    let b = one (f s) in
    rw (and-true b) (sym (four-tests (one (f r)) b b b ∙ rw (repeated b, repeated b)))
every-padded one f (r ∷ s ∷ u ∷ []) any few =
    let c = one (f u) in
    rw (and-true c) (sym (four-tests (one (f r)) (one (f s)) c c ∙ rw (repeated c)))
every-padded one f (r ∷ s ∷ u ∷ v ∷ []) any few =
    rw (and-true (one (f v))) (sym (four-tests (one (f r)) (one (f s)) (one (f u)) (one (f v))))
every-padded one f (r ∷ s ∷ u ∷ v ∷ w ∷ roles) any few = absurd (omega arith)

-- what is asked only where a test passes
proved-when : (all : List Goal → Bool) (word test : Bool) (goals : List Goal)
    → proved_premises all word (when test goals) ≡ (test and pick (eqb (length goals) 0) word (all goals))
unfolding proved_premises pick ◌and◌
proved-when all word true goals = refl
proved-when all word false goals = refl

-- a chain of two to four cells has as many parts
pub parts-few : (t : List ℕ) → WellFormed t → (c : ℕ) → Numbered (credentials t) c → (credential t c).kind ≡ 4
    → (1 ≤ length (parts t (credential t c).first)) × (length (parts t (credential t c).first) ≤ most_parts)
unfolding parts_by
parts-few t wf c there four =
    let range = wf-chain t wf c there four in
    let same = length-map (chain t (credential t c).first) (λ (k : ℕ). (cell t k).role) in
    (omega (arith, range.least), omega (arith, range.most))

-- the roles asked, by kind; one that is alone is asked at every place
module _ (t : List ℕ) (c : Credential) where
  pub roles-2 : c.kind ≡ 2 → roles_asked t c ≡ role c.first c.second ∷ []
  unfolding roles_asked pick
  roles-2 two = rw two

  pub roles-3 : c.kind ≡ 3 → roles_asked t c ≡ record { owner = c.role.owner; name = name c.first } ∷ []
  unfolding roles_asked pick
  roles-3 three = rw three

  pub roles-4 : c.kind ≡ 4 → roles_asked t c ≡ parts t c.first
  unfolding roles_asked pick
  roles-4 four = rw four

pub one-padded : (roles : List Role) (r : Role) → roles ≡ r ∷ [] → (k : ℕ) → padded roles k ≡ r
unfolding padded
one-padded roles r only k = rw only

-- what kind 3 asks of the middle that stands at j, and of the goal's principal with it
abbrev pub middle_at : List ℕ → ℕ → ℕ
middle_at t j = (credential t (suc j)).first

abbrev pub middle_role : List ℕ → ℕ → Role
middle_role t c = record { owner = (credential t c).role.owner; name = name (credential t c).first }

abbrev pub middle_goals : List ℕ → Goal → ℕ → ℕ → List Goal
middle_goals t g c j =
    goal (principal (middle_at t j)) (middle_role t c) ∷ goal g.principal (role (middle_at t j) (credential t c).second) ∷ []

-- the goals of the roles asked of the goal's principal
abbrev pub role_goals : List ℕ → Goal → ℕ → List Goal
role_goals t g c = map (λ (r : Role). goal g.principal r) (roles_asked t (credential t c))

module _ (t : List ℕ) (wf : WellFormed t) (all : List Goal → Bool) (word : Bool) (g : Goal) (c : ℕ)
    (there : Numbered (credentials t) c) (own : same_role (credential t c).role g.role ≡ true) where
  asked_is : (m : ℕ) → asks t g (credential t c) m ≡ premises t g c m
  asked_is m = own-role t g c m (numbered-usable t c there) (credential t c) refl own

  -- every kind but 3 is tried without a middle
  no_middle : ((credential t c).kind ≡ 3 → ⊥) → proves_by t all word g c ≡ proved_premises all word (asks t g (credential t c) 0)
  unfolding proves_by pick
  no_middle other = rw (ne_eqb (credential t c).kind 3 other, asked_is 0)

  pub by-membership : (credential t c).kind ≡ 1
      → proves_by t all word g c ≡ (eqb (credential t c).first g.principal.0 and word)
  unfolding pick
  by-membership kind =
      let named = eqb (credential t c).first g.principal.0 in
      no_middle (λ e. omega arith)
      ∙ ap (proved_premises all word) (sym (asks-1 t g (credential t c) 0 kind))
      ∙ proved-when all word (named and true) []
      ∙ ap (λ b. b and word) (and-true named)

  -- one role or more are asked of the goal's principal
  all-roles : (roles : List Role) → 1 ≤ length roles
      → proved_premises all word (when true (map (λ (r : Role). goal g.principal r) roles))
      ≡ all (map (λ (r : Role). goal g.principal r) roles)
  unfolding pick ◌and◌
  all-roles roles any =
      let goals = map (λ (r : Role). goal g.principal r) roles in
      let same = length-map roles (λ (r : Role). goal g.principal r) in
      proved-when all word true goals ∙ rw (ne_eqb (length goals) 0 (λ e. omega arith))

  pub by-roles : ((credential t c).kind ≡ 2) ⊎ ((credential t c).kind ≡ 4) → proves_by t all word g c ≡ all (role_goals t g c)
  by-roles (inl kind) =
      no_middle (λ e. omega arith)
      ∙ ap (proved_premises all word) (sym (asks-2 t g (credential t c) 0 kind))
      ∙ all-roles (role (credential t c).first (credential t c).second ∷ []) (omega arith)
      ∙ ap (λ roles. all (map (λ (r : Role). goal g.principal r) roles)) (sym (roles-2 t _ kind))
  by-roles (inr kind) =
      no_middle (λ e. omega arith)
      ∙ ap (proved_premises all word) (sym (asks-4 t g (credential t c) 0 kind))
      ∙ all-roles (parts t (credential t c).first) (parts-few t wf c there kind).0
      ∙ ap (λ roles. all (map (λ (r : Role). goal g.principal r) roles)) (sym (roles-4 t _ kind))

  pub with-goals : (credential t c).kind ≡ 3 → (j : ℕ) → j < credentials t → is_person t j ≡ true
      → proved_premises all word (premises t g c (middle_at t j)) ≡ all (middle_goals t g c j)
  unfolding is_person pick ◌and◌
  with-goals kind j l person =
      let there-is = names-principal t wf (suc j) (numbered l) (eqb-true _ 1 (and_first _ _ person)) in
      rw (← asked_is (middle_at t j), ← asks-3 t g (credential t c) (middle_at t j) kind, there-is)
      (proved-when all word true _)

  pub by-goals : (credential t c).kind ≡ 3
      → proves_by t all word g c ≡ any_below (λ j. is_person t j and all (middle_goals t g c j)) (credentials t)
  unfolding proves_by pick
  by-goals kind =
      rw (eq-eqb (credential t c).kind 3 kind)
      (any_same _ _ (credentials t) (λ j l. go j l (is_person t j) refl))
    where
      go : (j : ℕ) → j < credentials t → (b : Bool) → is_person t j ≡ b
          → (is_person t j and proved_premises all word (premises t g c (middle_at t j)))
          ≡ (is_person t j and all (middle_goals t g c j))
      go j l true e = ap (λ b. is_person t j and b) (with-goals kind j l e)
      go j l false e = and-is-off _ e ∙ sym (and-is-off _ e)

  -- there is no other kind
  pub by-none : ((credential t c).kind ≡ 1 → ⊥) → ((credential t c).kind ≡ 2 → ⊥) → ((credential t c).kind ≡ 3 → ⊥)
      → ((credential t c).kind ≡ 4 → ⊥) → proves_by t all word g c ≡ false
  unfolding proved_premises
  by-none h1 h2 h3 h4 = no_middle h3 ∙ ap (proved_premises all word) (sym (asks_none t g (credential t c) 0 h1 h2 h3 h4))

-- one to four roles are asked of the goal's principal
pub roles-few : (t : List ℕ) → WellFormed t → (c : ℕ) → Numbered (credentials t) c
    → ((credential t c).kind ≡ 2) ⊎ ((credential t c).kind ≡ 4)
    → (1 ≤ length (roles_asked t (credential t c))) × (length (roles_asked t (credential t c)) ≤ most_parts)
roles-few t wf c there (inl kind) = rw (roles-2 t (credential t c) kind) (omega arith, omega arith)
roles-few t wf c there (inr kind) = rw (roles-4 t (credential t c) kind) (parts-few t wf c there kind)

-- where goals are proved one by one
abbrev pub by_middle : List ℕ → (Goal → Bool) → Goal → ℕ → ℕ → Bool
by_middle t one g c j =
    one (goal (principal (middle_at t j)) (middle_role t c))
    and one (goal g.principal (role (middle_at t j) (credential t c).second))

pub every-middle : (t : List ℕ) (one : Goal → Bool) (g : Goal) (c j : ℕ)
    → every_goal one (middle_goals t g c j) ≡ by_middle t one g c j
unfolding every_goal
every-middle t one g c j = rw (and-true (one (goal g.principal (role (middle_at t j) (credential t c).second))))

module _ (t : List ℕ) (wf : WellFormed t) (one : Goal → Bool) (word : Bool) (g : Goal) (c : ℕ)
    (there : Numbered (credentials t) c) (own : same_role (credential t c).role g.role ≡ true) where
  abbrev pub all_proved : List Role → Bool
  all_proved roles = not (any_below (λ k. not (one (goal g.principal (padded roles k)))) most_parts)

  pub by_parts : ((credential t c).kind ≡ 2) ⊎ ((credential t c).kind ≡ 4)
      → proves_by t (every_goal one) word g c ≡ all_proved (roles_asked t (credential t c))
  by_parts kind =
      by-roles t wf (every_goal one) word g c there own kind
      ∙ every-padded one (goal g.principal) (roles_asked t (credential t c))
      (roles-few t wf c there kind).0 (roles-few t wf c there kind).1

  pub with-middle : (credential t c).kind ≡ 3 → (j : ℕ) → j < credentials t → is_person t j ≡ true
      → proved_premises (every_goal one) word (premises t g c (middle_at t j)) ≡ by_middle t one g c j
  with-middle kind j l person =
      with-goals t wf (every_goal one) word g c there own kind j l person ∙ every-middle t one g c j

  pub by-middles : (credential t c).kind ≡ 3
      → proves_by t (every_goal one) word g c ≡ any_below (λ j. is_person t j and by_middle t one g c j) (credentials t)
  by-middles kind =
      by-goals t wf (every_goal one) word g c there own kind
      ∙ any_same _ _ (credentials t) (λ j l. ap (λ b. is_person t j and b) (every-middle t one g c j))

  -- the goal is proved: each role asked is, or both roles with some middle
  module _ (proved : proves_by t (every_goal one) word g c ≡ true) where
    pub each_part : ((credential t c).kind ≡ 2) ⊎ ((credential t c).kind ≡ 4) → (k : ℕ) → k < most_parts
        → one (goal g.principal (padded (roles_asked t (credential t c)) k)) ≡ true
    each_part kind k l =
        not-false _
        (any-not (λ k. not (one (goal g.principal (padded (roles_asked t (credential t c)) k)))) most_parts k
        (not-true _ (sym (by_parts kind) ∙ proved)) l)

    pub some-middle : (credential t c).kind ≡ 3
        → (j : ℕ) × (j < credentials t) × (is_person t j ≡ true) × (by_middle t one g c j ≡ true)
    some-middle kind =
        let (j, l, both) =
        any-shows (λ j. is_person t j and by_middle t one g c j) (credentials t) (sym (by-middles kind) ∙ proved) in
        (j, l, and_first (is_person t j) _ both, and_second (is_person t j) _ both)

    -- every kind but 1 asks some role of the goal's principal
    pub some-role : ((credential t c).kind ≡ 1 → ⊥) → (r : Role) × (one (goal g.principal r) ≡ true)
    some-role other =
        by_kind (credential t c).kind (λ kind. absurd (other kind)) (λ kind. first (inl kind)) linked
        (λ kind. first (inr kind)) (λ h1 h2 h3 h4. absurd (false-true (sym (by-none t wf (every_goal one) word g c there own h1 h2 h3 h4) ∙ proved)))
      where
        first : ((credential t c).kind ≡ 2) ⊎ ((credential t c).kind ≡ 4) → (r : Role) × (one (goal g.principal r) ≡ true)
        first kind = (padded (roles_asked t (credential t c)) 0, each_part kind 0 (omega arith))

        linked : (credential t c).kind ≡ 3 → (r : Role) × (one (goal g.principal r) ≡ true)
        linked kind =
            let found = some-middle kind in
            (role (middle_at t found.0) (credential t c).second, and_second _ _ found.3)
