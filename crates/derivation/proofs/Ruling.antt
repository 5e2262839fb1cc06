-- The rule by which a credential applies to a goal, and what that rule asks (docs/DEFINITION.md, "Derivations"): one of four, by
-- the credential's kind.
use mathlib.Core.Path.{◌≡◌, ◌∙◌}
use mathlib.Core.List.{List, [], ◌∷◌, map}
use mathlib.Core.Option.{some}
use Prim.Native.Nat.{ℕ}
use native.Mathlib.Decide.{ℕ_discrete}
use borrow.Author.Tests.{eqb-true}
use Rattle.table.specs.Limits.{most_principals}
use Rattle.table.specs.Layout.{Numbered, credential, credentials, name, parts, principal, role}
use Rattle.table.specs.Holding.{WellFormed}
use Rattle.table.specs.declared.Role.{Role}
use Rattle.table.specs.declared.Credential.{Credential}
use Rattle.table.specs.declared.Goal.{Goal}
use Rattle.sets.proofs.Tests.{and_first, and_second}
use Rattle.table.proofs.Fields.{principal-range}
use Rattle.table.proofs.WellFormed.{wf-chain}
use Rattle.derivation.specs.Rules.{asks, goal, premises}
use Rattle.derivation.proofs.Asking.{asks-1, asks-2, asks-3, asks-4, asks_none}
use Rattle.derivation.proofs.Applying.{applies-asks, applies-numbered, cons-nil, none-some, picked, some-parts, when-some}

-- a kind is one of the four, or none of them
pub by_kind : {A : Type 0} (k : ℕ) → (k ≡ 1 → A) → (k ≡ 2 → A) → (k ≡ 3 → A) → (k ≡ 4 → A)
    → ((k ≡ 1 → ⊥) → (k ≡ 2 → ⊥) → (k ≡ 3 → ⊥) → (k ≡ 4 → ⊥) → A) → A
by_kind {A} k one two three four other = go (ℕ_discrete k 1) (ℕ_discrete k 2) (ℕ_discrete k 3) (ℕ_discrete k 4)
  where
    go : Dec (k ≡ 1) → Dec (k ≡ 2) → Dec (k ≡ 3) → Dec (k ≡ 4) → A
    go (yes h) d2 d3 d4 = one h
    go (no n1) (yes h) d3 d4 = two h
    go (no n1) (no n2) (yes h) d4 = three h
    go (no n1) (no n2) (no n3) (yes h) = four h
    go (no n1) (no n2) (no n3) (no n4) = other n1 n2 n3 n4

pub data Rule (t : List ℕ) (g : Goal) (c : Credential) (m : ℕ) (goals : List Goal) : Type 0 where
  membership : c.kind ≡ 1 → c.first ≡ g.principal.0 → m ≡ 0 → [] ≡ goals → Rule t g c m goals
  containment : c.kind ≡ 2 → m ≡ 0 → goal g.principal (role c.first c.second) ∷ [] ≡ goals → Rule t g c m goals
  linking : c.kind ≡ 3 → Numbered most_principals m
      → goal (principal m) (record { owner = c.role.owner; name = name c.first })
      ∷ goal g.principal (role m c.second) ∷ [] ≡ goals
      → Rule t g c m goals
  intersection : c.kind ≡ 4 → m ≡ 0 → map (λ (r : Role). goal g.principal r) (parts t c.first) ≡ goals → Rule t g c m goals

module _ (t : List ℕ) (g : Goal) (c : Credential) (m : ℕ) (goals : List Goal) (asked : asks t g c m ≡ some goals) where
  by-membership : c.kind ≡ 1 → Rule t g c m goals
  by-membership one =
      let e = asks-1 t g c m one ∙ asked in
      let test = (picked _ _ goals e).0 in
      membership one (eqb-true _ _ (and_first _ _ test)) (eqb-true _ _ (and_second _ _ test)) (when-some _ _ goals e)

  by-containment : c.kind ≡ 2 → Rule t g c m goals
  by-containment two =
      let e = asks-2 t g c m two ∙ asked in
      containment two (eqb-true _ _ (picked _ _ goals e).0) (when-some _ _ goals e)

  by-linking : c.kind ≡ 3 → Rule t g c m goals
  by-linking three =
      let e = asks-3 t g c m three ∙ asked in
      linking three (principal-range m (picked _ _ goals e).0) (when-some _ _ goals e)

  by-intersection : c.kind ≡ 4 → Rule t g c m goals
  by-intersection four =
      let e = asks-4 t g c m four ∙ asked in
      intersection four (eqb-true _ _ (picked _ _ goals e).0) (when-some _ _ goals e)

  rule-asked : Rule t g c m goals
  rule-asked =
      by_kind c.kind by-membership by-containment by-linking by-intersection
      (λ n1 n2 n3 n4. absurd (none-some (asks_none t g c m n1 n2 n3 n4 ∙ asked)))

pub rule-applied : (t : List ℕ) (g : Goal) (c m : ℕ) (goals : List Goal) → premises t g c m ≡ some goals
    → Rule t g (credential t c) m goals
rule-applied t g c m goals applies = rule-asked t g (credential t c) m goals (applies-asks t g c m goals applies)

-- nothing is asked, so the kind is 1: a chain has parts
pub asks_nothing : (t : List ℕ) → WellFormed t → (g : Goal) (c m : ℕ) → premises t g c m ≡ some [] → (credential t c).kind ≡ 1
asks_nothing t wf g c m applies = by-rule (rule-applied t g c m [] applies)
  where
    there : Numbered (credentials t) c
    there = applies-numbered t g c m [] applies

    by-rule : Rule t g (credential t c) m [] → (credential t c).kind ≡ 1
    by-rule (membership one same none e) = one
    by-rule (containment two none e) = absurd (cons-nil e)
    by-rule (linking three middle e) = absurd (cons-nil e)
    by-rule (intersection four none e) = absurd (some-parts t _ (credential t c).first (wf-chain t wf c there four).least e)
