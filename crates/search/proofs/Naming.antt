-- Whoever is derived to be in a role is named by some simple membership. So the search loses nothing by trying only principals that
-- one names as middles.
use mathlib.Core.Path.{◌≡◌, refl}
use mathlib.Core.List.{List, [], ◌∷◌, map}
use mathlib.Core.Bool.{Bool, true, false}
use mathlib.Core.Option.{some}
use Prim.Native.Nat.{ℕ, ◌-◌, ◌<◌}
use native.Mathlib.Decide.{ℕ_discrete}
use native.Mathlib.Omega.{arith}
use lib.Dec.{eqb}
use borrow.Author.Tests.{eq-eqb, eqb-true, ne_eqb}
use Rattle.sets.specs.Logic.{◌or◌, pick}
use Rattle.table.specs.Layout.{Numbered, credential, credentials, parts}
use Rattle.table.specs.Holding.{WellFormed}
use Rattle.table.specs.declared.Principal.{Principal}
use Rattle.table.specs.declared.Role.{Role}
use Rattle.table.specs.declared.Goal.{Goal}
use Rattle.sets.proofs.Tests.{and_both, any-reached, false-true, or-either, or-first, or-second}
use Rattle.table.proofs.WellFormed.{wf-chain}
use Rattle.derivation.specs.Rules.{goal, premises}
use Rattle.derivation.specs.Forest.{Derives, Forest}
use Rattle.derivation.specs.Forest.DerivesBy.{done, step}
use Rattle.derivation.proofs.Applying.{applies-numbered, some-parts}
use Rattle.members.specs.Places.{person_at}
use Rattle.members.specs.Trying.{proved_premises, proves_by}
use Rattle.members.proofs.Places.{person-is, person-named, person-stands}
use Rattle.derivation.proofs.Using.{placed}
use Rattle.derivation.proofs.Ruling.{Rule, rule-applied}
use Rattle.derivation.proofs.Ruling.Rule.{membership, containment, linking, intersection}

-- some goal is about the principal
unfoldable asks_for : ℕ → List Goal → Bool
asks_for p [] = false
asks_for p (g ∷ goals) = eqb g.principal.0 p or asks_for p goals

asks-first : (p : Principal) (r : Role) (goals : List Goal) → asks_for p.0 (goal p r ∷ goals) ≡ true
unfolding asks_for
asks-first p r goals = or-first _ (eq-eqb p.0 p.0 refl)

asks-later : (p : ℕ) (h : Goal) (goals : List Goal) → asks_for p goals ≡ true → asks_for p (h ∷ goals) ≡ true
unfolding asks_for
asks-later p h goals = or-second _

asks-parts : (p : Principal) (roles : List Role) → (map (λ (r : Role). goal p r) roles ≡ [] → ⊥)
    → asks_for p.0 (map (λ (r : Role). goal p r) roles) ≡ true
asks-parts p [] some-role = absurd (some-role refl)
asks-parts p (r ∷ roles) some-role = asks-first p r (map (λ (r : Role). goal p r) roles)

-- every principal that the goals are about has a place
abbrev AllNamed : List ℕ → List Goal → Type 0
AllNamed t goals = (p : ℕ) → asks_for p goals ≡ true → person_at t p < credentials t

named_by : (t : List ℕ) (c p : ℕ) → Numbered (credentials t) c → (credential t c).kind ≡ 1 → (credential t c).first ≡ p
    → person_at t p < credentials t
named_by t c p there one named =
    let at = placed there in
    person-named t p (c - 1) at.0 (rw at.1 one) (rw at.1 named)

-- m is a middle that is tried with credential c: a principal with a place for kind 3, and 0 for the others
pub record IsMiddle (t : List ℕ) (c m : ℕ) : Type 0 where
  pub linking : (credential t c).kind ≡ 3 → person_at t m < credentials t
  pub other : ((credential t c).kind ≡ 3 → ⊥) → m ≡ 0

pub tried-proves : (t : List ℕ) (all : List Goal → Bool) (word : Bool) (g : Goal) (c m : ℕ) → IsMiddle t c m
    → proved_premises all word (premises t g c m) ≡ true → proves_by t all word g c ≡ true
unfolding proves_by pick
tried-proves t all word g c m tried h = go (ℕ_discrete (credential t c).kind 3)
  where
    go : Dec ((credential t c).kind ≡ 3) → proves_by t all word g c ≡ true
    go (yes three) =
        let there = tried.linking three in
        let stands = person-stands t m there in
        rw (eq-eqb (credential t c).kind 3 three)
        (any-reached _ (credentials t) (person_at t m) there (and_both (person-is t m there) (rw stands.1 h)))
    go (no other) = rw (ne_eqb (credential t c).kind 3 other) (rw (tried.other other) at h)

-- a credential that applies to a goal: where all whom it asks for have places, so have the goal's principal and the middle
module _ (t : List ℕ) (wf : WellFormed t) (g : Goal) (c m : ℕ) (goals : List Goal) (there : Numbered (credentials t) c)
    (below : AllNamed t goals) where
  -- the rule of membership names the principal, and every other asks for it
  principal-named : Rule t g (credential t c) m goals → person_at t g.principal.0 < credentials t
  principal-named (membership one named z e) = named_by t c g.principal.0 there one named
  principal-named (containment two z e) = below _ (rw (← e) (asks-first _ _ []))
  principal-named (linking three range e) = below _ (rw (← e) (asks-later _ _ _ (asks-first _ _ [])))
  principal-named (intersection four z e) =
      let some-part = some-parts t _ (credential t c).first (wf-chain t wf c there four).least in
      below _ (rw (← e) (asks-parts g.principal (parts t (credential t c).first) some-part))

  middle-named : Rule t g (credential t c) m goals → IsMiddle t c m
  middle-named (membership one named z e) = record { linking = λ three. absurd (omega arith); other = λ n. z }
  middle-named (containment two z e) = record { linking = λ three. absurd (omega arith); other = λ n. z }
  middle-named (linking three range e) =
      record { linking = λ k. below m (rw (← e) (asks-first _ _ _)); other = λ n. absurd (n three) }
  middle-named (intersection four z e) = record { linking = λ three. absurd (omega arith); other = λ n. z }

-- each goal's principal in turn: the node's own, and those of its children and later siblings
members-known : {t : List ℕ} → WellFormed t → {levels : ℕ} {branch goals : List Goal} {f : Forest}
    → Derives t levels branch goals f → AllNamed t goals
unfolding asks_for
members-known wf done p h = absurd (false-true h)
members-known {t} wf (step {c = c} {m = m} {goals = asked} {g = g} applies new d later) p h =
    let there = applies-numbered t g c m asked applies in
    let own = principal-named t wf g c m asked there (members-known wf d) (rule-applied t g c m asked applies) in
    or-either (λ same. rw (eqb-true g.principal.0 p same) at own) (members-known wf later p) h

-- a node's principal is named
pub goal-named : {t : List ℕ} → WellFormed t → {levels : ℕ} {branch : List Goal} {f : Forest} (g : Goal) (c m : ℕ)
    (goals : List Goal) → premises t g c m ≡ some goals → Derives t levels branch goals f
    → person_at t g.principal.0 < credentials t
goal-named {t} wf g c m goals applies d =
    let there = applies-numbered t g c m goals applies in
    principal-named t wf g c m goals there (members-known wf d) (rule-applied t g c m goals applies)

-- a node's middle is one that the search tries
pub middle-tried : {t : List ℕ} → WellFormed t → {levels : ℕ} {branch : List Goal} {f : Forest} (g : Goal) (c m : ℕ)
    (goals : List Goal) → premises t g c m ≡ some goals → Derives t levels branch goals f → IsMiddle t c m
middle-tried {t} wf g c m goals applies d =
    let there = applies-numbered t g c m goals applies in
    middle-named t wf g c m goals there (members-known wf d) (rule-applied t g c m goals applies)
