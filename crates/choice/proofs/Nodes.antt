-- The goals that a node asks: the list of them by places, goal by goal, and what it means that a goal stands at its places.
use mathlib.Core.Path.{◌≡◌, refl, sym, ap, ◌∙◌}
use mathlib.Core.List.{List, [], ◌∷◌}
use mathlib.Core.Bool.{true}
use Prim.Native.Nat.{ℕ, zero, suc, ◌+◌, ◌<◌}
use native.Mathlib.Nat.{add-zero, zero-add}
use native.Mathlib.Omega.{arith}
use lib.ListN.{get_or, length}
use borrow.Author.Tests.{ltb-true}
use Rattle.sets.proofs.Tests.{and_first}
use Rattle.table.specs.Layout.{credential, credentials, principal}
use Rattle.table.specs.declared.Role.{Role}
use Rattle.table.specs.declared.Credential.{Credential}
use Rattle.table.specs.declared.Goal.{Goal}
use Rattle.automata.specs.declared.StateSets.{StateSets}
use Rattle.derivation.specs.Rules.{goal}
use Rattle.derivation.specs.Held.{no_goal}
use Rattle.members.specs.Places.{is_person, role_at}
use Rattle.members.specs.Members.{asked_cell, link_cell}
use Rattle.members.specs.declared.above.Above.{Above}
use Rattle.members.proofs.Places.{role-stands}
use Rattle.members.proofs.Reading.{as_read}
use Rattle.search.specs.Asking.{pair, role_pairs}
use Rattle.search.specs.declared.asking.Pair.{Pair}
use Rattle.search.specs.Search.{Stands, goal_at, proves, proves_at}
use Rattle.search.proofs.Placing.{link_pairs, proves-at, stands_at}
use Rattle.choice.specs.declared.Node.{Node}
use Rattle.choice.specs.Choice.{Made}

-- a list made goal by goal, from goal k on, has goal k + j at place j
module _ (each : ℕ → ℕ → List Pair) (one : ℕ → Pair) (more : (n k : ℕ) → each (suc n) k ≡ one k ∷ each n (suc k)) where
  made_at : (n k j : ℕ) → j < n → get_or (each n k) j (pair 0 0) ≡ one (k + j)
  made_at zero k j l = absurd (omega arith)
  made_at (suc n) k zero l = rw (more n k, add-zero k)
  made_at (suc n) k (suc j) l =
      let next : suc k + j ≡ k + suc j = omega arith in
      rw (more n k) (made_at n (suc k) j (omega arith) ∙ ap one next)

pub roles-at : (index : List ℕ) (person i n k : ℕ) → k < n
    → get_or (role_pairs index person i n 0) k (pair 0 0) ≡ pair person (get_or index (asked_cell i k) 0)
unfolding role_pairs
roles-at index person i n k l =
    rw (zero-add k) at
    (made_at (role_pairs index person i) (λ k. pair person (get_or index (asked_cell i k) 0)) (λ n k. refl) n 0 k l)

-- a goal that stands at these places: its principal has one, and its role one where some credential defines it
pub record Placed (t : List ℕ) (p : Pair) (g : Goal) : Type 0 where
  pub there : p.person < credentials t
  pub named : is_person t p.person ≡ true
  pub role : Role
  pub place_is : p.place ≡ role_at t role
  pub goal-is : g ≡ goal (principal (credential t (suc p.person)).first) role

pub record AllPlaced (t : List ℕ) (pairs : List Pair) (goals : List Goal) : Type 0 where
  pub count : length pairs ≡ length goals
  pub each : (k : ℕ) → k < length pairs → Placed t (get_or pairs k (pair 0 0)) (get_or goals k no_goal)

module _ {t : List ℕ} {p : Pair} {g : Goal} (is : Placed t p g) where
  pub placed-stands : Stands t p.person p.place
  placed-stands = rw is.place_is (stands_at t p.person is.role is.there is.named)

  module _ (S A O levels : ℕ) (above : Above) (s : StateSets) (X : ℕ) where
    pub placed-proved : proves t S A O levels above s g X ≡ true → proves_at t S A O levels above s p.person p.place X ≡ true
    placed-proved h =
        rw is.place_is
        (proves-at t S A O levels above s p.person is.role X
        ∙ ap (λ x. proves t S A O levels above s x X) (sym is.goal-is) ∙ h)

    pub placed-goal : proves_at t S A O levels above s p.person p.place X ≡ true → goal_at t p.person p.place ≡ g
    unfolding proves_at
    placed-goal h =
        let inside = ltb-true p.place (credentials t) (and_first _ _ h) in
        let same = ap (λ k. (credential t (suc k)).role) is.place_is ∙ role-stands t is.role (rw (← is.place_is) inside) in
        ap (goal (principal (credential t (suc p.person)).first)) same ∙ sym is.goal-is

-- the node of credential i + 1, of kind 3, as its middle's number, both cells of the index and what it asks have been read
pub made-linked : (t index : List ℕ) (person i j : ℕ) (x : Credential) → x ≡ credential t (j + 1) → {first second : ℕ}
    → first ≡ get_or index (asked_cell i 0) 0 → second ≡ get_or index (link_cell i j) 0 → {pairs : List Pair}
    → pairs ≡ pair j first ∷ pair person second ∷ [] → (node : Node) → Made (suc i) x.first pairs node
    → Made (suc i) (credential t (suc j)).first (link_pairs index person i j) node
made-linked t index person i j x read one two asks node made =
    record {
      credential-is = made.credential-is;
      middle-is = made.middle-is ∙ ap (λ (c : Credential). c.first) (as_read t j x read);
      asks = made.asks ∙ asks ∙ rw (one, two);
    }

-- and of one that is not, whose roles have been read
pub made-unlinked : {c m : ℕ} {pairs roles : List Pair} → pairs ≡ roles → (node : Node) → Made c m pairs node → Made c m roles node
made-unlinked asks node made = rw asks at made
