-- Which credentials bear on a query. Where the places of roles are closed under what credentials ask, a derivation of goals whose
-- roles stand at such places uses only credentials whose roles do: each goal below the root is of a role that the credential above
-- it asks, with a middle that has a place.
use mathlib.Core.Path.{◌≡◌, refl, sym, ◌∙◌}
use mathlib.Core.List.{List, [], ◌∷◌, map}
use mathlib.Core.Bool.{Bool, true}
use Prim.Native.Nat.{ℕ, zero, suc, ◌-◌, ◌^◌, ◌<◌, ◌≤◌}
use native.Mathlib.Omega.{arith}
use lib.ListN.{get_or, length}
use borrow.Author.Tests.{lt-ltb, ltb-true}
use Rattle.sets.specs.Logic.{pick}
use Rattle.sets.specs.Sets.{in_set}
use Rattle.sets.proofs.Tests.{and_both, and_first, and_second}
use Rattle.sets.proofs.Members.{members-below, set_of-members}
use Rattle.table.specs.Layout.{Numbered, credential, credentials, parts, role}
use Rattle.table.specs.Holding.{WellFormed}
use Rattle.table.specs.declared.Role.{Role}
use Rattle.table.specs.declared.Goal.{Goal}
use Rattle.table.specs.declared.Query.{Query}
use Rattle.derivation.specs.Rules.{goal}
use Rattle.derivation.specs.Forest.{Derives, Forest}
use Rattle.derivation.specs.Forest.DerivesBy.{done, step}
use Rattle.derivation.proofs.Applying.{applies-numbered, applies-role}
use Rattle.derivation.proofs.Using.{placed}
use Rattle.derivation.proofs.Ruling.{Rule, rule-applied}
use Rattle.derivation.proofs.Ruling.Rule.{membership, containment, linking, intersection}
use Rattle.members.specs.Places.{person_at, role_at}
use Rattle.members.specs.Trying.{every_goal}
use Rattle.members.specs.Members.{Aimed, Indexed, goal_role, padded, roles_asked}
use Rattle.members.proofs.ByKind.{middle_role, parts-few}
use Rattle.members.proofs.Places.{person-is, person-stands}
use Rattle.search.specs.Search.{UsesOnly}
use Rattle.relevance.specs.Relevance.{AsksIn, Relevant, Round, defined_at}
use Rattle.search.proofs.Naming.{IsMiddle, middle-tried}
use Rattle.search.proofs.Within.{only_end, only-node}

-- the roles of a list of at most n are all among the first n, the last one repeated behind it
padded-every : (one : Goal → Bool) (f : Role → Goal) (roles : List Role) (n : ℕ) → length roles ≤ n
    → ((k : ℕ) → k < n → one (f (padded roles k)) ≡ true) → every_goal one (map f roles) ≡ true
unfolding every_goal padded
padded-every one f [] n few all = refl
padded-every one f (r ∷ []) n few all = and_both (all 0 (omega arith)) refl
padded-every one f (r ∷ s ∷ roles) zero few all = absurd (omega arith)
padded-every one f (r ∷ s ∷ roles) (suc n) few all =
    and_both (all 0 (omega arith)) (padded-every one f (s ∷ roles) n (omega arith) (λ k l. all (suc k) (omega arith)))

module _ (t : List ℕ) (wf : WellFormed t) (index : List ℕ) (indexed : Indexed t index) (places : ℕ)
    (closed : Round t index (credentials t) places places) where
  -- the goal's role stands at one of the places
  is_reached : Goal → Bool
  is_reached g = in_set places (role_at t g.role)

  -- a credential whose role does
  module _ (c : ℕ) (there : Numbered (credentials t) c) (own : in_set places (role_at t (credential t c).role) ≡ true) where
    asks-in : AsksIn t index (c - 1) places
    asks-in =
        let at = placed there in
        closed.each (c - 1) at.0 (rw (indexed.defined (c - 1) at.0, at.1) own)

    asked-reached : ((credential t c).kind ≡ 1 → ⊥) → (k : ℕ) → k < 4
        → in_set places (role_at t (padded (roles_asked t (credential t c)) k)) ≡ true
    asked-reached other k l =
        let at = placed there in
        let other' = rw (← at.1) at other in
        rw (indexed.asked (c - 1) k at.0 l other', at.1) at (asks-in.asked other' k l)

    one-reached : ((credential t c).kind ≡ 1 → ⊥) → (r : Role) → roles_asked t (credential t c) ≡ r ∷ []
        → in_set places (role_at t r) ≡ true
    unfolding padded
    one-reached other r e = rw e at (asked-reached other 0 (omega arith))

    -- the role that kind 3 asks with the middle m
    linked-reached : (credential t c).kind ≡ 3 → (m : ℕ) → person_at t m < credentials t
        → in_set places (role_at t (role m (credential t c).second)) ≡ true
    linked-reached three m known =
        let at = placed there in
        let three' = rw (← at.1) at three in
        let (one, names) = person-stands t m known in
        rw (indexed.linked (c - 1) (person_at t m) at.0 known three' one, names, at.1)
        at (asks-in.linked three' (person_at t m) known (person-is t m known))

    premises-reached : (g : Goal) (m : ℕ) (goals : List Goal) → IsMiddle t c m → Rule t g (credential t c) m goals
        → every_goal is_reached goals ≡ true
    unfolding every_goal is_reached roles_asked pick
    premises-reached g m goals tried (membership one named z e) = rw (← e)
    premises-reached g m goals tried (containment two z e) =
        rw (← e) (and_both (one-reached (λ one. omega arith) _ (rw two)) refl)
    premises-reached g m goals tried (linking three range e) =
        rw (← e)
        (and_both (one-reached (λ one. omega arith) (middle_role t c) (rw three))
        (and_both (linked-reached three m (tried.linking three)) refl))
    premises-reached g m goals tried (intersection four z e) =
        rw (← e)
        (padded-every is_reached (goal g.principal) (parts t (credential t c).first) 4 (parts-few t wf c there four).1
        (λ k l. rw four at (asked-reached (λ one. omega arith) k l)))

  defined-has : (c : ℕ) → Numbered (credentials t) c → in_set places (role_at t (credential t c).role) ≡ true
      → in_set (defined_at index places (credentials t)) (c - 1) ≡ true
  unfolding defined_at
  defined-has c there own =
      let at = placed there in
      set_of-members _ (credentials t) (c - 1)
      ∙ and_both (lt-ltb (c - 1) (credentials t) at.0) (rw (indexed.defined (c - 1) at.0, at.1) own)

  reached-covers : {l : ℕ} {b gs : List Goal} {f : Forest} → Derives t l b gs f → every_goal is_reached gs ≡ true
      → UsesOnly f (defined_at index places (credentials t))
  unfolding every_goal is_reached
  reached-covers done h = only_end _
  reached-covers (step {c = c} {m = m} {goals = goals} {g = g} {children = ch} {siblings = si} applies new d e) h =
      let there = applies-numbered t g c m goals applies in
      let own = rw (← applies-role t g c m goals applies) at (and_first _ _ h) in
      let tried = middle-tried wf g c m goals applies d in
      let below = premises-reached c there own g m goals tried (rule-applied t g c m goals applies) in
      only-node _ c m ch si (defined-has c there own) (reached-covers d below) (reached-covers e (and_second _ _ h))

defined-fits : (index : List ℕ) (places n : ℕ) → defined_at index places n < 2 ^ n
unfolding defined_at
defined-fits index places n =
    members-below _ n (λ s h. ltb-true s n (and_first _ _ (sym (set_of-members _ n s) ∙ h)))

-- the code has counted n credentials
pub relevant-found : (t : List ℕ) (q : Query) (index : List ℕ) → WellFormed t → Indexed t index → Aimed t q index
    → (places n R : ℕ) → in_set places (get_or index goal_role 0) ≡ true → Round t index (credentials t) places places
    → n ≡ credentials t → R ≡ defined_at index places n → Relevant t q R
unfolding every_goal is_reached
relevant-found t q index wf indexed aimed places n R start closed count found =
    rw (found, count)
    record {
      fits = defined-fits index places (credentials t);
      every = λ f d.
          reached-covers t wf index indexed places closed d
          (and_both (rw aimed.goals_role at start) refl);
    }
