-- The node that is chosen: the least credential proves the goal such that what is wanted can be met, so with the least middle it
-- applies, and the goals that it then asks can be proved so.
use mathlib.Core.Path.{◌≡◌, refl, sym, ap, ◌∙◌}
use mathlib.Core.List.{List, [], ◌∷◌, map}
use mathlib.Core.Bool.{Bool, true}
use mathlib.Core.Option.{Option, none, some}
use mathlib.Core.Logic.{◌⊎◌, inl, inr, ⊎_elim}
use Prim.Native.Nat.{ℕ, zero, suc, ◌+◌, ◌<◌, ◌≤◌}
use native.Mathlib.Omega.{arith}
use native.Mathlib.Decide.{dec_lt}
use lib.ListN.{get_or, length, length-map}
use borrow.Author.Tests.{ne_eqb}
use Rattle.sets.specs.Logic.{◌and◌, pick}
use Rattle.sets.proofs.Tests.{and_both, and_first, and_second, any-shows, false-true}
use Rattle.sets.proofs.Members.{part-zero}
use Rattle.few.specs.Listed.{listed}
use Rattle.table.specs.Limits.{most_parts, most_principals}
use Rattle.table.specs.Layout.{credential, credentials, principal, role}
use Rattle.table.specs.declared.Role.{Role}
use Rattle.table.specs.declared.Credential.{Credential}
use Rattle.table.specs.declared.Goal.{Goal}
use Rattle.table.proofs.Fields.{principal-range}
use Rattle.automata.specs.declared.StateSets.{StateSets}
use Rattle.derivation.specs.Rules.{goal, premises}
use Rattle.derivation.specs.Held.{no_goal}
use Rattle.derivation.proofs.Usable.{numbered-usable}
use Rattle.derivation.proofs.Asking.{asks-3, own-role, when-on}
use Rattle.derivation.proofs.Applying.{same-role}
use Rattle.derivation.proofs.Ruling.{Rule, by_kind, rule-applied}
use Rattle.derivation.proofs.Ruling.Rule.{membership, containment, linking, intersection}
use Rattle.members.specs.Places.{is_person, least, person_at}
use Rattle.members.specs.Members.{asked_cell, roles_asked}
use Rattle.members.specs.Trying.{may_use, proved_premises, proves_by}
use Rattle.members.proofs.Places.{is-person, least-passes, least-reached, person-is, person-stands}
use Rattle.members.proofs.Reading.{as_read, numbered}
use Rattle.members.proofs.ByKind.{padded-inside}
use Rattle.members.proofs.ByKind.{by-none, middle_at, middle_goals, middle_role, names-principal, parts-few, role_goals, roles-2}
use Rattle.members.proofs.ByKind.{roles-4}
use Rattle.members.specs.declared.above.Above.{Above}
use Rattle.search.specs.Asking.{pair, role_pairs}
use Rattle.search.specs.declared.asking.Pair.{Pair}
use Rattle.search.specs.Search.{Searchable, Stands, Tried, goal_at, proves, proves_at, proves_with, shares}
use Rattle.search.proofs.Pairs.{asks_none, roles-length}
use Rattle.search.proofs.Owing.{proves-less}
use Rattle.search.proofs.Sharing.{shares-member, shares-shows}
use Rattle.search.proofs.Placing.{first_cell, link_pairs, linked_role, linking-role, own, part-cell, part_role, proved-some}
use Rattle.search.proofs.Placing.{second-cell, unnamed-unproved}
use Rattle.choice.specs.declared.Node.{Node}
use Rattle.choice.specs.Choice.{Children, Chosen, LeastMiddle, Made, asked, ends_well, leads, least_credential, least_middle}
use Rattle.choice.specs.Choice.{suits}
use Rattle.choice.proofs.Candidates.{tried-at}
use Rattle.choice.proofs.Nodes.{AllPlaced, Placed, placed-goal, placed-proved, placed-stands, roles-at}

length_none : {A : Type 0} (xs : List A) → length xs ≡ 0 → xs ≡ []
length_none [] e = refl
length_none (x ∷ xs) e = absurd (omega arith)

map-inside : {A B : Type 0} (f : A → B) (xs : List A) (k : ℕ) (d : A) (d' : B) → k < length xs
    → get_or (map f xs) k d' ≡ f (get_or xs k d)
map-inside f [] k d d' l = absurd (omega arith)
map-inside f (x ∷ xs) zero d d' l = refl
map-inside f (x ∷ xs) (suc k) d d' l = map-inside f xs k d d' (omega arith)

-- what is asked is proved; where anything is, all goals together
asked-proved : (all : List Goal → Bool) (word : Bool) (x : Option (List Goal)) → proved_premises all word x ≡ true
    → (length (asked x) ≡ 0 → ⊥) → all (asked x) ≡ true
unfolding proved_premises pick asked
asked-proved all word none h more = absurd (false-true h)
asked-proved all word (some goals) h more = rw (ne_eqb (length goals) 0 more) at h

-- the least number that passes is the one that passes and that is no greater than any other
least_at : (p : ℕ → Bool) (n m : ℕ) → m < n → p m ≡ true → ((k : ℕ) → p k ≡ true → m ≤ k) → m ≡ least p n
least_at p n m l passes below =
    let reached = least-reached p n m l passes in
    omega (arith, reached, below (least p n) (least-passes p n (omega arith)))

-- the least credential is one that may be used, so it has the goal for its own, and it proves it
module _ (t : List ℕ) (person place S : ℕ) (all : List Goal → Bool) (word : Bool) (i : ℕ)
    (is : suc i ≡ least_credential t S all word (goal_at t person place)) (there : i < credentials t) where
  passes : proves_with t S all word (goal_at t person place) i ≡ true
  unfolding least_credential
  passes =
      let same : i ≡ least (proves_with t S all word (goal_at t person place)) (credentials t) = omega (arith, is) in
      rw (← same) at (least-passes (proves_with t S all word (goal_at t person place)) (credentials t) (rw (← same) there))

  pub own-goal : goal_at t person i ≡ goal_at t person place
  unfolding may_use
  own-goal =
      ap (goal (principal (credential t (suc person)).first))
      (same-role _ _ (and_second _ _ (and_first _ _ passes)))

  pub own-proved : proves_by t all word (goal_at t person i) (suc i) ≡ true
  own-proved = rw own-goal (and_second _ _ passes)

-- goals that suit what is wanted can each be proved with nothing to meet
pub suits-each : (t : List ℕ) (S A O levels : ℕ) (above : Above) (s : StateSets) (wants : ℕ → Bool) (goals : List Goal)
    → suits (proves t S A O levels above s) O wants goals ≡ true → (k : ℕ) → k < length goals
    → proves t S A O levels above s (get_or goals k no_goal) 0 ≡ true
unfolding suits
suits-each t S A O levels above s wants goals h =
    let (X, l, both) = any-shows (λ X. wants X and shares (proves t S A O levels above s) O goals X) (suc O) h in
    shares-member (proves t S A O levels above s) O no_goal (λ g Y. proves-less t S A O levels above s g Y 0 (part-zero Y)) goals X
    (and_second _ _ both)

-- goals that stand at places are a node's children, where each can be proved
children-are : (t : List ℕ) (S A O levels : ℕ) (above : Above) (s : StateSets) (goals : List Goal) (pairs : List Pair)
    → AllPlaced t pairs goals
    → ((k : ℕ) → k < length goals → proves t S A O levels above s (get_or goals k no_goal) 0 ≡ true)
    → (credential middle : ℕ) (node : Node) → Made credential middle pairs node
    → Children t S A O levels above s goals (listed node.asked)
children-are t S A O levels above s goals pairs placed each credential middle node made =
    rw made.asks
    record {
      count = placed.count;
      stands = λ k l. placed-stands (placed.each k l);
      proved = found;
      goals-are = λ k l. placed-goal (placed.each k l) S A O levels above s 0 (found k l);
    }
  where
    found : (k : ℕ) → k < length pairs
        → proves_at t S A O levels above s (get_or pairs k (pair 0 0)).person (get_or pairs k (pair 0 0)).place 0 ≡ true
    found k l = placed-proved (placed.each k l) S A O levels above s 0 (each k (omega (arith, placed.count)))

-- credential i + 1 proves its goal
module _ {t index arcs rows : List ℕ} {S levels last : ℕ} (searched : Searchable t index arcs rows S levels last) {person i : ℕ}
    (tried : Tried t person i) (A O : ℕ) (above : Above) (s : StateSets) (wants : ℕ → Bool) where
  abbrev one : Goal → ℕ → Bool
  one = proves t S A O levels above s

  abbrev all : List Goal → Bool
  all = suits one O wants

  abbrev word : Bool
  word = ends_well t A O wants s

  abbrev g : Goal
  g = goal_at t person i

  abbrev asks_of : List Role
  asks_of = roles_asked t (credential t (suc i))

  -- whoever is to be proved first has a place
  first-named : (h : Goal) (goals : List Goal) → all (h ∷ goals) ≡ true → person_at t h.principal.0 < credentials t
  unfolding suits
  first-named h goals proved =
      let (X, l, both) = any-shows (λ X. wants X and shares one O (h ∷ goals) X) (suc O) proved in
      let by = shares-shows one O h goals X (and_second _ _ both) in
      go by.first by.proves-first (dec_lt (person_at t h.principal.0) (credentials t))
    where
      go : (Y : ℕ) → one h Y ≡ true → Dec (person_at t h.principal.0 < credentials t)
          → person_at t h.principal.0 < credentials t
      go Y is (yes l) = l
      go Y is (no beyond) =
          absurd (false-true (sym (unnamed-unproved t S A O searched.members above s h Y (omega arith)) ∙ is))

  -- with the least middle, where the goals that it then asks stand at the pairs
  chosen-as : suc i ≡ least_credential t S all word g → (m : ℕ) → m ≡ least_middle t all word g (suc i)
      → proved_premises all word (premises t g (suc i) m) ≡ true → (pairs : List Pair)
      → AllPlaced t pairs (asked (premises t g (suc i) m)) → (node : Node) → Made (suc i) m pairs node
      → Chosen t S A O levels above s wants g node
  chosen-as is m middle proved pairs placed node made =
      record {
        credential-is = made.credential-is ∙ is;
        middle-is = rw (made.middle-is, made.credential-is) middle;
        children = rw (made.middle-is, made.credential-is) children;
        suited = rw (made.middle-is, made.credential-is) (λ some. suited (λ none. some (children.count ∙ none)));
      }
    where
      suited : (length (asked (premises t g (suc i) m)) ≡ 0 → ⊥) → all (asked (premises t g (suc i) m)) ≡ true
      suited = asked-proved all word (premises t g (suc i) m) proved

      children : Children t S A O levels above s (asked (premises t g (suc i) m)) (listed node.asked)
      children =
          children-are t S A O levels above s _ pairs placed
          (λ k l. suits-each t S A O levels above s wants _ (suited (λ none. omega arith)) k l) (suc i) m node made

  -- where it is not of kind 3, it asks the principal to be in each of its roles
  module _ (other : (credential t (suc i)).kind ≡ 3 → ⊥) (proved : proves_by t all word g (suc i) ≡ true) where
    unlinked-passes : proved_premises all word (premises t g (suc i) 0) ≡ true
    unfolding proves_by pick
    unlinked-passes = rw (ne_eqb (credential t (suc i)).kind 3 other) at proved

    abbrev Asks : Type 0
    Asks =
        (asked (premises t g (suc i) 0) ≡ role_goals t g (suc i)) × (length asks_of ≤ most_parts)
        × (((credential t (suc i)).kind ≡ 1 → ⊥) ⊎ (length asks_of ≡ 0))

    by-rule : (goals : List Goal) → asked (premises t g (suc i) 0) ≡ asked (some goals) → Rule t g (credential t (suc i)) 0 goals
        → Asks
    unfolding asked
    by-rule goals e (membership k1 named z same) =
        let none = asks_none t (credential t (suc i)) (λ k. omega arith) (λ k. omega arith) (λ k. omega arith) in
        (e ∙ sym same ∙ sym (ap (map _) (length_none asks_of (sym none))), omega (arith, none), inr (sym none))
    by-rule goals e (containment k2 z same) =
        let roles = roles-2 t (credential t (suc i)) k2 in
        (e ∙ sym same ∙ sym (ap (map _) roles), rw roles (omega arith), inl (λ k1. omega arith))
    by-rule goals e (linking k3 range same) = absurd (other k3)
    by-rule goals e (intersection k4 z same) =
        let roles = roles-4 t (credential t (suc i)) k4 in
        let few = (parts-few t searched.well_formed (suc i) (numbered tried.there) k4).1 in
        (e ∙ sym same ∙ sym (ap (map _) roles), rw roles few, inl (λ k1. omega arith))

    unlinked-asks : Asks
    unlinked-asks =
        let (goals, applies) = proved-some all word (premises t g (suc i) 0) unlinked-passes in
        by-rule goals (ap asked applies) (rule-applied t g (suc i) 0 goals applies)

    -- role k of those that it asks
    module _ (k : ℕ) (l : k < length asks_of) where
      more : (credential t (suc i)).kind ≡ 1 → ⊥
      more = ⊎_elim (λ n1. n1) (λ nothing. absurd (omega arith)) unlinked-asks.2

      two-or-four : ((credential t (suc i)).kind ≡ 2) ⊎ ((credential t (suc i)).kind ≡ 4)
      two-or-four =
          by_kind (credential t (suc i)).kind (λ k1. absurd (more k1)) inl (λ k3. absurd (other k3)) inr
          (λ n1 n2 n3 n4. absurd (false-true (sym (by-none t searched.well_formed all word g (suc i) (numbered tried.there)
          (own searched tried) n1 n2 n3 n4) ∙ proved)))

      part_placed : Placed t (pair person (get_or index (asked_cell i k) 0)) (get_or (asked (premises t g (suc i) 0)) k no_goal)
      part_placed =
          record {
            there = tried.who;
            named = tried.named;
            role = part_role t i k;
            place_is = part-cell searched tried two-or-four k (omega (arith, unlinked-asks.1));
            goal-is =
                ap (λ gs. get_or gs k no_goal) unlinked-asks.0
                ∙ map-inside (λ (r : Role). goal g.principal r) asks_of k (role 0 0) no_goal l
                ∙ ap (goal g.principal) (padded-inside asks_of k (role 0 0) l);
          }

    parts-placed : AllPlaced t (role_pairs index person i (length asks_of) 0) (asked (premises t g (suc i) 0))
    parts-placed =
        record {
          count =
              roles-length index person i (length asks_of) 0
              ∙ sym (ap length unlinked-asks.0 ∙ length-map asks_of (λ (r : Role). goal g.principal r));
          each = λ k l.
              let inside : k < length asks_of = omega (arith, roles-length index person i (length asks_of) 0) in
              rw (roles-at index person i (length asks_of) k inside) (part_placed k inside);
        }

    unlinked-middle : 0 ≡ least_middle t all word g (suc i)
    unfolding least_middle
    unlinked-middle = least_at _ (suc most_principals) 0 (omega arith) unlinked-passes (λ k passes. omega arith)

    -- the node of such a credential
    pub chosen-unlinked : suc i ≡ least_credential t S all word g → (node : Node)
        → Made (suc i) 0 (role_pairs index person i (length asks_of) 0) node → Chosen t S A O levels above s wants g node
    chosen-unlinked is = chosen-as is 0 unlinked-middle unlinked-passes _ parts-placed

  -- of kind 3: the principal at j is the middle that is chosen
  module _ (kind : (credential t (suc i)).kind ≡ 3) (j : ℕ) (least : LeastMiddle t (leads t all word g (suc i)) j) where
    abbrev m : ℕ
    m = middle_at t j

    named : is_person t j ≡ true
    named = and_first _ _ least.leads-on

    linked-passes : proved_premises all word (premises t g (suc i) m) ≡ true
    linked-passes = and_second (is_person t j) _ least.leads-on

    linked-asks : asked (premises t g (suc i) m) ≡ middle_goals t g (suc i) j
    unfolding asked
    linked-asks =
        let in-range = names-principal t searched.well_formed (suc j) (numbered least.there) (is-person t j named).0 in
        sym (ap asked (when-on (middle_goals t g (suc i) j) in-range ∙ asks-3 t g (credential t (suc i)) m kind
        ∙ own-role t g (suc i) m (numbered-usable t (suc i) (numbered tried.there)) (credential t (suc i)) refl (own searched tried)))

    -- another middle that passes is a principal with a place, so it leads on
    passes-named : (x : ℕ) → proved_premises all word (premises t g (suc i) x) ≡ true → person_at t x < credentials t
    unfolding asked
    passes-named x h =
        let (goals, applies) = proved-some all word (premises t g (suc i) x) h in
        by-linking goals (rw applies at h) (rule-applied t g (suc i) x goals applies)
      where
        by-linking : (goals : List Goal) → proved_premises all word (some goals) ≡ true → Rule t g (credential t (suc i)) x goals
            → person_at t x < credentials t
        by-linking goals p (membership k1 who z e) = absurd (omega arith)
        by-linking goals p (containment k2 z e) = absurd (omega arith)
        by-linking goals p (linking k3 range e) =
            first-named (goal (principal x) (middle_role t (suc i))) _
            (asked-proved all word (some (_ ∷ _ ∷ [])) (rw (← e) at p) (λ none. omega arith))
        by-linking goals p (intersection k4 z e) = absurd (omega arith)

    linked-least : (x : ℕ) → proved_premises all word (premises t g (suc i) x) ≡ true → m ≤ x
    linked-least x h =
        let l = passes-named x h in
        let stands = (person-stands t x l).1 in
        let passes_on = ap (λ y. proved_premises all word (premises t g (suc i) y)) stands ∙ h in
        omega (arith, stands, least.least (person_at t x) l (and_both (person-is t x l) passes_on))

    linked-middle : m ≡ least_middle t all word g (suc i)
    unfolding least_middle
    linked-middle =
        let person = names-principal t searched.well_formed (suc j) (numbered least.there) (is-person t j named).0 in
        least_at _ (suc most_principals) m (omega (arith, (principal-range m person).last)) linked-passes linked-least

    -- both goals by their places
    link-placed : AllPlaced t (link_pairs index person i j) (middle_goals t g (suc i) j)
    link-placed = record { count = refl; each = each }
      where
        each : (k : ℕ) → k < 2
            → Placed t (get_or (link_pairs index person i j) k (pair 0 0)) (get_or (middle_goals t g (suc i) j) k no_goal)
        each zero l =
            record {
              there = least.there;
              named = named;
              role = part_role t i 0;
              place_is = first_cell searched tried kind;
              goal-is = ap (goal (principal m)) (sym (linking-role t (suc i) kind));
            }
        each (suc zero) l =
            record {
              there = tried.who;
              named = tried.named;
              role = linked_role t i j;
              place_is = second-cell searched tried kind j least.there named;
              goal-is = refl;
            }
        each (suc (suc k)) l = absurd (omega arith)

    pub chosen-linked : suc i ≡ least_credential t S all word g → (node : Node) → Made (suc i) m (link_pairs index person i j) node
        → Chosen t S A O levels above s wants g node
    chosen-linked is = chosen-as is m linked-middle linked-passes _ (rw linked-asks link-placed)

-- credential i + 1 has been read as x, which is not of kind 3
pub not-linking : (t : List ℕ) (i : ℕ) (x : Credential) → x ≡ credential t (i + 1) → (x.kind ≡ 3 → ⊥)
    → (credential t (suc i)).kind ≡ 3 → ⊥
not-linking t i x read other three = other (ap (λ (y : Credential). y.kind) (as_read t i x read) ∙ three)

-- the least credential, number i + 1, for the goal at `person` and `place`
module _ {t index arcs rows : List ℕ} {S levels last : ℕ} (searched : Searchable t index arcs rows S levels last)
    {person place i : ℕ} (stands : Stands t person place) (A O : ℕ) (above : Above) (s : StateSets) (wants : ℕ → Bool)
    (there : i < credentials t)
    (is : suc i ≡ least_credential t S (suits (proves t S A O levels above s) O wants) (ends_well t A O wants s)
    (goal_at t person place)) where
  abbrev suited : List Goal → Bool
  suited = suits (proves t S A O levels above s) O wants

  same : goal_at t person i ≡ goal_at t person place
  same = own-goal t person place S suited _ i is there

  own-least : suc i ≡ least_credential t S suited (ends_well t A O wants s) (goal_at t person i)
  own-least = is ∙ ap (least_credential t S suited (ends_well t A O wants s)) (sym same)

  pub least-proved : proves_by t suited (ends_well t A O wants s) (goal_at t person i) (suc i) ≡ true
  least-proved = own-proved t person place S suited _ i is there

  pub chosen_plain : ((credential t (suc i)).kind ≡ 3 → ⊥) → (node : Node)
      → Made (suc i) 0 (role_pairs index person i (length (roles_asked t (credential t (suc i)))) 0) node
      → Chosen t S A O levels above s wants (goal_at t person place) node
  chosen_plain other node made =
      rw same at (chosen-unlinked searched (tried-at stands i there) A O above s wants other least-proved own-least node made)

  pub chosen-with : (credential t (suc i)).kind ≡ 3 → (j : ℕ)
      → LeastMiddle t (leads t suited (ends_well t A O wants s) (goal_at t person i) (suc i)) j
      → (node : Node) → Made (suc i) (middle_at t j) (link_pairs index person i j) node
      → Chosen t S A O levels above s wants (goal_at t person place) node
  chosen-with three j least node made =
      rw same at (chosen-linked searched (tried-at stands i there) A O above s wants three j least own-least node made)
