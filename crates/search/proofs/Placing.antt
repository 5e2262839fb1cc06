-- The search by places: a goal whose principal and role stand at places of the table, what the table of members says of it, and
-- what a credential asks, cell by cell of the index.
use mathlib.Core.Path.{◌≡◌, refl, sym, ap, ap₂, ◌∙◌}
use mathlib.Core.List.{List, [], ◌∷◌, map}
use mathlib.Core.Bool.{Bool, true, false, not}
use mathlib.Core.Option.{Option, none, some}
use mathlib.Core.Logic.{◌⊎◌, ⊎_elim}
use Prim.Native.Nat.{ℕ, zero, suc, ◌+◌, ◌<◌, ◌≤◌}
use native.Mathlib.Nat.{add-zero, zero-add}
use native.Mathlib.Numerals.{add-one}
use native.Mathlib.Omega.{arith}
use native.Mathlib.Decide.{dec_lt}
use lib.ListN.{get_or, length}
use lib.Bits.{bit_or}
use lib.Dec.{eqb, ltb}
use borrow.Author.Tests.{eq-eqb, eqb-true, le-ltb, lt-ltb, ne_eqb}
use Rattle.sets.specs.Logic.{◌and◌, any_below, pick}
use Rattle.sets.specs.Sets.{in_set, part}
use Rattle.sets.proofs.Tests.{and_both, and_first, and_is, and-is-off, and_none, and_second, and-true, any-shows, failed}
use Rattle.sets.proofs.Tests.{false-true, refuted, same_test}
use Rattle.sets.proofs.Members.{part-zero}
use Rattle.table.specs.Layout.{Numbered, credential, credentials, principal, role, same_role}
use Rattle.table.specs.Holding.{WellFormed}
use Rattle.table.specs.declared.Role.{Role}
use Rattle.table.specs.declared.Credential.{Credential}
use Rattle.table.specs.declared.Goal.{Goal}
use Rattle.automata.specs.declared.StateSets.{StateSets}
use Rattle.derivation.specs.Rules.{goal, premises}
use Rattle.derivation.proofs.Ruling.{Rule, rule-applied}
use Rattle.derivation.proofs.Ruling.Rule.{membership, containment, linking, intersection}
use Rattle.members.specs.Places.{is_person, person_at, role_at}
use Rattle.members.specs.Above.{with_goal}
use Rattle.members.specs.Trying.{every_goal, may_use, proved_premises, proves_by}
use Rattle.members.specs.Members.{Members, asked_cell, lesser, link_cell, listed, padded, roles_asked, row_cell, within}
use Rattle.members.proofs.Places.{is-person, role-defined, person-stands, role-few, role-stands}
use Rattle.members.proofs.Stepping.{all-by-mono, any-mono}
use Rattle.members.proofs.ByKind.{any_same, by-goals, by-membership, by_parts, by-roles, each_part, middle_goals, middle_role}
use Rattle.members.proofs.ByKind.{roles-few}
use Rattle.members.specs.declared.above.Above.{Above}
use Rattle.goals.specs.Goals.{stepped}
use Rattle.goals.proofs.Testing.{row_within}
use Rattle.search.specs.Asking.{pair, role_pairs}
use Rattle.search.specs.declared.asking.Pair.{Pair}
use Rattle.search.specs.Search.{Searchable, Stands, Tried, ends, goal_at, proves, proves_at, shares}
use Rattle.search.proofs.Owing.{proves-less}
use Rattle.search.proofs.Sharing.{every-by, first-unshared, second-unshared, shares_each}

-- what the search proves with so many levels left, below a branch, from state sets s
module _ (t : List ℕ) (S A O : ℕ) where
  -- what the search proves, whatever it is to meet, members by levels have
  pub proves-within : (levels : ℕ) (above : Above) (s : StateSets) (g : Goal) (X : ℕ) → proves t S A O levels above s g X ≡ true
      → within t S levels g ≡ true
  unfolding proves within
  proves-within zero above s g X h = h
  proves-within (suc levels) above s g X h =
      let below = stepped t (bit_or A O) g.role s in
      let deeper = with_goal t above g in
      let one = proves t S A O levels deeper below in
      any-mono _ _ (credentials t) (λ c l both.
      and_both (and_first _ _ both)
      (all-by-mono (λ goals. shares one O goals X) (every_goal (within t S levels))
      (λ goals. shares_each one O (within t S levels) (proves-within levels deeper below) goals X)
      (ends t A below X) true (λ e. refl) t g (suc c) (and_second _ _ both)))
      (and_second _ _ h)

  -- a role that nobody defines has no member
  undefined-unproved : (levels : ℕ) (above : Above) (s : StateSets) (g : Goal) (X : ℕ) → credentials t ≤ role_at t g.role
      → proves t S A O levels above s g X ≡ false
  unfolding proves may_use
  undefined-unproved zero above s g X beyond = refl
  undefined-unproved (suc levels) above s g X beyond =
      refuted _ (λ h.
      let (c, l, both) = any-shows _ (credentials t) (and_second _ _ h) in
      let there = role-defined t g.role c l (and_second _ _ (and_first _ _ both)) in
      omega arith)

  -- the principal at `person` in a role, by the role's place
  pub proves-at : (levels : ℕ) (above : Above) (s : StateSets) (person : ℕ) (r : Role) (X : ℕ)
      → proves_at t S A O levels above s person (role_at t r) X
      ≡ proves t S A O levels above s (goal (principal (credential t (suc person)).first) r) X
  unfolding proves_at
  proves-at levels above s person r X = go (dec_lt (role_at t r) (credentials t))
    where
      go : Dec (role_at t r < credentials t)
          → (ltb (role_at t r) (credentials t) and proves t S A O levels above s (goal_at t person (role_at t r)) X)
          ≡ proves t S A O levels above s (goal (principal (credential t (suc person)).first) r) X
      go (yes there) = and_is (lt-ltb _ _ there) (rw (role-stands t r there))
      go (no beyond) =
          and-is-off _ (le-ltb (role_at t r) (credentials t) (omega arith))
          ∙ sym (undefined-unproved levels above s (goal (principal (credential t (suc person)).first) r) X (omega arith))

  -- what the row does not have is not proved
  module _ {levels last : ℕ} {rows : List ℕ} (members : Members t S levels last rows) (above : Above) (s : StateSets) where
    pub unnamed-unproved : (g : Goal) (X : ℕ) → credentials t ≤ person_at t g.principal.0
        → proves t S A O levels above s g X ≡ false
    unfolding listed
    unnamed-unproved g X beyond =
        refuted _ (λ h.
        let there = members.every levels (omega arith) g (proves-within levels above s g X h) in
        false-true (sym (le-ltb _ _ beyond) ∙ and_first _ _ there))

    unlisted-at : (person place : ℕ) (r : Role) (X : ℕ) → is_person t person ≡ true → place ≡ role_at t r
        → in_set (get_or rows (row_cell (lesser levels last) place) 0) person ≡ false
        → proves_at t S A O levels above s person place X ≡ false
    unfolding listed
    unlisted-at person place r X named at off =
        let g = goal (principal (credential t (suc person)).first) r in
        let missing = rw (← (is-person t person named).1, at) at off in
        ap (λ x. proves_at t S A O levels above s person x X) at ∙ proves-at levels above s person r X
        ∙ refuted _ (λ h.
        let there = members.every levels (omega arith) g (proves-within levels above s g X h) in
        false-true (sym missing ∙ and_second _ _ there))

-- fewer levels
pub searched-fewer : {t index arcs rows : List ℕ} {S levels last : ℕ} (levels' : ℕ) → levels' ≤ levels
    → Searchable t index arcs rows S levels last → Searchable t index arcs rows S levels' last
searched-fewer levels' fewer searched =
    let members = searched.members in
    record {
      well_formed = searched.well_formed;
      indexed = searched.indexed;
      members =
          record {
            room = members.room;
            few = members.few;
            every = λ k l g h. members.every k (omega arith) g h;
            only = λ k l g h. members.only k (omega arith) g h;
          };
      shallow = omega (arith, searched.shallow);
      moving = searched.moving;
    }

-- a principal with a place, and any role
pub stands_at : (t : List ℕ) (person : ℕ) (r : Role) → person < credentials t → is_person t person ≡ true
    → Stands t person (role_at t r)
stands_at t person r there named =
    record {
      there = there;
      named = named;
      few = role-few t r;
      first = λ defined. ap (role_at t) (role-stands t r defined);
    }

-- what is said of a goal by its places
module _ (t : List ℕ) (S A O levels : ℕ) (above : Above) (s : StateSets) (person place X : ℕ) where
  pub level-none : levels ≡ 0 → false ≡ proves_at t S A O levels above s person place X
  unfolding proves_at proves
  level-none nothing = rw nothing (sym (and_none (ltb place (credentials t)) refl))

  pub place_none : credentials t ≤ place → false ≡ proves_at t S A O levels above s person place X
  unfolding proves_at
  place_none beyond = sym (and-is-off _ (le-ltb place (credentials t) beyond))

  pub place-unlisted : {row last : ℕ} {rows : List ℕ} {told : Bool} → Members t S levels last rows → Stands t person place
      → place < credentials t → row ≡ lesser levels last → told ≡ in_set (get_or rows (row_cell row place) 0) person
      → told ≡ false → false ≡ proves_at t S A O levels above s person place X
  place-unlisted members stands there the_row e off =
      sym (unlisted-at t S A O members above s person place (credential t (suc place)).role X stands.named
      (sym (stands.first there)) (rw the_row at (failed e off)))

-- credential i + 1 proves its own goal, and what is to be met with it
abbrev pub proves_own : List ℕ → ℕ → ℕ → ℕ → ℕ → Above → StateSets → ℕ → ℕ → ℕ → Bool
proves_own t S A O levels above s person i X =
    proves_by t (λ goals. shares (proves t S A O levels above s) O goals X) (ends t A s X) (goal_at t person i) (suc i)

-- what kind 3 asks, by places, where the principal at j is the middle
abbrev pub link_pairs : List ℕ → ℕ → ℕ → ℕ → List Pair
link_pairs index person i j =
    pair j (get_or index (asked_cell i 0) 0) ∷ pair person (get_or index (link_cell i j) 0) ∷ []

-- where a test says which goals are proved, by places: the principal at j is a middle with which credential i + 1 proves its goal
abbrev pub middle_tried : List ℕ → List ℕ → (Pair → ℕ → Bool) → ℕ → ℕ → ℕ → ℕ → ℕ → Bool
middle_tried t index at O person i X = λ j. is_person t j and shares at O (link_pairs index person i j) X

-- where nothing is owed: the principal is not in role k of those that credential i + 1 asks
abbrev pub part_missed : List ℕ → (ℕ → ℕ → Bool) → ℕ → ℕ → ℕ → Bool
part_missed index at person i = λ k. not (at person (get_or index (asked_cell i k) 0))

-- the roles that credential i + 1 asks, and what kind 3 asks of the principal where the middle stands at j
abbrev pub part_role : List ℕ → ℕ → ℕ → Role
part_role t i k = padded (roles_asked t (credential t (suc i))) k

abbrev pub linked_role : List ℕ → ℕ → ℕ → Role
linked_role t i j = role (credential t (suc j)).first (credential t (suc i)).second

-- what kind 3 asks of a middle
pub linking-role : (t : List ℕ) (c : ℕ) → (credential t c).kind ≡ 3 → padded (roles_asked t (credential t c)) 0 ≡ middle_role t c
unfolding roles_asked padded pick
linking-role t c three = rw three

-- what a credential proves, cell by cell of the index: the search for each goal that it asks, by places
module _ {t index arcs rows : List ℕ} {S levels last : ℕ} (searched : Searchable t index arcs rows S levels last) {person i : ℕ}
    (tried : Tried t person i) where
  pub part-cell : ((credential t (suc i)).kind ≡ 2) ⊎ ((credential t (suc i)).kind ≡ 4) → (k : ℕ) → k < 4
      → get_or index (asked_cell i k) 0 ≡ role_at t (part_role t i k)
  part-cell kind k l =
      searched.indexed.asked i k tried.there l (λ one. ⊎_elim (λ two. omega arith) (λ four. omega arith) kind)

  pub first_cell : (credential t (suc i)).kind ≡ 3 → get_or index (asked_cell i 0) 0 ≡ role_at t (part_role t i 0)
  first_cell kind = searched.indexed.asked i 0 tried.there (omega arith) (λ one. omega arith)

  pub second-cell : (credential t (suc i)).kind ≡ 3 → (j : ℕ) → j < credentials t → is_person t j ≡ true
      → get_or index (link_cell i j) 0 ≡ role_at t (linked_role t i j)
  second-cell kind j l middle = searched.indexed.linked i j tried.there l kind (is-person t j middle).0

  pub numbered : Numbered (credentials t) (suc i)
  numbered = record { first = omega arith; last = omega (arith, tried.there) }

  pub own : same_role (credential t (suc i)).role (goal_at t person i).role ≡ true
  unfolding same_role
  own =
      and_both (eq-eqb (credential t (suc i)).role.owner.0 _ refl) (eq-eqb (credential t (suc i)).role.name.0 _ refl)

  module _ (A O : ℕ) (above : Above) (s : StateSets) where
    abbrev one : Goal → ℕ → Bool
    one = proves t S A O levels above s

    abbrev found : Pair → ℕ → Bool
    found = λ (p : Pair) Y. proves_at t S A O levels above s p.person p.place Y

    abbrev all : ℕ → List Goal → Bool
    all X = λ goals. shares one O goals X

    -- kind 1: it names the principal at `person`
    pub cell-named : (X : ℕ) → (credential t (suc i)).kind ≡ 1
        → proves_own t S A O levels above s person i X ≡ (eqb (get_or index (asked_cell i 0) 0) person and ends t A s X)
    cell-named X kind =
        by-membership t searched.well_formed (all X) (ends t A s X) (goal_at t person i) (suc i) numbered own kind
        ∙ ap (λ b. b and ends t A s X) (same_test _ _ to from)
      where
        at : get_or index (asked_cell i 0) 0 ≡ person_at t (credential t (suc i)).first
        at = searched.indexed.named i tried.there kind

        to : eqb (credential t (suc i)).first (credential t (suc person)).first ≡ true
            → eqb (get_or index (asked_cell i 0) 0) person ≡ true
        to e =
            let same = eqb-true (credential t (suc i)).first _ e in
            eq-eqb _ _ (at ∙ ap (person_at t) same ∙ (is-person t person tried.named).1)

        from : eqb (get_or index (asked_cell i 0) 0) person ≡ true
            → eqb (credential t (suc i)).first (credential t (suc person)).first ≡ true
        from e =
            let same = sym at ∙ eqb-true _ person e in
            let stands = person-stands t (credential t (suc i)).first (rw same tried.who) in
            eq-eqb _ _ (sym stands.1 ∙ ap (λ k. (credential t (suc k)).first) same)

    -- goals that stand at places share as these do
    roles-share : (roles : List Role) (k : ℕ)
        → ((n : ℕ) → n < length roles → get_or index (asked_cell i (k + n)) 0 ≡ role_at t (padded roles n)) → (X : ℕ)
        → shares one O (map (λ (r : Role). goal (principal (credential t (suc person)).first) r) roles) X
        ≡ shares found O (role_pairs index person i (length roles) k) X
    unfolding shares role_pairs padded
    roles-share [] k at X = refl
    roles-share (r ∷ roles) k at X =
        any_same _ _ (suc O) (λ Y l.
        ap₂ ◌and◌
        (sym (ap (λ x. proves_at t S A O levels above s person x Y) (rw (add-zero k) at (at 0 (omega arith)) ∙ ap (role_at t) (first roles))
        ∙ proves-at t S A O levels above s person r Y))
        (any_same _ _ (suc O) (λ Z m. ap (λ b. b and part X (bit_or Y Z))
        (roles-share roles (suc k) (λ n few. next roles n few (at (suc n) (omega arith))) Z))))
      where
        first : (roles : List Role) → padded (r ∷ roles) 0 ≡ r
        first [] = refl
        first (q ∷ roles) = refl

        next : (roles : List Role) (n : ℕ) → n < length roles → get_or index (asked_cell i (k + suc n)) 0 ≡ role_at t (padded (r ∷ roles) (suc n))
            → get_or index (asked_cell i (suc k + n)) 0 ≡ role_at t (padded roles n)
        next [] n few e = absurd (omega arith)
        next (q ∷ roles) n few e = let same : suc k + n ≡ k + suc n = omega arith in rw same e

    -- kinds 2 and 4: the principal is in each role that it asks
    pub cell-roles : (X : ℕ) → ((credential t (suc i)).kind ≡ 2) ⊎ ((credential t (suc i)).kind ≡ 4)
        → proves_own t S A O levels above s person i X
        ≡ shares found O (role_pairs index person i (length (roles_asked t (credential t (suc i)))) 0) X
    cell-roles X kind =
        let few = (roles-few t searched.well_formed (suc i) numbered kind).1 in
        by-roles t searched.well_formed (all X) (ends t A s X) (goal_at t person i) (suc i) numbered own kind
        ∙ roles-share (roles_asked t (credential t (suc i))) 0
        (λ n l. rw (zero-add n) (part-cell kind n (omega arith))) X

    -- kind 3: with a middle that stands at j, and with some middle
    pub cell-middle : (X : ℕ) → (credential t (suc i)).kind ≡ 3 → (j : ℕ) → j < credentials t
        → (is_person t j and all X (middle_goals t (goal_at t person i) (suc i) j)) ≡ middle_tried t index found O person i X j
    unfolding shares
    cell-middle X kind j l = go (is_person t j) refl
      where
        go : (b : Bool) → is_person t j ≡ b
            → (is_person t j and all X (middle_goals t (goal_at t person i) (suc i) j)) ≡ middle_tried t index found O person i X j
        go true e =
            let first = ap (role_at t) (sym (linking-role t (suc i) kind)) ∙ sym (first_cell kind) in
            ap (λ b. is_person t j and b)
            (any_same _ _ (suc O) (λ Y m. ap₂ ◌and◌
            (sym (proves-at t S A O levels above s j (middle_role t (suc i)) Y)
            ∙ ap (λ x. proves_at t S A O levels above s j x Y) first)
            (any_same _ _ (suc O) (λ Z m'. ap (λ b. b and part X (bit_or Y Z))
            (any_same _ _ (suc O) (λ W m''. ap (λ b. b and any_below (λ U. eqb U 0 and part Z (bit_or W U)) (suc O))
            (sym (proves-at t S A O levels above s person (linked_role t i j) W)
            ∙ ap (λ x. proves_at t S A O levels above s person x W) (sym (second-cell kind j l e)))))))))
        go false e = and-is-off _ e ∙ sym (and-is-off _ e)

    pub cell-middles : (X : ℕ) → (credential t (suc i)).kind ≡ 3
        → proves_own t S A O levels above s person i X ≡ any_below (middle_tried t index found O person i X) (credentials t)
    cell-middles X kind =
        by-goals t searched.well_formed (all X) (ends t A s X) (goal_at t person i) (suc i) numbered own kind
        ∙ any_same _ _ (credentials t) (cell-middle X kind)

    -- a part whose mask has not the principal is not proved
    pub part-unlisted : (X : ℕ) → ((credential t (suc i)).kind ≡ 2) ⊎ ((credential t (suc i)).kind ≡ 4) → (k : ℕ) → k < 4
        → in_set (get_or rows (row_cell (lesser levels last) (get_or index (asked_cell i k) 0)) 0) person ≡ false
        → proves_at t S A O levels above s person (get_or index (asked_cell i k) 0) X ≡ false
    part-unlisted X kind k l =
        unlisted-at t S A O searched.members above s person _ (part_role t i k) X tried.named (part-cell kind k l)

    -- a middle is tried where the masks have both
    pub middle-unlisted : (X : ℕ) → (credential t (suc i)).kind ≡ 3 → (j : ℕ) → j < credentials t
        → (in_set (get_or rows (row_cell (lesser levels last) (get_or index (asked_cell i 0) 0)) 0) j
        and in_set (get_or rows (row_cell (lesser levels last) (get_or index (link_cell i j) 0)) 0) person and is_person t j) ≡ false
        → middle_tried t index found O person i X j ≡ false
    middle-unlisted X kind j l off = go (is_person t j) refl (in_set (mask (get_or index (asked_cell i 0) 0)) j) refl
      where
        mask : ℕ → ℕ
        mask place = get_or rows (row_cell (lesser levels last) place) 0

        go : (b : Bool) → is_person t j ≡ b → (a : Bool) → in_set (mask (get_or index (asked_cell i 0) 0)) j ≡ a
            → middle_tried t index found O person i X j ≡ false
        go false e a f = and-is-off _ e
        go true e false f =
            and_none (is_person t j) (first-unshared found O _ _ X
            (λ Y. unlisted-at t S A O searched.members above s j _ (part_role t i 0) Y e (first_cell kind) f))
        go true e true f =
            let second = in_set (mask (get_or index (link_cell i j) 0)) person in
            let missing = sym (and_is f (ap (λ b. second and b) e ∙ and-true second)) ∙ off in
            and_none (is_person t j) (second-unshared found O _ _ X
            (λ Y. unlisted-at t S A O searched.members above s person _ (linked_role t i j) Y tried.named
            (second-cell kind j l e) missing))

    -- whatever is to be met, each role is proved
    pub own-part : (X : ℕ) → ((credential t (suc i)).kind ≡ 2) ⊎ ((credential t (suc i)).kind ≡ 4)
        → proves_own t S A O levels above s person i X ≡ true → (k : ℕ) → k < 4
        → proves_at t S A O levels above s person (get_or index (asked_cell i k) 0) 0 ≡ true
    own-part X kind h k l =
        let each = all-by-mono (all X) (every_goal (λ g. one g 0))
        (λ goals. shares_each one O (λ g. one g 0) (λ g Y. proves-less t S A O levels above s g Y 0 (part-zero Y)) goals X)
        (ends t A s X) true (λ e. refl) t (goal_at t person i) (suc i) h in
        ap (λ x. proves_at t S A O levels above s person x 0) (part-cell kind k l)
        ∙ proves-at t S A O levels above s person (part_role t i k) 0
        ∙ each_part t searched.well_formed (λ g. one g 0) true (goal_at t person i) (suc i) numbered own each kind k l

  -- where nothing is owed, kinds 2 and 4 by each role alone
  module _ (A O : ℕ) (zero : O ≡ 0) (above : Above) (s : StateSets) where
    abbrev alone : ℕ → ℕ → Bool
    alone p r = proves_at t S A O levels above s p r 0

    all_same : proves_own t S A O levels above s person i 0
        ≡ proves_by t (every_goal (λ g. proves t S A O levels above s g 0)) (ends t A s 0) (goal_at t person i) (suc i)
    all_same = rw zero (every-by (proves t S A 0 levels above s) (ends t A s 0) t (goal_at t person i) (suc i))

    pub cell_parts : ((credential t (suc i)).kind ≡ 2) ⊎ ((credential t (suc i)).kind ≡ 4)
        → proves_own t S A O levels above s person i 0 ≡ not (any_below (part_missed index alone person i) 4)
    cell_parts kind =
        all_same
        ∙ by_parts t searched.well_formed (λ g. proves t S A O levels above s g 0) (ends t A s 0) (goal_at t person i) (suc i)
        numbered own kind
        ∙ ap not (any_same _ _ 4 (λ k l. ap not
        (sym (proves-at t S A O levels above s person (part_role t i k) 0) ∙ ap (alone person) (sym (part-cell kind k l)))))

-- a credential of no known kind proves nothing
pub proved-some : (all : List Goal → Bool) (word : Bool) (asked : Option (List Goal)) → proved_premises all word asked ≡ true
    → (goals : List Goal) × (asked ≡ some goals)
unfolding proved_premises
proved-some all word none h = absurd (false-true h)
proved-some all word (some goals) h = (goals, refl)

-- credential i + 1 has been read as x
module _ (t : List ℕ) (i : ℕ) (x : Credential) (read : x ≡ credential t (i + 1)) where
  same_kind : x.kind ≡ (credential t (suc i)).kind
  same_kind = ap (λ (y : Credential). y.kind) (read ∙ ap (credential t) (add-one i))

  pub kind-read : (k : ℕ) → x.kind ≡ k → (credential t (suc i)).kind ≡ k
  kind-read k e = sym same_kind ∙ e

  pub kind-other : (all : List Goal → Bool) (word : Bool) (g : Goal) → (x.kind ≡ 1 → ⊥) → (x.kind ≡ 2 → ⊥) → (x.kind ≡ 3 → ⊥)
      → (x.kind ≡ 4 → ⊥) → false ≡ proves_by t all word g (suc i)
  unfolding proves_by pick
  kind-other all word g n1 n2 n3 n4 =
      rw (ne_eqb (credential t (suc i)).kind 3 (λ three. n3 (same_kind ∙ three)))
      (sym (refuted _ (λ h.
      let (goals, applies) = proved-some all word (premises t g (suc i) 0) h in
      by-rule goals (rule-applied t g (suc i) 0 goals applies))))
    where
      by-rule : (goals : List Goal) → Rule t g (credential t (suc i)) 0 goals → ⊥
      by-rule goals (membership one named z e) = n1 (same_kind ∙ one)
      by-rule goals (containment two z e) = n2 (same_kind ∙ two)
      by-rule goals (linking three range e) = n3 (same_kind ∙ three)
      by-rule goals (intersection four z e) = n4 (same_kind ∙ four)

-- an accepted table has at most 20 credentials
pub below-most : {t : List ℕ} → WellFormed t → (i : ℕ) → i < credentials t → i < 20
below-most wf i l = omega (arith, wf.sized.counted.few_credentials)

pub most : {t : List ℕ} → WellFormed t → (i : ℕ) → i ≤ credentials t → i ≤ 20
most wf i l = omega (arith, wf.sized.counted.few_credentials)

pub row_fits : {t rows : List ℕ} {S levels last row : ℕ} → Members t S levels last rows → row ≡ lesser levels last → row ≤ 16
row_fits {levels = levels} {last = last} {row = row} members e = row_within levels last row e members.few
