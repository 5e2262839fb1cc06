-- The steps of the search's loops, over plain variables: from credential to credential, from part to part, from middle to middle.
use mathlib.Core.Path.{◌≡◌, refl, sym, ap, ap₂, ◌∙◌}
use mathlib.Core.List.{List, ◌∷◌, []}
use mathlib.Core.Bool.{Bool, true, false, not}
use mathlib.Core.Logic.{◌⊎◌}
use Prim.Native.Nat.{ℕ, zero, suc, ◌+◌, ◌-◌, ◌<◌}
use native.Mathlib.Omega.{arith}
use native.Mathlib.Numerals.{add-one, sub-one}
use lib.ListN.{get_or}
use lib.Bits.{bit_and, bit_or}
use lib.Dec.{eqb}
use borrow.Author.Tests.{eq-eqb, eqb-true, lt-ltb}
use Rattle.sets.specs.Logic.{◌and◌, ◌or◌, any_below}
use Rattle.sets.specs.Sets.{in_set}
use Rattle.sets.proofs.Tests.{and_both, and_is, and-is-off, and_second, any-all, any_next, any-not, any-reached, any-shows}
use Rattle.sets.proofs.Tests.{failed, false-true, or-false, refuted, same_test}
use Rattle.sets.proofs.Members.{in_set-and}
use Rattle.table.specs.Layout.{credential, credentials, principal, same_role}
use Rattle.table.specs.declared.Goal.{Goal}
use Rattle.automata.specs.declared.StateSets.{StateSets}
use Rattle.derivation.specs.Rules.{goal}
use Rattle.members.specs.Places.{is_person, role_at}
use Rattle.members.specs.Above.{is_above, pair_above, with_goal, with_pair}
use Rattle.members.specs.Trying.{may_use, proves_by}
use Rattle.members.specs.Members.{Indexed, asked_cell, lesser, link_cell, role_cell, row_cell}
use Rattle.masks.specs.Masks.{asked_mask, asked_members}
use Rattle.members.proofs.Places.{is-person, place_same, same_place}
use Rattle.goals.specs.Goals.{asked_before, stepped, usable}
use Rattle.search.proofs.Placing.{cell_parts, first_cell, linked_role, middle-unlisted, middle_tried, own-part, part-cell}
use Rattle.search.proofs.Placing.{part-unlisted, part_missed, part_role, proves_own, second-cell, stands_at}
use Rattle.members.specs.declared.above.Above.{Above}
use Rattle.search.specs.Asking.{pair}
use Rattle.search.specs.declared.asking.Pair.{Pair}
use Rattle.search.specs.Search.{Searchable, Stands, Tried, ends, goal_at, proves, proves_at, proves_with, shares}
use Rattle.search.specs.Failing.{any_test}

-- levels are left: the goal is decided one level further down
step_down : (t : List ℕ) (S A O levels : ℕ) (above : Above) (s : StateSets) (g : Goal) (X : ℕ) → (levels ≡ 0 → ⊥)
    → let below = stepped t (bit_or A O) g.role s in
    let one = proves t S A O (levels - 1) (with_goal t above g) below in
    (not (is_above t above g)
    and any_below (proves_with t S (λ goals. shares one O goals X) (ends t A below X) g) (credentials t))
    ≡ proves t S A O levels above s g X
unfolding proves
step_down t S A O zero above s g X left = absurd (left refl)
step_down t S A O (suc l) above s g X left = rw (sub-one (suc l))

module _ (t : List ℕ) (S A O levels : ℕ) (above : Above) (s : StateSets) (person place X : ℕ) (stands : Stands t person place)
    (there : place < credentials t) (left : levels ≡ 0 → ⊥) where
  pub place-step : (not (pair_above above person place)
      and any_test t S A O (levels - 1) (stepped t (bit_or A O) (credential t (suc place)).role s) person place X
      (with_pair above person place))
      ≡ proves_at t S A O levels above s person place X
  unfolding proves_at ◌and◌ proves is_above with_goal
  place-step =
      rw (lt-ltb place (credentials t) there)
      (rw (stands.first there, (is-person t person stands.named).1) at
      (step_down t S A O levels above s (goal_at t person place) X left))

  pub place-again : pair_above above person place ≡ true → false ≡ proves_at t S A O levels above s person place X
  place-again again = sym (and-is-off _ (ap not again)) ∙ place-step

-- credential i + 1 may be used for the role at a place if it is allowed and defines the role
module _ {t index : List ℕ} (indexed : Indexed t index) {person place : ℕ} (stands : Stands t person place)
    (there : place < credentials t) (S i : ℕ) (l : i < credentials t) where
  cell : get_or index (role_cell i) 0 ≡ role_at t (credential t (suc i)).role
  cell = indexed.defined i l

  at : role_at t (credential t (suc place)).role ≡ place
  at = stands.first there

  same-role : eqb (get_or index (role_cell i) 0) place ≡ true → (credential t (suc i)).role ≡ (credential t (suc place)).role
  same-role e =
      let places = sym cell ∙ eqb-true _ _ e ∙ sym at in
      place_same t _ _ places (rw (places, at) there)

  same_at : same_role (credential t (suc i)).role (credential t (suc place)).role ≡ eqb (get_or index (role_cell i) 0) place
  unfolding same_role
  same_at =
      same_test _ _ (λ same. eq-eqb _ _ (cell ∙ same_place t _ _ same ∙ at)) (λ e.
      let r = (credential t (suc place)).role in
      rw (same-role e) (and_both (eq-eqb r.owner.0 _ refl) (eq-eqb r.name.0 _ refl)))

  pub usable-is : usable index S place i ≡ may_use t S (goal_at t person place) (suc i)
  unfolding usable may_use
  usable-is = rw (sub-one (suc i), same_at)

  pub usable-role : usable index S place i ≡ true → (credential t (suc i)).role ≡ (credential t (suc place)).role
  unfolding usable
  usable-role on = same-role (and_second _ _ on)

  -- and it proves the goal, or not
  module _ (all : List Goal → Bool) (word : Bool) {may : Bool} (told : may ≡ usable index S place i) where
    abbrev tried : ℕ → Bool
    tried = proves_with t S all word (goal_at t person place)

    pub next-unused : may ≡ false → any_below tried (i + 1) ≡ any_below tried i
    unfolding any_below
    next-unused off =
        rw (add-one i) (ap (λ b. any_below tried i or b) (and-is-off _ (sym usable-is ∙ sym told ∙ off)) ∙ or-false _)

    -- it may be used: one more is tried
    pub next-tried : may ≡ true
        → any_below tried (i + 1) ≡ (any_below tried i or proves_by t all word (goal_at t person i) (suc i))
    unfolding any_below
    next-tried on =
        rw (add-one i) (ap (λ b. any_below tried i or b)
        (and_is (sym usable-is ∙ sym told ∙ on)
        (ap (λ r. proves_by t all word (goal (principal (credential t (suc person)).first) r) (suc i))
        (sym (usable-role (sym told ∙ on))))))

-- one of four tests fails
missed : (p : ℕ → Bool) → ((p 0 and p 1) and (p 2 and p 3)) ≡ false → (k : ℕ) × (k < 4) × (p k ≡ false)
missed p off = go (p 0) (p 1) (p 2) refl refl refl
  where
    go : (a b c : Bool) → p 0 ≡ a → p 1 ≡ b → p 2 ≡ c → (k : ℕ) × (k < 4) × (p k ≡ false)
    go false b c e f g = (0, omega arith, e)
    go true false c e f g = (1, omega arith, f)
    go true true false e f g = (2, omega arith, g)
    go true true true e f g = (3, omega arith, sym (and_is (and_both e f) (and_is g refl)) ∙ off)

-- whoever is not in all four masks is missing in one of them
mask-missed : (index rows : List ℕ) (level i person : ℕ) → in_set (asked_members index rows level i) person ≡ false
    → (k : ℕ) × (k < 4) × (in_set (asked_mask index rows level i k) person ≡ false)
unfolding asked_members
mask-missed index rows level i person off =
    let a = asked_mask index rows level i 0 in
    let b = asked_mask index rows level i 1 in
    let c = asked_mask index rows level i 2 in
    let d = asked_mask index rows level i 3 in
    let each = in_set-and (bit_and a b) (bit_and c d) person ∙ ap₂ ◌and◌ (in_set-and a b person) (in_set-and c d person) in
    missed (λ k. in_set (asked_mask index rows level i k) person) (sym each ∙ off)

-- from part to part: the roles that a credential of kind 2 or 4 asks have places, and what is found of them decides what it
-- proves
module _ {t index arcs rows : List ℕ} {S levels last : ℕ} (searched : Searchable t index arcs rows S levels last) {person i : ℕ}
    (tried : Tried t person i) (kind : ((credential t (suc i)).kind ≡ 2) ⊎ ((credential t (suc i)).kind ≡ 4)) where
  pub stands-part : (k : ℕ) → k < 4 → (place : ℕ) → place ≡ get_or index (asked_cell i k) 0 → Stands t person place
  stands-part k l place e =
      rw (e, part-cell searched tried kind k l) (stands_at t person (part_role t i k) tried.who tried.named)

  -- who is not in all masks is not proved, whatever is to be met
  pub parts-unlisted : (A O : ℕ) (above : Above) (s : StateSets) (X : ℕ) {held : Bool}
      → held ≡ in_set (asked_members index rows (lesser levels last) i) person → held ≡ false
      → proves_own t S A O levels above s person i X ≡ false
  parts-unlisted A O above s X e off =
      let (k, l, missing) = mask-missed index rows (lesser levels last) i person (failed e off) in
      refuted _ (λ h.
      false-true (sym (part-unlisted searched tried A O above s 0 kind k l missing)
      ∙ own-part searched tried A O above s X kind h k l))

  -- where nothing is owed
  module _ (A O : ℕ) (zero : O ≡ 0) (above : Above) (s : StateSets) where
    abbrev misses : ℕ → Bool
    misses = part_missed index (λ p r. proves_at t S A O levels above s p r 0) person i

    pub part-failed : (k place : ℕ) → k < 4 → place ≡ get_or index (asked_cell i k) 0
        → proves_at t S A O levels above s person place 0 ≡ false → proves_own t S A O levels above s person i 0 ≡ false
    part-failed k place l read off =
        cell_parts searched tried A O zero above s kind
        ∙ ap not (any-reached _ 4 k l (ap not (sym (ap (λ x. proves_at t S A O levels above s person x 0) read) ∙ off)))

    pub all-proved : (k : ℕ) → k ≡ 4 → any_below misses k ≡ false → proves_own t S A O levels above s person i 0 ≡ true
    all-proved k e none = cell_parts searched tried A O zero above s kind ∙ ap not (any-all _ k 4 e none)

    pub part-proved : (k place : ℕ) → place ≡ get_or index (asked_cell i k) 0
        → proves_at t S A O levels above s person place 0 ≡ true → any_below misses k ≡ false → any_below misses (k + 1) ≡ false
    part-proved k place read on before =
        any_next misses k before (ap not (sym (ap (λ x. proves_at t S A O levels above s person x 0) read) ∙ on))

    -- a role that was asked before is proved with it
    pub part-repeated : (k : ℕ) → any_below misses k ≡ false → asked_before index i k ≡ true → any_below misses (k + 1) ≡ false
    unfolding asked_before
    part-repeated k before asked =
        let (j, l, same) = any-shows _ k asked in
        let cells = eqb-true (get_or index (asked_cell i j) 0) (get_or index (asked_cell i k) 0) same in
        any_next misses k before
        (sym (ap (λ place. not (proves_at t S A O levels above s person place 0)) cells) ∙ any-not misses k j before l)

-- credential i + 1, of kind 3, is tried with the principal at j as the middle: the row told whether both are in their roles
pub record Middle (t index arcs rows : List ℕ) (S levels last person i row j first second : ℕ) (told : Bool) : Type 0 where
  pub searched : Searchable t index arcs rows S levels last
  pub tried : Tried t person i
  pub kind : (credential t (suc i)).kind ≡ 3
  pub there : j < credentials t
  pub row_is : row ≡ lesser levels last
  pub first-is : first ≡ get_or index (asked_cell i 0) 0
  pub second_is : second ≡ get_or index (link_cell i j) 0
  pub told_is : told
      ≡ (in_set (get_or rows (row_cell row first) 0) j and in_set (get_or rows (row_cell row second) 0) person and is_person t j)

-- from middle to middle
module _ {t index arcs rows : List ℕ} {S levels last person i row j first second : ℕ} {told : Bool}
    (middle : Middle t index arcs rows S levels last person i row j first second told) where
  module _ (on : told ≡ true) where
    named : is_person t j ≡ true
    named = and_second _ _ (and_second _ _ (sym middle.told_is ∙ on))

    pub stands-first : Stands t j first
    stands-first =
        rw (middle.first-is, first_cell middle.searched middle.tried middle.kind)
        (stands_at t j (part_role t i 0) middle.there named)

    pub stands-second : Stands t person second
    stands-second =
        rw (middle.second_is, second-cell middle.searched middle.tried middle.kind j middle.there named)
        (stands_at t person (linked_role t i j) middle.tried.who middle.tried.named)

  module _ (A O : ℕ) (above : Above) (s : StateSets) (X : ℕ) where
    abbrev found : Pair → ℕ → Bool
    found = λ (p : Pair) Y. proves_at t S A O levels above s p.person p.place Y

    abbrev tries-middle : ℕ → Bool
    tries-middle = middle_tried t index found O person i X

    pub linked-skipped : told ≡ false → any_below tries-middle (j + 1) ≡ any_below tries-middle j
    unfolding any_below
    linked-skipped off =
        let none = rw (middle.row_is, middle.first-is, middle.second_is) at (sym middle.told_is ∙ off) in
        rw (add-one j) (ap (λ b. any_below tries-middle j or b)
        (middle-unlisted middle.searched middle.tried A O above s X middle.kind j middle.there none) ∙ or-false _)

    pub linked-tried : told ≡ true
        → any_below tries-middle (j + 1) ≡ (any_below tries-middle j or shares found O (pair j first ∷ pair person second ∷ []) X)
    unfolding any_below
    linked-tried on =
        rw (add-one j, middle.first-is, middle.second_is)
        (ap (λ b. any_below tries-middle j or b) (and_is (named on) refl))
