-- The masks that a step reads and makes: the mask that the code makes for credential i + 1 has just whom the credential proves by
-- the row of a level.
use mathlib.Core.Path.{◌≡◌, refl, sym, ap, ap₂, ◌∙◌}
use mathlib.Core.List.{List}
use mathlib.Core.Bool.{Bool, true, false, not}
use mathlib.Core.Logic.{◌⊎◌, inl, inr}
use Prim.Native.Nat.{ℕ, zero, suc, ◌+◌, ◌<◌, ◌≤◌}
use native.Mathlib.Omega.{arith}
use native.Mathlib.Numerals.{add-one}
use lib.ListN.{get_or}
use lib.Bits.{bit_and, bit_or}
use lib.Dec.{eqb}
use borrow.Author.Tests.{eq-eqb, lt-ltb, ltb-true, ne_eqb}
use Rattle.sets.specs.Logic.{◌and◌, ◌or◌, any_below, pick}
use Rattle.sets.specs.Sets.{in_set}
use Rattle.sets.proofs.Tests.{and_assoc, and_first, and_is, and-is-off, and_parts, and_second, any_same, any-shows, false-true}
use Rattle.sets.proofs.Tests.{or-false, refuted}
use Rattle.sets.proofs.Members.{in_set-and, in_set-or, in_set-zero}
use Rattle.table.specs.Limits.{most_credentials, most_parts}
use Rattle.table.specs.Layout.{credential, credentials, principal, role, same_role}
use Rattle.table.specs.Holding.{WellFormed}
use Rattle.table.specs.declared.Credential.{Credential}
use Rattle.table.specs.declared.Goal.{Goal}
use Rattle.table.specs.declared.Role.{Role}
use Rattle.table.proofs.WellFormed.{wf-credential}
use Rattle.derivation.specs.Rules.{goal}
use Rattle.derivation.proofs.Ruling.{by_kind}
use Rattle.members.specs.Places.{is_person, person_at, role_at}
use Rattle.members.specs.Trying.{every_goal, proves_by}
use Rattle.members.specs.Members.{Indexed, asked_cell, link_cell, listed, padded, roles_asked}
use Rattle.masks.specs.Masks.{asked_mask, asked_members, linked_members, mask, proved_members}
use Rattle.members.proofs.Reading.{kind-read, numbered}
use Rattle.members.proofs.Places.{is-person}
use Rattle.members.proofs.ByKind.{by-middles, by_parts, by_middle, four-tests, middle_at, middle_role, one-padded, repeated}
use Rattle.members.proofs.ByKind.{roles-3}

-- middle by middle, as the code makes them
module _ (index rows : List ℕ) (level i middles j found : ℕ) (so_far : found ≡ linked_members index rows level i middles j) where
  pub linked-more : (place : ℕ) → place ≡ get_or index (link_cell i j) 0 → in_set middles j ≡ true
      → bit_or found (mask rows level place) ≡ linked_members index rows level i middles (j + 1)
  unfolding linked_members pick
  linked-more place is inside = rw (add-one j, is, so_far, inside)

  pub linked-not : in_set middles j ≡ false → found ≡ linked_members index rows level i middles (j + 1)
  unfolding linked_members pick
  linked-not outside = rw (add-one j, so_far, outside)

-- the code has read credential i + 1 as x, and the masks as `asked` and `linked`
module _ (t index rows : List ℕ) (level i : ℕ) (x : Credential) (read : x ≡ credential t (i + 1)) where
  pub proved-asked : (asked : ℕ) → (x.kind ≡ 3 → ⊥) → asked ≡ asked_members index rows level i
      → asked ≡ proved_members t index rows level i
  unfolding proved_members pick
  proved-asked asked other is = rw (ne_eqb (credential t (suc i)).kind 3 (λ e. other (kind-read t i x read ∙ e))) is

  pub proved-linked : (asked linked : ℕ) → x.kind ≡ 3 → asked ≡ asked_members index rows level i
      → linked ≡ linked_members index rows level i asked (credentials t) → linked ≡ proved_members t index rows level i
  unfolding proved_members pick
  proved-linked asked linked three is made =
      rw (eq-eqb (credential t (suc i)).kind 3 (sym (kind-read t i x read) ∙ three)) (rw is at made)

-- only the level's row is read
module _ (index rows rows' : List ℕ) (level : ℕ) (small : (x : ℕ) → get_or index x 0 ≤ most_credentials)
    (same : (r : ℕ) → r ≤ most_credentials → mask rows' level r ≡ mask rows level r) where
  asked-same : (i : ℕ) → asked_members index rows' level i ≡ asked_members index rows level i
  unfolding asked_members
  asked-same i =
      rw (
        same _ (small (asked_cell i 0)),
        same _ (small (asked_cell i 1)),
        same _ (small (asked_cell i 2)),
        same _ (small (asked_cell i 3)),
      )

  linked-same : (i middles n : ℕ) → linked_members index rows' level i middles n ≡ linked_members index rows level i middles n
  unfolding linked_members
  linked-same i middles zero = refl
  linked-same i middles (suc n) = rw (linked-same i middles n, same _ (small (link_cell i n)))

  pub proved-same : (t : List ℕ) (i : ℕ) → proved_members t index rows' level i ≡ proved_members t index rows level i
  unfolding proved_members
  proved-same t i = rw (asked-same i, linked-same i (asked_members index rows level i) (credentials t))

-- whoever is in every role asked is in the mask, and nobody else
and-four : (a b c d s : ℕ)
    → in_set (bit_and (bit_and a b) (bit_and c d)) s ≡ (in_set a s and in_set b s and in_set c s and in_set d s)
and-four a b c d s =
    in_set-and (bit_and a b) (bit_and c d) s
    ∙ rw (in_set-and a b s, in_set-and c d s) (and_assoc (in_set a s) (in_set b s) (in_set c s and in_set d s))

module _ (index rows : List ℕ) (level i s : ℕ) where
  abbrev is_asked : ℕ → Bool
  is_asked k = in_set (asked_mask index rows level i k) s

  asked-and : in_set (asked_members index rows level i) s ≡ (is_asked 0 and is_asked 1 and is_asked 2 and is_asked 3)
  unfolding asked_members
  asked-and = and-four _ _ _ _ s

  asked_is : in_set (asked_members index rows level i) s ≡ not (any_below (λ k. not (is_asked k)) most_parts)
  unfolding any_below
  asked_is = asked-and ∙ sym (four-tests (is_asked 0) (is_asked 1) (is_asked 2) (is_asked 3))

  -- one role is asked four times
  asked-one : (x : Bool) → ((k : ℕ) → k < most_parts → is_asked k ≡ x) → in_set (asked_members index rows level i) s ≡ x
  asked-one x same =
      asked-and
      ∙ rw (
        same 0 (omega arith),
        same 1 (omega arith),
        same 2 (omega arith),
        same 3 (omega arith),
        repeated x,
        repeated x,
        repeated x,
      )

  asked-first : in_set (asked_members index rows level i) s ≡ true → is_asked 0 ≡ true
  asked-first h = and_first (is_asked 0) _ (sym asked-and ∙ h)

-- whoever is in the linked role of some middle, and nobody else
linked-is : (index rows : List ℕ) (level i middles s n : ℕ) → in_set (linked_members index rows level i middles n) s
    ≡ any_below (λ j. in_set middles j and in_set (mask rows level (get_or index (link_cell i j) 0)) s) n
unfolding linked_members any_below pick ◌and◌
linked-is index rows level i middles s zero = in_set-zero s
linked-is index rows level i middles s (suc n) = go (in_set middles n) (linked-is index rows level i middles s n)
  where
    before : ℕ
    before = linked_members index rows level i middles n

    here : ℕ
    here = mask rows level (get_or index (link_cell i n) 0)

    go : (b : Bool) {some : Bool} → in_set before s ≡ some
        → in_set (pick b (bit_or before here) before) s ≡ (some or (b and in_set here s))
    go true earlier = in_set-or before here s ∙ ap (λ x. x or in_set here s) earlier
    go false earlier = earlier ∙ sym (or-false _)

pub in_row : (t rows : List ℕ) (level : ℕ) (g : Goal) → listed t rows level g ≡ true
    → (person_at t g.principal.0 < credentials t)
    × (in_set (mask rows level (role_at t g.role)) (person_at t g.principal.0) ≡ true)
unfolding listed
in_row t rows level g h = and_parts (ltb-true _ (credentials t)) (λ inside. inside) h

pub listed-is : (t rows : List ℕ) (level : ℕ) (g : Goal) → person_at t g.principal.0 < credentials t
    → listed t rows level g ≡ in_set (mask rows level (role_at t g.role)) (person_at t g.principal.0)
unfolding listed
listed-is t rows level g there = and_is (lt-ltb _ _ there) refl

-- only principals are in the roles of a row
abbrev pub Persons : List ℕ → List ℕ → ℕ → Type 0
Persons t rows level =
    (r p : ℕ) → r ≤ most_credentials → in_set (mask rows level r) p ≡ true → (p < credentials t) × (is_person t p ≡ true)

-- whoever is proved to be in a role is in another of the level's row
pub proved-in-row : (t index rows : List ℕ) (level i p : ℕ) → ((x : ℕ) → get_or index x 0 ≤ most_credentials)
    → in_set (proved_members t index rows level i) p ≡ true → (r : ℕ) × (r ≤ most_credentials) × (in_set (mask rows level r) p ≡ true)
unfolding proved_members pick
proved-in-row t index rows level i p small h = go (eqb (credential t (suc i)).kind 3) h
  where
    asked : ℕ
    asked = asked_members index rows level i

    is_linked : ℕ → Bool
    is_linked j = in_set asked j and in_set (mask rows level (get_or index (link_cell i j) 0)) p

    go : (b : Bool) → in_set (pick b (linked_members index rows level i asked (credentials t)) asked) p ≡ true
        → (r : ℕ) × (r ≤ most_credentials) × (in_set (mask rows level r) p ≡ true)
    go true linked =
        let (j, l, both) =
        any-shows is_linked (credentials t) (sym (linked-is index rows level i asked p (credentials t)) ∙ linked) in
        (get_or index (link_cell i j) 0, small (link_cell i j), and_second _ _ both)
    go false inside = (get_or index (asked_cell i 0) 0, small (asked_cell i 0), asked-first index rows level i p inside)

-- the mask that the code makes for credential i + 1, which is no simple membership, has just whom it proves
module _ (t index rows : List ℕ) (wf : WellFormed t) (made : Indexed t index) (level : ℕ) (persons : Persons t rows level)
    (g : Goal) (i : ℕ) (there : i < credentials t) (own : same_role (credential t (suc i)).role g.role ≡ true)
    (other : (credential t (suc i)).kind ≡ 1 → ⊥) (named : person_at t g.principal.0 < credentials t) where
  abbrev who : ℕ
  who = person_at t g.principal.0

  abbrev roles : List Role
  roles = roles_asked t (credential t (suc i))

  asked-mask : (k s : ℕ) → k < most_parts
      → in_set (mask rows level (role_at t (padded roles k))) s ≡ in_set (asked_mask index rows level i k) s
  asked-mask k s l = rw (made.asked i k there l other)

  by-asked : ((credential t (suc i)).kind ≡ 2) ⊎ ((credential t (suc i)).kind ≡ 4) → ((credential t (suc i)).kind ≡ 3 → ⊥)
      → proves_by t (every_goal (listed t rows level)) true g (suc i) ≡ in_set (proved_members t index rows level i) who
  unfolding proved_members pick
  by-asked kind none =
      rw (ne_eqb (credential t (suc i)).kind 3 none)
      (by_parts t wf (listed t rows level) true g (suc i) (numbered there) own kind
      ∙ ap not (any_same (λ k. not (listed t rows level (goal g.principal (padded roles k))))
      (λ k. not (in_set (asked_mask index rows level i k) who)) most_parts
      (λ k l. ap not (listed-is t rows level (goal g.principal (padded roles k)) named ∙ asked-mask k who l)))
      ∙ sym (asked_is index rows level i who))

  -- kind 3 asks its one role of a middle, which must be a principal, and the linked one of the goal's principal
  module _ (three : (credential t (suc i)).kind ≡ 3) where
    asked-middle : (j : ℕ) → is_person t j ≡ true → j < credentials t
        → listed t rows level (goal (principal (middle_at t j)) (middle_role t (suc i))) ≡ in_set (asked_members index rows level i) j
    asked-middle j person l =
        let place = (is-person t j person).1 in
        let one = one-padded roles (middle_role t (suc i)) (roles-3 t (credential t (suc i)) three) in
        listed-is t rows level (goal (principal (middle_at t j)) (middle_role t (suc i))) (rw place l)
        ∙ rw place (sym (asked-one index rows level i j _ (λ k few. sym (asked-mask k j few) ∙ rw (one k))))

    by-middle : (j : ℕ) → j < credentials t → (b : Bool) → is_person t j ≡ b
        → (is_person t j and by_middle t (listed t rows level) g (suc i) j)
        ≡ (in_set (asked_members index rows level i) j and in_set (mask rows level (get_or index (link_cell i j) 0)) who)
    by-middle j l true person =
        and_is person
        (ap₂ (λ a b. a and b) (asked-middle j person l)
        (listed-is t rows level (goal g.principal (role (middle_at t j) (credential t (suc i)).second)) named
        ∙ rw (made.linked i j there l three (is-person t j person).0)))
    by-middle j l false nobody =
        let first = asked-first index rows level i j in
        and-is-off _ nobody
        ∙ sym (and-is-off _ (refuted _ (λ inside.
        false-true (sym nobody ∙ (persons _ j (made.placed.small (asked_cell i 0)) (first inside)).1))))

    by-linked : proves_by t (every_goal (listed t rows level)) true g (suc i) ≡ in_set (proved_members t index rows level i) who
    unfolding proved_members pick
    by-linked =
        let asked = asked_members index rows level i in
        rw (eq-eqb (credential t (suc i)).kind 3 three)
        (by-middles t wf (listed t rows level) true g (suc i) (numbered there) own three
        ∙ any_same (λ j. is_person t j and by_middle t (listed t rows level) g (suc i) j)
        (λ j. in_set asked j and in_set (mask rows level (get_or index (link_cell i j) 0)) who) (credentials t)
        (λ j l. by-middle j l (is_person t j) refl)
        ∙ sym (linked-is index rows level i asked who (credentials t)))

  pub proved-is : proves_by t (every_goal (listed t rows level)) true g (suc i)
      ≡ in_set (proved_members t index rows level i) (person_at t g.principal.0)
  proved-is =
      let known = (wf-credential t wf (suc i) (numbered there)).kind in
      by_kind (credential t (suc i)).kind (λ one. absurd (other one)) (λ two. by-asked (inl two) (λ e. omega arith)) by-linked
      (λ four. by-asked (inr four) (λ e. omega arith))
      (λ h1 h2 h3 h4. absurd (omega (arith, known.first, known.last)))
