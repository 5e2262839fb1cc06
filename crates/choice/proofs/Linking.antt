-- The middles of a credential of kind 3: those whom the table of members has, and of them the one of the least number.
use mathlib.Core.Path.{◌≡◌, refl, sym, ap, ◌∙◌}
use mathlib.Core.List.{List, [], ◌∷◌}
use mathlib.Core.Bool.{Bool, true, false, not}
use Prim.Native.Nat.{ℕ, suc, ◌+◌, ◌-◌, ◌^◌, ◌<◌, ◌≤◌}
use native.Mathlib.Omega.{arith}
use native.Mathlib.Decide.{ℕ_discrete}
use native.Mathlib.Numerals.{add-one}
use lib.ListN.{get_or}
use lib.Bits.{bit_and, bit_or, bit_xor}
use lib.Dec.{leb, ltb}
use borrow.Author.Tests.{eq-eqb, le-leb, leb-false, leb-true, lt-leb, lt-ltb, ltb-false, ltb-true, not-false, not-true}
use Rattle.sets.specs.Logic.{◌and◌, ◌or◌, any_below, pick}
use Rattle.sets.specs.Sets.{in_set}
use Rattle.sets.proofs.Tests.{and_both, and_first, and_is, and-is-off, and_none, and_second, any_none, any_same, any-shows}
use Rattle.sets.proofs.Tests.{false-true, or-first, refuted}
use Rattle.sets.proofs.Members.{below-members, in_set-zero, members-below, one_only, part-le, part-member, part-zero, set_more}
use Rattle.sets.proofs.Members.{set_of-members}
use Rattle.sets.proofs.Without.{one-is, part-fails, without_other, without-own, without-part}
use Rattle.families.specs.Families.{FamilyOf, all_sets, in_family, joins}
use Rattle.families.specs.declared.Family.{Family}
use Rattle.table.specs.Layout.{credential, credentials}
use Rattle.table.specs.declared.Credential.{Credential}
use Rattle.table.specs.declared.Goal.{Goal}
use Rattle.automata.specs.declared.StateSets.{StateSets}
use Rattle.members.specs.Places.{is_person}
use Rattle.members.specs.Members.{asked_cell, lesser, link_cell, row_cell}
use Rattle.members.specs.Trying.{proves_by}
use Rattle.members.specs.declared.above.Above.{Above}
use Rattle.members.proofs.Reading.{numbered}
use Rattle.members.proofs.ByKind.{with-goals}
use Rattle.search.specs.Asking.{pair}
use Rattle.search.specs.declared.asking.Pair.{Pair}
use Rattle.search.specs.Failing.{FoundBelow, goal_test}
use Rattle.search.specs.Search.{Searchable, Stands, Tried, goal_at, proves, proves_at}
use Rattle.search.proofs.Sharing.{first-unshared}
use Rattle.search.proofs.Judging.{no-sets, none-covered}
use Rattle.search.proofs.Placing.{cell-middle, first_cell, link_pairs, linked_role, middle-unlisted, own, part_role, second-cell}
use Rattle.search.proofs.Placing.{stands_at}
use Rattle.choice.specs.Choice.{LeastMiddle, LeastNamed, Wanted, comes_before, ends_well, leads, listed_middles, suits}
use Rattle.choice.proofs.Wanting.{meets-wanted, pair-less, told-alone, told_here, told-joined}

le_refl : (x : ℕ) → x ≤ x
le_refl x = omega arith

pub some-least : (x : ℕ) → (x ≡ 0 → ⊥) → 1 ≤ x
some-least x some = omega arith

-- credential j + 1 and another have been read as one and other
module _ (t : List ℕ) (j best : ℕ) where
  pub before-none : credentials t ≤ best → true ≡ comes_before t j best
  unfolding comes_before
  before-none beyond = sym (or-first _ (le-leb _ _ beyond))

  pub before-told : best < credentials t → (one other : Credential) → one ≡ credential t (j + 1) → other ≡ credential t (best + 1)
      → ltb one.first other.first ≡ comes_before t j best
  unfolding comes_before ◌or◌
  before-told there one other read read' =
      rw (lt-leb (credentials t) best there, ← add-one j, ← add-one best, read, read')

-- of the places below j that are in the set the one at `best` has the least number, where there are any
pub record NamedTo (t : List ℕ) (places j best : ℕ) : Type 0 where
  pub few : best ≤ credentials t
  pub member : best < credentials t → in_set places best ≡ true
  pub least : (k : ℕ) → k < j → in_set places k ≡ true
      → (best < credentials t) × ((credential t (suc best)).first ≤ (credential t (suc k)).first)

module _ (t : List ℕ) (places : ℕ) where
  pub named_none : (n : ℕ) → n ≡ credentials t → NamedTo t places 0 n
  named_none n e =
      record { few = omega arith; member = λ l. absurd (omega arith); least = λ k l. absurd (omega arith) }

  module _ (j best : ℕ) (so_far : NamedTo t places j best) where
    pub named-out : in_set places j ≡ false → NamedTo t places (j + 1) best
    named-out out = record { few = so_far.few; member = so_far.member; least = λ k l. go k l (ℕ_discrete k j) }
      where
        go : (k : ℕ) → k < j + 1 → Dec (k ≡ j) → in_set places k ≡ true
            → (best < credentials t) × ((credential t (suc best)).first ≤ (credential t (suc k)).first)
        go k l (yes e) inside = absurd (false-true (sym out ∙ sym (ap (in_set places) e) ∙ inside))
        go k l (no e) inside = so_far.least k (omega arith) inside

    pub named-kept : comes_before t j best ≡ false → NamedTo t places (j + 1) best
    unfolding comes_before ◌or◌
    named-kept off = record { few = so_far.few; member = so_far.member; least = λ k l. go k l (ℕ_discrete k j) }
      where
        here : (b : Bool) → leb (credentials t) best ≡ b
            → (b or ltb (credential t (suc j)).first (credential t (suc best)).first) ≡ false
            → (best < credentials t) × ((credential t (suc best)).first ≤ (credential t (suc j)).first)
        here true e h = absurd (false-true (sym h))
        here false e h = (leb-false _ _ e, ltb-false _ _ h)

        go : (k : ℕ) → k < j + 1 → Dec (k ≡ j) → in_set places k ≡ true
            → (best < credentials t) × ((credential t (suc best)).first ≤ (credential t (suc k)).first)
        go k l (yes e) inside = rw e (here (leb (credentials t) best) refl off)
        go k l (no e) inside = so_far.least k (omega arith) inside

    pub named_here : j < credentials t → in_set places j ≡ true → comes_before t j best ≡ true → NamedTo t places (j + 1) j
    unfolding comes_before ◌or◌
    named_here there inside on = record { few = omega arith; member = λ l. inside; least = λ k l. go k l (ℕ_discrete k j) }
      where
        older : (k : ℕ) → (best < credentials t) × ((credential t (suc best)).first ≤ (credential t (suc k)).first)
            → (b : Bool) → leb (credentials t) best ≡ b
            → (b or ltb (credential t (suc j)).first (credential t (suc best)).first) ≡ true
            → (credential t (suc j)).first ≤ (credential t (suc k)).first
        older k (l, le) true e h = absurd (omega (arith, l, leb-true (credentials t) best e))
        older k (l, le) false e h = omega (arith, le, ltb-true (credential t (suc j)).first (credential t (suc best)).first h)

        go : (k : ℕ) → k < j + 1 → Dec (k ≡ j) → in_set places k ≡ true
            → (j < credentials t) × ((credential t (suc j)).first ≤ (credential t (suc k)).first)
        go k l (yes e) m = (there, rw e (le_refl (credential t (suc j)).first))
        go k l (no e) m = (there, older k (so_far.least k (omega arith) m) (leb (credentials t) best) refl on)

-- whom the row has, principal by principal; the cells have been read as first and second
module _ (t index rows : List ℕ) (row person i j found first second : ℕ)
    (so_far : found ≡ listed_middles t index rows row person i j) (read : first ≡ get_or index (asked_cell i 0) 0)
    (read' : second ≡ get_or index (link_cell i j) 0) {told : Bool}
    (e : told
    ≡ (in_set (get_or rows (row_cell row first) 0) j and in_set (get_or rows (row_cell row second) 0) person and is_person t j)) where
  pub listed_more : told ≡ true → bit_or found (2 ^ j) ≡ listed_middles t index rows row person i (j + 1)
  unfolding listed_middles
  listed_more on = set_more _ found j so_far (rw (read, read') at (sym e ∙ on))

-- credential i + 1, of kind 3, with the principal at j as the middle
module _ {t index arcs rows : List ℕ} {S levels last : ℕ} (searched : Searchable t index arcs rows S levels last) {person i : ℕ}
    (tried : Tried t person i) (kind : (credential t (suc i)).kind ≡ 3) {j : ℕ} (there : j < credentials t)
    (named : is_person t j ≡ true) where
  pub first-stands : {place : ℕ} → place ≡ get_or index (asked_cell i 0) 0 → Stands t j place
  first-stands e = rw (e, first_cell searched tried kind) (stands_at t j (part_role t i 0) there named)

  pub second-stands : {place : ℕ} → place ≡ get_or index (link_cell i j) 0 → Stands t person place
  second-stands e =
      rw (e, second-cell searched tried kind j there named)
      (stands_at t person (linked_role t i j) tried.who tried.named)

-- a middle leads on exactly where both goals, by places, can be proved such that a set that is wanted is met
module _ {t index arcs rows : List ℕ} {S levels last : ℕ} (searched : Searchable t index arcs rows S levels last) {person i : ℕ}
    (tried : Tried t person i) (kind : (credential t (suc i)).kind ≡ 3) (A O : ℕ) (above : Above) (s : StateSets)
    (wants : ℕ → Bool) where
  abbrev one : Goal → ℕ → Bool
  one = proves t S A O levels above s

  abbrev at : Pair → ℕ → Bool
  at = λ (p : Pair) Y. proves_at t S A O levels above s p.person p.place Y

  abbrev leads_on : ℕ → Bool
  leads_on = leads t (suits one O wants) (ends_well t A O wants s) (goal_at t person i) (suc i)

  pub leads-at : (j : ℕ) → j < credentials t → leads_on j ≡ (is_person t j and suits at O wants (link_pairs index person i j))
  unfolding suits
  leads-at j l = go (is_person t j) refl
    where
      go : (b : Bool) → is_person t j ≡ b → leads_on j ≡ (is_person t j and suits at O wants (link_pairs index person i j))
      go true e =
          ap (λ b. is_person t j and b)
          (with-goals t searched.well_formed (suits one O wants) (ends_well t A O wants s) (goal_at t person i) (suc i)
          (numbered tried.there) (own searched tried) kind j l e
          ∙ any_same _ _ (suc O) (λ X m. ap (λ b. wants X and b)
          (sym (and_is e refl) ∙ cell-middle searched tried A O above s X kind j l ∙ and_is e refl)))
      go false e = and-is-off _ e ∙ sym (and-is-off _ e)

  -- who is not in both masks of the row does not
  abbrev in_row : ℕ → ℕ → Bool
  in_row row j =
      in_set (get_or rows (row_cell row (get_or index (asked_cell i 0) 0)) 0) j
      and in_set (get_or rows (row_cell row (get_or index (link_cell i j) 0)) 0) person and is_person t j

  pub leads-listed : (row j : ℕ) → row ≡ lesser levels last → j < credentials t → leads_on j ≡ true → in_row row j ≡ true
  unfolding suits
  leads-listed row j the_row l on =
      let here = sym (leads-at j l) ∙ on in
      let (X, m, both) = any-shows _ (suc O) (and_second (is_person t j) _ here) in
      let led = and_both (and_first (is_person t j) _ here) (and_second _ _ both) in
      not-false (in_row row j) (refuted _ (λ off.
      let missing = rw the_row at (not-true (in_row row j) off) in
      false-true (sym (middle-unlisted searched tried A O above s X kind j l missing) ∙ led)))

-- what is told of both goals
module _ {t index arcs rows : List ℕ} {S levels last : ℕ} (searched : Searchable t index arcs rows S levels last) {person i : ℕ}
    (tried : Tried t person i) (kind : (credential t (suc i)).kind ≡ 3) {j : ℕ} (there : j < credentials t)
    (named : is_person t j ≡ true) (A : ℕ) (above : Above) (s : StateSets) {O : ℕ} {wanted : Family} (want : Wanted O wanted)
    {first : ℕ} (read : first ≡ get_or index (asked_cell i 0) 0) {f : Family}
    (told : FoundBelow O (goal_test t S A O levels s j first) above f) where
  abbrev proved : Pair → ℕ → Bool
  proved = λ (p : Pair) Y. proves_at t S A O levels above s p.person p.place Y

  abbrev leads_to : Bool
  leads_to =
      leads t (suits (proves t S A O levels above s) O (in_family wanted)) (ends_well t A O (in_family wanted) s) (goal_at t person i)
      (suc i) j

  -- the first cannot be proved at all
  pub leads-none : {none : Bool} → none ≡ not (any_below (in_family f) all_sets) → none ≡ true → false ≡ leads_to
  unfolding suits
  leads-none {none} e on =
      sym (leads-at searched tried kind A O above s (in_family wanted) j there
      ∙ and_none (is_person t j) (any_none _ (suc O) (λ X l.
      and_none (in_family wanted X) (first-unshared proved O _ _ X (λ Y. rw (← read) (never Y))))))
    where
      never : (Y : ℕ) → proved (pair j first) Y ≡ false
      never Y =
          refuted _ (λ h.
          false-true (sym (none-covered f (no-sets f none e on) 0)
          ∙ told.all 0 (part-zero O) (pair-less t S A O levels above s Y 0 (pair j first) (part-zero Y) h)))

  pub leads-told : {second : ℕ} → second ≡ get_or index (link_cell i j) 0 → {h : Family} (both : Family)
      → FoundBelow O (goal_test t S A O levels s person second) above h → FamilyOf (joins f h) both
      → {r : Bool} → r ≡ any_below (λ X. in_family both X and in_family wanted X) all_sets → r ≡ leads_to
  unfolding suits
  leads-told {second} read' both told' all e =
      let less = pair-less t S A O levels above s in
      let alone = told-alone proved O less (pair person second) (told_here told') in
      meets-wanted want (told-joined proved O less (pair j first) (pair person second ∷ []) all (told_here told) alone) e
      ∙ rw (read, read') (sym (leads-at searched tried kind A O above s (in_family wanted) j there ∙ and_is named refl))

-- all places have been looked at, and one of them is in the set
pub named-all : (t : List ℕ) (places j best : ℕ) → j ≡ credentials t → NamedTo t places j best → places < 2 ^ credentials t
    → (places ≡ 0 → ⊥) → LeastNamed t places best
named-all t places j best all found few some =
    let (k, inside, out) = part-fails places 0 (credentials t) few (refuted _ (λ h. some (omega (arith, part-le places 0 h)))) in
    let there = (found.least k (omega (arith, below-members places (credentials t) k few inside)) inside).0 in
    record {
      there = there;
      member = found.member there;
      least = λ k inside. (found.least k (omega (arith, below-members places (credentials t) k few inside)) inside).1;
    }

-- the middles that are left to be tried: every one that leads on is among them, and each is a principal
pub record MiddlesLeft (t : List ℕ) (passes : ℕ → Bool) (left : ℕ) : Type 0 where
  pub few : left < 2 ^ credentials t
  pub every : (k : ℕ) → k < credentials t → passes k ≡ true → in_set left k ≡ true
  pub people : (k : ℕ) → in_set left k ≡ true → is_person t k ≡ true

-- at first those whom the row has
pub left-first : {t index arcs rows : List ℕ} {S levels last : ℕ} → Searchable t index arcs rows S levels last → {person i : ℕ}
    → Tried t person i → (credential t (suc i)).kind ≡ 3 → (A O : ℕ) (above : Above) (s : StateSets) (wants : ℕ → Bool)
    → (row left : ℕ) → row ≡ lesser levels last → left ≡ listed_middles t index rows row person i (credentials t)
    → MiddlesLeft t (leads t (suits (proves t S A O levels above s) O wants) (ends_well t A O wants s) (goal_at t person i) (suc i))
    left
unfolding listed_middles
left-first {t} {index} {rows = rows} searched {person} {i} tried kind A O above s wants row left the_row is =
    record {
      few = members-below left (credentials t) (λ k h. ltb-true k (credentials t) (and_first _ _ (sym (member k) ∙ h)));
      every = λ k l on.
          member k ∙ and_both (lt-ltb k _ l) (leads-listed searched tried kind A O above s wants row k the_row l on);
      people = λ k h. and_second _ _ (and_second _ _ (and_second _ _ (sym (member k) ∙ h)));
    }
  where
    test : ℕ → Bool
    test j =
        in_set (get_or rows (row_cell row (get_or index (asked_cell i 0) 0)) 0) j
        and in_set (get_or rows (row_cell row (get_or index (link_cell i j) 0)) 0) person and is_person t j

    member : (k : ℕ) → in_set left k ≡ (ltb k (credentials t) and test k)
    member k = rw is (set_of-members test (credentials t) k)

-- the credential proves its goal, so some middle leads on
pub some-leads : (t : List ℕ) (all : List Goal → Bool) (word : Bool) (g : Goal) (c : ℕ) → (credential t c).kind ≡ 3
    → proves_by t all word g c ≡ true → any_below (leads t all word g c) (credentials t) ≡ true
unfolding proves_by pick
some-leads t all word g c kind proved = rw (eq-eqb (credential t c).kind 3 kind) at proved

module _ (t : List ℕ) (passes : ℕ → Bool) (left : ℕ) (is : MiddlesLeft t passes left) where
  pub left-some : any_below passes (credentials t) ≡ true → left ≡ 0 → ⊥
  left-some some none =
      let (k, l, on) = any-shows passes (credentials t) some in
      false-true (sym (in_set-zero k) ∙ sym (ap (λ x. in_set x k) none) ∙ is.every k l on)

  module _ (j : ℕ) (named : LeastNamed t left j) where
    -- the one that was tried leads on
    pub least-leads : passes j ≡ true → LeastMiddle t passes j
    least-leads on =
        record { there = named.there; leads-on = on; least = λ k l also. named.least k (is.every k l also) }

    -- or it does not, and the others are left
    others : passes j ≡ false → MiddlesLeft t passes (bit_xor left (2 ^ j))
    others off =
        let fewer = without-part left j named.member in
        record {
          few = omega (arith, part-le _ _ fewer, is.few);
          every =
              λ k l on. without_other left j k (λ e. false-true (sym off ∙ ap passes e ∙ on)) ∙ is.every k l on;
          people = λ k h. is.people k (part-member _ _ k fewer h);
        }

    -- its bit has been made as `bit`
    pub left-next : passes j ≡ false → (bit : ℕ) → bit ≡ 2 ^ j → MiddlesLeft t passes (bit_xor left bit)
    left-next off bit made = rw made (others off)

    pub left_less : (bit : ℕ) → bit ≡ 2 ^ j → bit_xor left bit < left
    left_less bit made = rw made (go (ℕ_discrete (bit_xor left (2 ^ j)) left))
      where
        go : Dec (bit_xor left (2 ^ j) ≡ left) → bit_xor left (2 ^ j) < left
        go (yes e) =
            absurd (false-true (sym (without-own left j named.member) ∙ ap (λ x. in_set x j) e ∙ named.member))
        go (no e) = omega (arith, part-le _ _ (without-part left j named.member))

    -- nobody else is left
    pub only-leads : any_below passes (credentials t) ≡ true → bit_and left (left - 1) ≡ 0 → LeastMiddle t passes j
    only-leads some one =
        let (k, l, on) = any-shows passes (credentials t) some in
        let alone = part-member left (2 ^ j) k (one_only left j one named.member) (is.every k l on) in
        least-leads (rw (← one-is j k alone) at on)
