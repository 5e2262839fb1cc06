-- The index as it is made: places found in ascending order, what a credential asks, and the cells written one by one.
use mathlib.Core.Path.{◌≡◌, refl, sym, ap, ◌∙◌}
use mathlib.Core.List.{List, [], ◌∷◌}
use mathlib.Core.Bool.{Bool, true, false}
use Prim.Native.Nat.{ℕ, zero, suc, min, ◌+◌, ◌-◌, ◌≤◌, ◌<◌}
use native.Mathlib.Omega.{arith}
use Rattle.std.proofs.Common.{Option, Some, None, MatchOption, unwrap_or}
use native.Mathlib.Decide.{ℕ_discrete}
use lib.Dec.{eqb, ltb}
use lib.ListN.{get_or, length, length-map, length-replicate, length-set, replicate, set}
use lib.Seq.{get_or-set_other, get_or-set_same}
use borrow.Author.Tests.{ltb-false, ltb-true, ne_eqb}
use Rattle.sets.specs.Logic.{◌and◌}
use Rattle.sets.proofs.Tests.{any_none}
use Rattle.table.specs.Limits.{most_credentials, most_parts}
use Rattle.table.specs.Layout.{cell, chain, credential, credentials, name, parts, parts_by, role}
use Rattle.table.specs.Checks.{chain_ok}
use Rattle.table.specs.declared.Role.{Role}
use Rattle.table.specs.declared.Query.{Query}
use Rattle.table.specs.declared.Credential.{Credential}
use Rattle.table.proofs.Chains.{chain-range}
use Rattle.derivation.specs.Rules.{goal_of}
use Rattle.members.specs.Places.{person_at, role_at}
use Rattle.members.specs.Members.{Aimed, Indexed, asked_cell, goal_person, goal_role, index_cells, link_cell, links_base}
use Rattle.members.specs.Members.{Whole, padded, role_cell, roles_asked}
use Rattle.indexing.specs.Indexing.{Asked, FirstPlace, Linked, OneAsked, PartsAt, Place, Put, EntryRoom, Written, names}
use Rattle.members.proofs.Reading.{as_read, below_next, kind-read, zeros}
use Rattle.members.proofs.Places.{least-found, least-none, role-few}
use Rattle.members.proofs.ByKind.{one-padded, padded-inside, roles-2, roles-3, roles-4}

-- what `find` gives of a range, or else its end, is not behind its end
pub not-behind : (n : ℕ) (found : Option ℕ) (A : Type 0) (B C : ℕ → Type 0)
    → MatchOption found A (λ i. (0 ≤ i) × (i < n) × B i × C i) → unwrap_or found n ≤ n
not-behind n None A B C none = omega arith
not-behind n (Some i) A B C some = omega arith

-- the first credential that a test passes
module _ (answers : Credential → Bool → Type 0) (t : List ℕ) where
  abbrev pub Answered : Bool → ℕ → Type 0
  Answered told i = answers (credential t (suc i)) told

  pub first-place : (n : ℕ) (found : Option ℕ) → n ≡ credentials t → n ≤ most_credentials
      → MatchOption found ((k : ℕ) → 0 ≤ k → k < n → Answered false k)
      (λ i. (0 ≤ i) × (i < n) × Answered true i × ((k : ℕ) → 0 ≤ k → k < i → Answered false k))
      → FirstPlace answers t (unwrap_or found n)
  first-place n None all few none =
      record {
        at = λ p tells. record {
          same = all ∙ least-none p (credentials t) (any_none p (credentials t) (λ k l.
              sym (tells k false (none k (omega arith) (omega arith)))));
          few = few;
        };
      }
  first-place n (Some i) all few some =
      record {
        at = λ p tells. record {
          same = least-found p (credentials t) i (omega arith)
              (any_none p i (λ k l. sym (tells k false (some.3 k (omega arith) l)))) (sym (tells i true some.2));
          few = omega arith;
        };
      }

pub names-not : (c : Credential) (p : ℕ) → (c.kind ≡ 1 → ⊥) → false ≡ names c p
unfolding names ◌and◌
names-not c p other = rw (ne_eqb c.kind 1 other)

pub names-by : (c : Credential) (p : ℕ) → c.kind ≡ 1 → eqb c.first p ≡ names c p
unfolding names ◌and◌
names-by c p one = rw one

-- the place of the one role asked, and the places of four, by kind
module _ (t : List ℕ) (c : Credential) where
  one-role : (r : Role) (found : ℕ) → roles_asked t c ≡ r ∷ [] → (c.kind ≡ 1 → ⊥) → Place (role_at t r) found
      → OneAsked t c found
  one-role r found only other place =
      record { few = place.few; named = λ one. absurd (other one); asked = λ h k. rw (one-padded _ r only k) place.same }

  pub one-membership : (found : ℕ) → c.kind ≡ 1 → Place (person_at t c.first) found → OneAsked t c found
  one-membership found one place =
      record { few = place.few; named = λ h. place.same; asked = λ other k. absurd (other one) }

  pub one-linking : (found : ℕ) → c.kind ≡ 3
      → Place (role_at t (record { owner = c.role.owner; name = name c.first })) found → OneAsked t c found
  one-linking found three place = one-role _ found (roles-3 t c three) (λ one. absurd (omega arith)) place

  pub one-containment : (found : ℕ) → Whole t c → (c.kind ≡ 4 → ⊥) → (c.kind ≡ 1 → ⊥) → (c.kind ≡ 3 → ⊥)
      → Place (role_at t (role c.first c.second)) found → OneAsked t c found
  one-containment found w n4 n1 n3 place = one-role _ found (roles-2 t c (omega (arith, w.kind))) n1 place

  -- one place, four times
  pub asked-once : (found : ℕ) → OneAsked t c found → Asked t c (found ∷ found ∷ found ∷ found ∷ [])
  asked-once found one =
      record {
        room = refl;
        few = λ k l. rw (same k l) one.few;
        named = one.named;
        asked = λ k l other. same k l ∙ one.asked other k;
      }
    where
      same : (k : ℕ) → k < most_parts → get_or (found ∷ found ∷ found ∷ found ∷ []) k 0 ≡ found
      same zero l = refl
      same (suc zero) l = refl
      same (suc (suc zero)) l = refl
      same (suc (suc (suc zero))) l = refl
      same (suc (suc (suc (suc k)))) l = absurd (omega arith)

  pub asked-parts : (found : List ℕ) → c.kind ≡ 4 → PartsAt t c.first most_parts found → Asked t c found
  asked-parts found four at =
      record {
        room = at.room;
        few = at.few;
        named = λ one. absurd (omega arith);
        asked = λ k l other. rw (roles-4 t c four) (at.each k l);
      }

-- the last role at every place behind it
padded-behind : (roles : List Role) (k last : ℕ) (d : Role) → length roles ≡ suc last → last ≤ k
    → get_or roles last d ≡ padded roles k
unfolding padded
padded-behind [] k last d e l = absurd (omega arith)
padded-behind (r ∷ []) k zero d e l = refl
padded-behind (r ∷ []) k (suc last) d e l = absurd (omega arith)
padded-behind (r ∷ s ∷ roles) k zero d e l = absurd (omega arith)
padded-behind (r ∷ s ∷ roles) zero (suc last) d e l = absurd (omega arith)
padded-behind (r ∷ s ∷ roles) (suc k) (suc last) d e l = padded-behind (s ∷ roles) k last d (omega arith) (omega arith)

-- a chain as the code holds it
module _ (t : List ℕ) (first : ℕ) (held : List Role) (holds : held ≡ parts t first) where
  pub held-some : chain_ok t first ≡ true → 1 ≤ length held
  unfolding parts_by
  held-some ok =
      omega (arith, ap length holds, length-map (chain t first) (λ (k : ℕ). (cell t k).role), (chain-range t first ok).least)

  held-role : (k : ℕ) (d : Role) → get_or held k d ≡ get_or (parts t first) k d
  held-role k d = ap (λ (roles : List Role). get_or roles k d) holds

  -- the part that stands in cell k: its own, or the last
  pub part-at : (k : ℕ) (d : Role) → 1 ≤ length held → get_or held (min k (length held - 1)) d ≡ padded (parts t first) k
  part-at k d some = go (ltb k (length held - 1)) refl
    where
      go : (b : Bool) → ltb k (length held - 1) ≡ b → get_or held (min k (length held - 1)) d ≡ padded (parts t first) k
      go true e =
          let l = ltb-true k (length held - 1) e in
          let own : min k (length held - 1) ≡ k = omega arith in
          rw own (held-role k d ∙ padded-inside _ k d (omega (arith, ap length holds)))
      go false e =
          let l = ltb-false k (length held - 1) e in
          let last : min k (length held - 1) ≡ length held - 1 = omega arith in
          rw last (held-role (length held - 1) d ∙ padded-behind _ k (length held - 1) d (omega (arith, ap length holds)) l)

-- the places of all parts
pub parts-at : (t : List ℕ) (first : ℕ) (found : List ℕ) → credentials t ≤ most_credentials → length found ≡ most_parts
    → ((k : ℕ) → k < most_parts → get_or found k 0 ≡ role_at t (padded (parts t first) k)) → PartsAt t first most_parts found
parts-at t first found few room each =
    record { room = room; few = λ k l. omega (arith, each k l, role-few t (padded (parts t first) k)); each = each }

-- cells are written one by one
pub written_none : (from to : ℕ) (old : List ℕ) → Written from to old old
written_none from to old = record { room = refl; before = λ x l. refl; behind = λ x l. refl; small = λ s. s }

written_next : (from to : ℕ) (old new : List ℕ) (at place : ℕ) → Written from to old new → from ≤ at → at < to
    → at < length new → place ≤ most_credentials → Written from to old (set new at place)
written_next from to old new at place so_far low high there few =
    record {
      room = length-set new at place ∙ so_far.room;
      before = λ x l. get_or-set_other new at x place 0 (λ e. absurd (omega arith)) ∙ so_far.before x l;
      behind = λ x l. get_or-set_other new at x place 0 (λ e. absurd (omega arith)) ∙ so_far.behind x l;
      small = λ s x. small s x (ℕ_discrete x at);
    }
  where
    small : ((x : ℕ) → get_or old x 0 ≤ most_credentials) → (x : ℕ) → Dec (x ≡ at) → get_or (set new at place) x 0 ≤ most_credentials
    small s x (yes same) = rw (same, get_or-set_same new at place 0 there) few
    small s x (no other) = rw (get_or-set_other new at x place 0 other) (so_far.small s x)

-- the cells of its links, where the role asked of a middle is named nm
module _ (t : List ℕ) (nm i : ℕ) (old : List ℕ) where
  pub linked-none : Linked t nm i 0 old old
  linked-none = record { written = written_none _ _ old; each = λ j l. absurd (omega arith) }

  -- credential j + 1, which the code has read as x
  module _ (j : ℕ) (new : List ℕ) (so_far : Linked t nm i j old new) (x : Credential) (read : x ≡ credential t (j + 1)) where
    pub linked-other : (x.kind ≡ 1 → ⊥) → Linked t nm i (j + 1) old new
    linked-other other =
        record {
          written = so_far.written;
          each = below_next _ j so_far.each (λ one. absurd (other (kind-read t j x read ∙ one)));
        }

    pub linked-next : EntryRoom old i → j < most_credentials → (place : ℕ) → Place (role_at t (role x.first nm)) place
        → Linked t nm i (j + 1) old (set new (link_cell i j) place)
    linked-next room l place found =
        record {
          written =
              written_next _ _ old new (link_cell i j) place so_far.written (omega arith) (omega arith) there found.few;
          each = below_next _ j
              (λ k h one. get_or-set_other new (link_cell i j) (link_cell i k) place 0 (λ e. omega arith) ∙ so_far.each k h one)
              (λ one. rw (← as_read t j x read) (get_or-set_same new (link_cell i j) place 0 there ∙ found.same));
        }
      where
        there : link_cell i j < length new
        there = omega (arith, room.cells, room.there, so_far.written.room)

-- what the index has of credential i + 1, which is c
pub record PlacesAt (t index : List ℕ) (i : ℕ) (c : Credential) : Type 0 where
  pub defined : get_or index (role_cell i) 0 ≡ role_at t c.role
  pub named : c.kind ≡ 1 → get_or index (asked_cell i 0) 0 ≡ person_at t c.first
  pub asked : (k : ℕ) → k < most_parts → (c.kind ≡ 1 → ⊥) → get_or index (asked_cell i k) 0 ≡ role_at t (padded (roles_asked t c) k)
  pub linked : (j : ℕ) → j < credentials t → c.kind ≡ 3 → (credential t (suc j)).kind ≡ 1
      → get_or index (link_cell i j) 0 ≡ role_at t (role (credential t (suc j)).first c.second)

-- the cells of credential i + 1 are as they were
record SameCells (old new : List ℕ) (i : ℕ) : Type 0 where
  places : (x : ℕ) → role_cell i ≤ x → x < role_cell (i + 1) → get_or new x 0 ≡ get_or old x 0
  links : (x : ℕ) → link_cell i 0 ≤ x → x < link_cell (i + 1) 0 → get_or new x 0 ≡ get_or old x 0

places-kept : (t old new : List ℕ) (i : ℕ) (c : Credential) → credentials t ≤ most_credentials → SameCells old new i
    → PlacesAt t old i c → PlacesAt t new i c
places-kept t old new i c few kept at =
    record {
      defined = kept.places (role_cell i) (omega arith) (omega arith) ∙ at.defined;
      named = λ one. kept.places (asked_cell i 0) (omega arith) (omega arith) ∙ at.named one;
      asked = λ k l other. kept.places (asked_cell i k) (omega arith) (omega arith) ∙ at.asked k l other;
      linked = λ j l three one. kept.links (link_cell i j) (omega arith) (omega arith) ∙ at.linked j l three one;
    }

-- the cells of the first `count` credentials are filled
pub record Filled (t index : List ℕ) (count : ℕ) : Type 0 where
  pub room : length index ≡ index_cells
  pub small : (x : ℕ) → get_or index x 0 ≤ most_credentials
  pub each : (i : ℕ) → i < count → PlacesAt t index i (credential t (suc i))

pub filled_none : (t : List ℕ) → Filled t (replicate index_cells 0) 0
filled_none t =
    record {
      room = length-replicate {A = ℕ} index_cells 0;
      small = λ x. omega (arith, zeros index_cells x);
      each = λ i l. absurd (omega arith);
    }

-- the links of a credential x that asks a middle are written, and of no other
pub record LinksOf (t : List ℕ) (x : Credential) (i : ℕ) (old new : List ℕ) : Type 0 where
  pub written : Written (link_cell i 0) (link_cell (i + 1) 0) old new
  pub each : x.kind ≡ 3 → (j : ℕ) → j < credentials t → (credential t (suc j)).kind ≡ 1
      → get_or new (link_cell i j) 0 ≡ role_at t (role (credential t (suc j)).first x.second)

pub links-written : (t : List ℕ) (x : Credential) (i : ℕ) (old new : List ℕ) → Linked t x.second i (credentials t) old new
    → LinksOf t x i old new
links-written t x i old new linked = record { written = linked.written; each = λ three. linked.each }

pub links-none : (t : List ℕ) (x : Credential) (i : ℕ) (old : List ℕ) → (x.kind ≡ 3 → ⊥) → LinksOf t x i old old
links-none t x i old other = record { written = written_none _ _ old; each = λ three. absurd (other three) }

-- credential i + 1, which the code has read as x
module _ (t : List ℕ) (few : credentials t ≤ most_credentials) (i : ℕ) (there : i < credentials t) (x : Credential)
    (read : x ≡ credential t (i + 1)) (old middle new asked : List ℕ) (place : ℕ) (put : Put i place asked old middle)
    (links : LinksOf t x i middle new) where
  before-links : (y : ℕ) → y < links_base → get_or new y 0 ≡ get_or middle y 0
  before-links y l = links.written.before y (omega arith)

  own-places : Place (role_at t x.role) place → Asked t x asked → PlacesAt t new i x
  own-places defined asks =
      record {
        defined = before-links (role_cell i) (omega arith) ∙ put.defined ∙ defined.same;
        named = λ one. before-links (asked_cell i 0) (omega arith) ∙ put.each 0 (omega arith) ∙ asks.named one;
        asked = λ k l other. before-links (asked_cell i k) (omega arith) ∙ put.each k l ∙ asks.asked k l other;
        linked = λ j l three one. links.each three j l one;
      }

  kept-before : (k : ℕ) → k < i → SameCells old new k
  kept-before k l =
      record {
        places = λ y low high. before-links y (omega arith) ∙ put.written.before y (omega arith);
        links = λ y low high. links.written.before y (omega arith) ∙ put.written.behind y (omega arith);
      }

  pub filled_next : Place (role_at t x.role) place → Asked t x asked → Filled t old i → Filled t new (i + 1)
  filled_next defined asks so_far =
      record {
        room = links.written.room ∙ put.written.room ∙ so_far.room;
        small = links.written.small (put.written.small so_far.small);
        each = below_next _ i (λ k l. places-kept t old new k _ few (kept-before k l) (so_far.each k l))
            (rw (← as_read t i x read) (own-places defined asks));
      }

-- the query's cells, behind all others
module _ (t index : List ℕ) (few : credentials t ≤ most_credentials) (filled : Filled t index (credentials t)) (q : Query)
    (role person : ℕ) (at_role : Place (role_at t (goal_of q).role) role)
    (at_person : Place (person_at t q.principal.0) person) where
  aim-written : Written goal_role index_cells index (set (set index goal_role role) goal_person person)
  aim-written =
      written_next goal_role index_cells index (set index goal_role role) goal_person person
      (written_next goal_role index_cells index index goal_role role (written_none goal_role index_cells index)
      (omega arith) (omega arith) (omega (arith, filled.room)) at_role.few)
      (omega arith) (omega arith) (omega (arith, length-set index goal_role role, filled.room)) at_person.few

  places-there : (i : ℕ) → i < credentials t
      → PlacesAt t (set (set index goal_role role) goal_person person) i (credential t (suc i))
  places-there i l =
      places-kept t index (set (set index goal_role role) goal_person person) i _ few
      record {
        places = λ y low high. aim-written.before y (omega arith);
        links = λ y low high. aim-written.before y (omega arith);
      }
      (filled.each i l)

  pub index-made : Indexed t (set (set index goal_role role) goal_person person)
      × Aimed t q (set (set index goal_role role) goal_person person)
  index-made = (
    record {
      placed = record { room = aim-written.room ∙ filled.room; small = aim-written.small filled.small };
      defined = λ i l. (places-there i l).defined;
      named = λ i l one. (places-there i l).named one;
      asked = λ i k l h other. (places-there i l).asked k h other;
      linked = λ i j l h three one. (places-there i l).linked j h three one;
    },
    record {
      goals_role =
          get_or-set_other (set index goal_role role) goal_person goal_role person 0 (λ e. absurd (omega arith))
          ∙ get_or-set_same index goal_role role 0 (omega (arith, filled.room)) ∙ at_role.same;
      goals_person =
          get_or-set_same (set index goal_role role) goal_person person 0
          (omega (arith, length-set index goal_role role, filled.room))
          ∙ at_person.same;
    },
  )
