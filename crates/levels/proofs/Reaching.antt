-- Level by level: the rows up to one have just who is a member within so many levels, nobody is missing and nobody is too many.
use mathlib.Core.Path.{◌≡◌, refl, sym, ap, ◌∙◌}
use mathlib.Core.List.{List}
use mathlib.Core.Bool.{Bool, true, false, not}
use mathlib.Core.Logic.{⊎_elim}
use Prim.Native.Nat.{ℕ, zero, suc, ◌+◌, ◌-◌, ◌<◌, ◌≤◌}
use native.Mathlib.Omega.{arith}
use native.Mathlib.Decide.{ℕ_discrete}
use native.Mathlib.Numerals.{add-one}
use lib.ListN.{get_or, length}
use lib.Dec.{ltb}
use borrow.Author.Tests.{eq-eqb, eqb-false, eqb-true, lt-ltb, ltb-false, ltb-true, ne_eqb, not-true}
use Rattle.sets.specs.Logic.{pick}
use Rattle.sets.specs.Sets.{in_set, part}
use Rattle.sets.proofs.Tests.{and_both, and_first, and_second}
use Rattle.sets.proofs.Members.{part-member, set_of-members}
use Rattle.table.specs.Limits.{most_credentials, most_depth}
use Rattle.table.specs.Layout.{credential, credentials, same_role}
use Rattle.table.specs.Holding.{WellFormed}
use Rattle.table.specs.declared.Goal.{Goal}
use Rattle.members.specs.Places.{person_at, role_at}
use Rattle.members.specs.Trying.{every_goal, may_use, proves_by}
use Rattle.members.specs.Members.{Indexed, Members, asked_cell, lesser, listed, role_cell, row_cell, row_cells, table_cells}
use Rattle.members.specs.Members.{within}
use Rattle.masks.specs.Masks.{mask, proved_members}
use Rattle.levels.specs.Levels.{Copied, FirstLevel, RowGrown, UnchangedUpTo, Named, NamedBy, is_rest, rest_of}
use Rattle.members.proofs.Reading.{numbered}
use Rattle.members.proofs.Places.{person-is, person-named, person-stands, place_same, role-defined, role-few, same_place}
use Rattle.members.proofs.Places.{same_self}
use Rattle.members.proofs.Stepping.{proves-by-mono, within_by, within-closed, within-later, within_more, within_none}
use Rattle.members.proofs.Stepping.{within_step}
use Rattle.members.proofs.ByKind.{by-membership, some-role}
use Rattle.masks.proofs.Masks.{Persons, in_row, listed-is, proved-in-row, proved-is, proved-same}

may-parts : (t : List ℕ) (S : ℕ) (g : Goal) (c : ℕ) → may_use t S g (suc c) ≡ true
    → (in_set S c ≡ true) × (same_role (credential t (suc c)).role g.role ≡ true)
unfolding may_use
may-parts t S g c may =
    let e : suc c - 1 ≡ c = omega arith in
    (rw e at (and_first (in_set S (suc c - 1)) _ may), and_second (in_set S (suc c - 1)) _ may)

may-both : (t : List ℕ) (S : ℕ) (g : Goal) (c : ℕ) → in_set S c ≡ true → same_role (credential t (suc c)).role g.role ≡ true
    → may_use t S g (suc c) ≡ true
unfolding may_use
may-both t S g c inside own = let e : suc c - 1 ≡ c = omega arith in and_both (rw e inside) own

-- the credentials of the set that are no simple memberships
module _ (t : List ℕ) (S : ℕ) where
  in_rest : (i : ℕ) → i < credentials t → in_set S i ≡ true → ((credential t (suc i)).kind ≡ 1 → ⊥)
      → in_set (rest_of t S (credentials t)) i ≡ true
  in_rest i l inside other =
      set_of-members (is_rest t S) (credentials t) i ∙ and_both (lt-ltb _ _ l) (and_both inside (ap not (ne_eqb _ 1 other)))

  rest-is : (i : ℕ) → in_set (rest_of t S (credentials t)) i ≡ true
      → (i < credentials t) × (in_set S i ≡ true) × ((credential t (suc i)).kind ≡ 1 → ⊥)
  rest-is i h =
      let both = sym (set_of-members (is_rest t S) (credentials t) i) ∙ h in
      let passes = and_second (ltb i (credentials t)) _ both in (
        ltb-true i (credentials t) (and_first _ _ both),
        and_first (in_set S i) _ passes,
        eqb-false (credential t (suc i)).kind 1 (not-true _ (and_second (in_set S i) _ passes)),
      )

-- a role and a principal by what the index has of a credential: they are those of the credential
module _ (t index : List ℕ) (made : Indexed t index) where
  place-own : (g : Goal) (i : ℕ) → i < credentials t → role_at t g.role ≡ get_or index (role_cell i) 0
      → same_role (credential t (suc i)).role g.role ≡ true
  place-own g i l e =
      let r = (credential t (suc i)).role in
      rw (← place_same t r g.role (sym (e ∙ made.defined i l)) (role-defined t r i l (same_self r))) (same_self r)

  person-own : (g : Goal) (i : ℕ) → i < credentials t → (credential t (suc i)).kind ≡ 1
      → person_at t g.principal.0 < credentials t → person_at t g.principal.0 ≡ get_or index (asked_cell i 0) 0
      → (credential t (suc i)).first ≡ g.principal.0
  person-own g i l one there e =
      let who = (credential t (suc i)).first in
      let same = e ∙ made.named i l one in
      sym (person-stands t who (rw (← same) there)).1 ∙ ap (λ (k : ℕ). (credential t (suc k)).first) (sym same)
      ∙ (person-stands t g.principal.0 there).1

-- the row of the level has whom simple memberships name
module _ (t index : List ℕ) (wf : WellFormed t) (made : Indexed t index) (S : ℕ) (rows : List ℕ) (level : ℕ)
    (named : Named t index S (credentials t) rows level) where
  has-place : (g : Goal) (c s : ℕ) → c < credentials t → same_role (credential t (suc c)).role g.role ≡ true
      → in_set (mask rows level (get_or index (role_cell c) 0)) s ≡ true → in_set (mask rows level (role_at t g.role)) s ≡ true
  has-place g c s l own h = rw (made.defined c l, same_place t _ g.role own) at h

  by_name : (one : Goal → Bool) (g : Goal) (c : ℕ) → c < credentials t → may_use t S g (suc c) ≡ true
      → (credential t (suc c)).kind ≡ 1 → proves_by t (every_goal one) true g (suc c) ≡ true → listed t rows level g ≡ true
  unfolding listed
  by_name one g c l may kind proved =
      let (inside, own) = may-parts t S g c may in
      let names = eqb-true _ _ (and_first _ _ (sym (by-membership t wf (every_goal one) true g (suc c) (numbered l) own kind) ∙ proved)) in
      let place = made.named c l kind ∙ ap (person_at t) names in
      and_both (lt-ltb _ _ (person-named t g.principal.0 c l kind names))
      (has-place g c _ l own (rw place at (named c l inside kind)))

  -- and whom all other credentials prove by a row before: it has whom any credential proves by that
  by-step : (rows₀ : List ℕ) (level₀ : ℕ) → Persons t rows₀ level₀
      → ((i : ℕ) → i < credentials t → in_set S i ≡ true → ((credential t (suc i)).kind ≡ 1 → ⊥)
      → part (proved_members t index rows₀ level₀ i) (mask rows level (get_or index (role_cell i) 0)) ≡ true)
      → (g : Goal) (c : ℕ) → c < credentials t → may_use t S g (suc c) ≡ true
      → proves_by t (every_goal (listed t rows₀ level₀)) true g (suc c) ≡ true → listed t rows level g ≡ true
  unfolding listed
  by-step rows₀ level₀ persons taken g c l may proved = go (ℕ_discrete (credential t (suc c)).kind 1)
    where
      go : Dec ((credential t (suc c)).kind ≡ 1) → listed t rows level g ≡ true
      go (yes kind) = by_name (listed t rows₀ level₀) g c l may kind proved
      go (no other) =
          let (inside, own) = may-parts t S g c may in
          let (r, before) = some-role t wf (listed t rows₀ level₀) true g (suc c) (numbered l) own proved other in
          let there = (in_row t rows₀ level₀ _ before).0 in
          and_both (lt-ltb _ _ there)
          (has-place g c _ l own
          (part-member _ _ _ (taken c l inside other)
          (sym (proved-is t index rows₀ wf made level₀ persons g c l own other there) ∙ proved)))

-- the rows up to a level have just who is a member within so many levels
pub record Reached (t index : List ℕ) (S others level : ℕ) (rows : List ℕ) : Type 0 where
  pub room : length rows ≡ table_cells
  pub named : Named t index S (credentials t) rows level
  pub persons : Persons t rows level
  pub rest : others ≡ rest_of t S (credentials t)
  pub every : (k : ℕ) → k ≤ level → (g : Goal) → within t S k g ≡ true → listed t rows k g ≡ true
  pub only : (k : ℕ) → k ≤ level → (g : Goal) → listed t rows k g ≡ true → within t S k g ≡ true

-- a row that is as it was
listed_same : (t rows rows' : List ℕ) (k : ℕ) → credentials t ≤ most_credentials
    → ((r : ℕ) → r ≤ most_credentials → mask rows' k r ≡ mask rows k r) → (g : Goal) → listed t rows' k g ≡ listed t rows k g
unfolding listed
listed_same t rows rows' k few same g = rw (same (role_at t g.role) (omega (arith, role-few t g.role)))

-- up to the last row by its level, and by that row behind it
by-lesser : (P : ℕ → Type 0) (k last : ℕ) → (k < last → P k) → (last ≤ k → P last) → P (lesser k last)
unfolding lesser pick
by-lesser P k last before behind = go (ltb k last) refl
  where
    go : (b : Bool) → ltb k last ≡ b → P (pick b k last)
    go true e = before (ltb-true k last e)
    go false e = behind (ltb-false k last e)

-- rows that have nobody too many up to a level have nobody too many by it: who is a member within a level is one within more
only-lesser : (t rows : List ℕ) (S level : ℕ)
    → ((k : ℕ) → k ≤ level → (g : Goal) → listed t rows k g ≡ true → within t S k g ≡ true) → (k : ℕ) (g : Goal)
    → listed t rows (lesser k level) g ≡ true → within t S k g ≡ true
only-lesser t rows S level only k g =
    by-lesser (λ m. listed t rows m g ≡ true → within t S k g ≡ true) k level (λ less. only k (omega arith) g)
    (λ more h. within-later t S level k more g (only level (omega arith) g h))

module _ (t index : List ℕ) (wf : WellFormed t) (made : Indexed t index) (S others : ℕ) where
  pub reached-first : (rows : List ℕ) → FirstLevel t index S (credentials t) rows others → Reached t index S others 1 rows
  reached-first rows first =
      record { room = first.room; named = first.named; persons = persons; rest = first.rest; every = every; only = only }
    where
      persons : Persons t rows 1
      persons r p small h =
          let (i, by) = first.only (row_cell 1 r) p h in
          let at = by.person ∙ made.named i by.there by.kind in
          let there = person-named t _ i by.there by.kind refl in
          (rw at there, rw at (person-is t _ there))

      one-level : (g : Goal) → within t S 1 g ≡ true → listed t rows 1 g ≡ true
      one-level g h =
          let (c, l, may, proved) = within_step t S 0 g h in
          go c l may proved (ℕ_discrete (credential t (suc c)).kind 1)
        where
          go : (c : ℕ) → c < credentials t → may_use t S g (suc c) ≡ true → proves_by t (every_goal (within t S 0)) true g (suc c) ≡ true
              → Dec ((credential t (suc c)).kind ≡ 1) → listed t rows 1 g ≡ true
          go c l may proved (yes kind) = by_name t index wf made S rows 1 first.named (within t S 0) g c l may kind proved
          go c l may proved (no other) =
              let own = (may-parts t S g c may).1 in
              within_none t S _ (some-role t wf (within t S 0) true g (suc c) (numbered l) own proved other).1

      every : (k : ℕ) → k ≤ 1 → (g : Goal) → within t S k g ≡ true → listed t rows k g ≡ true
      every zero l g h = within_none t S g h
      every (suc zero) l g h = one-level g h
      every (suc (suc k)) l g h = absurd (omega arith)

      -- whom row 1 has some simple membership names, and row 0 has nobody
      one-named : (g : Goal) → person_at t g.principal.0 < credentials t
          → ((i : ℕ) × NamedBy t index S (credentials t) (row_cell 1 (role_at t g.role)) (person_at t g.principal.0) i)
          → within t S 1 g ≡ true
      one-named g there (i, by) =
          let own = place-own t index made g i by.there (omega (arith, by.cell)) in
          let names = person-own t index made g i by.there by.kind there by.person in
          within_by t S 0 g i by.there (may-both t S g i by.inside own)
          (by-membership t wf (every_goal (within t S 0)) true g (suc i) (numbered by.there) own by.kind
          ∙ and_both (eq-eqb _ _ names) refl)

      only : (k : ℕ) → k ≤ 1 → (g : Goal) → listed t rows k g ≡ true → within t S k g ≡ true
      only zero l g h =
          let (i, by) = first.only (row_cell 0 (role_at t g.role)) _ (in_row t rows 0 g h).1 in
          absurd (omega (arith, by.cell, role-few t g.role, wf.sized.counted.few_credentials))
      only (suc zero) l g h =
          let (there, inside) = in_row t rows 1 g h in
          one-named g there (first.only (row_cell 1 (role_at t g.role)) _ inside)
      only (suc (suc k)) l g h = absurd (omega arith)

  pub reached-all : (rows : List ℕ) (depth : ℕ) → depth ≤ most_depth → Reached t index S others depth rows
      → Members t S depth depth rows
  reached-all rows depth few at =
      record {
        room = at.room;
        few = omega arith;
        every = λ k l g h. by-lesser (λ m. listed t rows m g ≡ true) k depth (λ less. at.every k (omega arith) g h)
            (λ more. let e : k ≡ depth = omega arith in rw e at (at.every k (omega arith) g h));
        only = λ k l. only-lesser t rows S depth at.only k;
      }

  -- the row behind a level is copied from it, and then takes in whom the other credentials prove
  module _ (rows rows₁ rows₂ : List ℕ) (level : ℕ) (is_new : Bool) (few : level < most_depth)
      (at : Reached t index S others level rows) (copy : Copied level row_cells rows rows₁)
      (next : RowGrown t index others level (credentials t) rows₁ rows₂ is_new) where
    kept : UnchangedUpTo level rows rows₂
    kept x l = next.kept x l ∙ copy.kept x l

    same_row : (k : ℕ) → k ≤ level → (r : ℕ) → r ≤ most_credentials → mask rows₂ k r ≡ mask rows k r
    same_row k l r small = kept (row_cell k r) (omega arith)

    listed-before : (k : ℕ) → k ≤ level → (g : Goal) → listed t rows₂ k g ≡ listed t rows k g
    listed-before k l = listed_same t rows rows₂ k wf.sized.counted.few_credentials (same_row k l)

    before : (k : ℕ) → k ≤ level → (g : Goal) → within t S k g ≡ true → listed t rows₂ k g ≡ true
    before k l g h = listed-before k l g ∙ at.every k l g h

    only-before : (k : ℕ) → k ≤ level → (g : Goal) → listed t rows₂ k g ≡ true → within t S k g ≡ true
    only-before k l g h = at.only k l g (sym (listed-before k l g) ∙ h)

    persons-before : Persons t rows₂ level
    persons-before r p small h = at.persons r p small (rw (same_row level (omega arith) r small) at h)

    named-next : Named t index S (credentials t) rows₂ (level + 1)
    named-next i l inside kind =
        let copied = copy.copied (get_or index (role_cell i) 0) (omega (arith, made.placed.small (role_cell i))) in
        part-member _ _ _ (next.grown _) (rw copied (at.named i l inside kind))

    -- the level's row is the same when the row behind it has been copied
    proved-before : (i : ℕ) → proved_members t index rows₂ level i ≡ proved_members t index rows₁ level i
    proved-before =
        proved-same index rows₁ rows₂ level made.placed.small (λ r small. next.kept (row_cell level r) (omega arith)) t

    -- whom a credential proves by the level's row is in the row behind
    taken : (i : ℕ) → i < credentials t → in_set S i ≡ true → ((credential t (suc i)).kind ≡ 1 → ⊥)
        → part (proved_members t index rows₂ level i) (mask rows₂ (level + 1) (get_or index (role_cell i) 0)) ≡ true
    taken i l inside other =
        rw (proved-before i) (next.proved i l (rw at.rest (in_rest t S i l inside other)))

    -- whoever is in the row behind was in the level's, or is proved by it
    new-only : {A : Type 0} (r p : ℕ) → r ≤ most_credentials → (in_set (mask rows₂ level r) p ≡ true → A)
        → ((i : ℕ) → in_set others i ≡ true → r ≡ get_or index (role_cell i) 0
        → in_set (proved_members t index rows₂ level i) p ≡ true → A)
        → in_set (mask rows₂ (level + 1) r) p ≡ true → A
    new-only r p small old new h =
        ⊎_elim (λ copied. old (rw (same_row level (omega arith) r small, ← copy.copied r (omega arith)) copied))
        (λ found.
        let (i, by) = found in
        new i by.inside (omega (arith, by.cell)) (rw (proved-before i) by.proves))
        (next.only (row_cell (level + 1) r) p h)

    persons-next : Persons t rows₂ (level + 1)
    persons-next r p small =
        new-only r p small (persons-before r p small) (λ i inside cell has.
        let (s, few-s, there) = proved-in-row t index rows₂ level i p made.placed.small has in
        persons-before s p few-s there)

    pub reached-next : Reached t index S others (level + 1) rows₂
    reached-next =
        record { room = next.room; named = named-next; persons = persons-next; rest = at.rest; every = every; only = only }
      where
        new : (g : Goal) → within t S (suc level) g ≡ true → listed t rows₂ (level + 1) g ≡ true
        new g h =
            let (c, l, may, proved) = within_step t S level g h in
            by-step t index wf made S rows₂ (level + 1) named-next rows₂ level persons-before taken g c l may
            (proves-by-mono (within t S level) (listed t rows₂ level) (before level (omega arith)) true true (λ e. e) t g (suc c)
            proved)

        every : (k : ℕ) → k ≤ level + 1 → (g : Goal) → within t S k g ≡ true → listed t rows₂ k g ≡ true
        every k l g h = go (ℕ_discrete k (suc level))
          where
            go : Dec (k ≡ suc level) → listed t rows₂ k g ≡ true
            go (yes e) = rw (e, ← add-one level) (new g (rw e at h))
            go (no e) = before k (omega arith) g h

        by-other : (g : Goal) → person_at t g.principal.0 < credentials t → (i : ℕ) → in_set others i ≡ true
            → role_at t g.role ≡ get_or index (role_cell i) 0
            → in_set (proved_members t index rows₂ level i) (person_at t g.principal.0) ≡ true → within t S (suc level) g ≡ true
        by-other g there i chosen cell has =
            let (l, inside, other) = rest-is t S i (rw at.rest at chosen) in
            let own = place-own t index made g i l cell in
            within_by t S level g i l (may-both t S g i inside own)
            (proves-by-mono (listed t rows₂ level) (within t S level) (only-before level (omega arith)) true true (λ e. e) t g
            (suc i) (proved-is t index rows₂ wf made level persons-before g i l own other there ∙ has))

        only-new : (g : Goal) → listed t rows₂ (level + 1) g ≡ true → within t S (suc level) g ≡ true
        only-new g h =
            let (there, inside) = in_row t rows₂ (level + 1) g h in
            new-only (role_at t g.role) _ (omega (arith, role-few t g.role, wf.sized.counted.few_credentials))
            (λ old. within_more t S level g (only-before level (omega arith) g (listed-is t rows₂ level g there ∙ old)))
            (by-other g there) inside

        only : (k : ℕ) → k ≤ level + 1 → (g : Goal) → listed t rows₂ k g ≡ true → within t S k g ≡ true
        only k l g h = go (ℕ_discrete k (suc level))
          where
            go : Dec (k ≡ suc level) → within t S k g ≡ true
            go (yes e) = rw e (only-new g (rw (e, ← add-one level) at h))
            go (no e) = only-before k (omega arith) g h

    -- nothing is new: by the level's row nothing more is proved
    pub reached-last : (depth : ℕ) → is_new ≡ false → Members t S depth level rows₂
    reached-last depth still =
        record {
          room = next.room;
          few = omega arith;
          every = λ k l g h. by-lesser (λ m. listed t rows₂ m g ≡ true) k level (λ less. before k (omega arith) g h)
              (λ more. within-closed t S (listed t rows₂ level) closed k g h);
          only = λ k l. only-lesser t rows₂ S level only-before k;
        }
      where
        row_same : (r : ℕ) → r ≤ most_credentials → mask rows₂ (level + 1) r ≡ mask rows₂ level r
        row_same r small =
            ap (λ (x : List ℕ). mask x (level + 1) r) (next.still still) ∙ copy.copied r (omega arith)
            ∙ sym (same_row level (omega arith) r small)

        named_here : Named t index S (credentials t) rows₂ level
        named_here i l inside kind =
            rw (same_row level (omega arith) _ (made.placed.small (role_cell i))) (at.named i l inside kind)

        closed : (g : Goal) (c : ℕ) → c < credentials t → may_use t S g (suc c) ≡ true
            → proves_by t (every_goal (listed t rows₂ level)) true g (suc c) ≡ true → listed t rows₂ level g ≡ true
        closed =
            by-step t index wf made S rows₂ level named_here rows₂ level persons-before
            (λ i l inside other. rw (row_same _ (made.placed.small (role_cell i))) at (taken i l inside other))
