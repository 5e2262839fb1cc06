-- The rows of the table of members, cell by cell: row 1, the copy of a row, and a row that takes in whom a credential proves.
use mathlib.Core.Path.{◌≡◌, refl, sym, ap, ◌∙◌}
use mathlib.Core.List.{List}
use mathlib.Core.Bool.{Bool, true, false, not}
use mathlib.Core.Logic.{◌⊎◌, inl, inr, ⊎_elim}
use Prim.Native.Nat.{ℕ, suc, ◌+◌, ◌^◌, ◌<◌, ◌≤◌}
use native.Mathlib.Omega.{arith}
use native.Mathlib.Decide.{ℕ_discrete}
use lib.ListN.{get_or, length, set, length-set}
use lib.Seq.{get_or-set_other, get_or-set_same}
use lib.Bits.{bit_or}
use borrow.Author.Tests.{eq-eqb, ne_eqb}
use Rattle.sets.specs.Sets.{in_set, part, set_of}
use Rattle.sets.proofs.Tests.{and_both, and-is-off, and_none, false-true, or-either}
use Rattle.sets.proofs.Members.{in_set-or, in_set-zero, part-member, part-or-left, part-or-right, part-refl, part-trans, set_more}
use Rattle.sets.proofs.Members.{set-not}
use Rattle.sets.proofs.Without.{with-member, with-own}
use Rattle.table.specs.Limits.{most_credentials, most_depth}
use Rattle.table.specs.Layout.{credential}
use Rattle.table.specs.declared.Credential.{Credential}
use Rattle.members.specs.Members.{Blank, Indexed, asked_cell, role_cell, row_cell, row_cells, table_cells}
use Rattle.masks.specs.Masks.{mask, proved_members}
use Rattle.levels.specs.Levels.{Copied, FirstLevel, RowGrown, NamedBy, ProvedBy, is_rest, rest_of}
use Rattle.members.proofs.Reading.{below_next, kind-read}
use Rattle.masks.proofs.Masks.{proved-same}

pub three_ways : {A B C D : Type 0} → (A → D) → (B → D) → (C → D) → A ⊎ (B ⊎ C) → D
three_ways one two three = ⊎_elim one (⊎_elim two three)

-- a cell that takes in more: each cell has whom it had, and its own has all of it
module _ (rows : List ℕ) (at more : ℕ) (inside : at < length rows) where
  set_here : get_or (set rows at more) at 0 ≡ more
  set_here = get_or-set_same rows at more 0 inside

  set-grows : part (get_or rows at 0) more ≡ true → (x : ℕ) → part (get_or rows x 0) (get_or (set rows at more) x 0) ≡ true
  set-grows old x = go (ℕ_discrete x at)
    where
      go : Dec (x ≡ at) → part (get_or rows x 0) (get_or (set rows at more) x 0) ≡ true
      go (yes e) = rw (e, set_here) old
      go (no e) = rw (get_or-set_other rows at x more 0 e) (part-refl (get_or rows x 0))

  -- whoever is in a cell was there, or is taken in by it
  set-only : {A : Type 0} (x p : ℕ) → (in_set (get_or rows x 0) p ≡ true → A) → (x ≡ at → in_set more p ≡ true → A)
      → in_set (get_or (set rows at more) x 0) p ≡ true → A
  set-only {A} x p before new h = go (ℕ_discrete x at)
    where
      go : Dec (x ≡ at) → A
      go (yes e) = new e (rw (e, set_here) at h)
      go (no e) = before (rw (get_or-set_other rows at x more 0 e) at h)

-- row 1
pub first-starts : (t index rows : List ℕ) (S : ℕ) → length rows ≡ table_cells → Blank rows → FirstLevel t index S 0 rows 0
unfolding set_of
first-starts t index rows S room blank =
    record {
      room = room;
      named = λ i l. absurd (omega arith);
      only = λ x p h. absurd (false-true (sym (in_set-zero p) ∙ rw (blank x) at h));
      rest = refl;
    }

named-next : (t index : List ℕ) (S n x p : ℕ) → (i : ℕ) × NamedBy t index S n x p i → (i : ℕ) × NamedBy t index S (n + 1) x p i
named-next t index S n x p (i, by) =
    (i, record { there = omega (arith, by.there); inside = by.inside; kind = by.kind; cell = by.cell; person = by.person })

module _ (t index rows : List ℕ) (S others i : ℕ) (so_far : FirstLevel t index S i rows others) where
  only_next : (x p : ℕ) → in_set (get_or rows x 0) p ≡ true → (k : ℕ) × NamedBy t index S (i + 1) x p k
  only_next x p h = named-next t index S i x p (so_far.only x p h)

  rest-not : is_rest t S i ≡ false → others ≡ rest_of t S (i + 1)
  rest-not off = set-not (is_rest t S) others i so_far.rest off

  pub first-outside : in_set S i ≡ false → FirstLevel t index S (i + 1) rows others
  first-outside out =
      record {
        room = so_far.room;
        named = below_next _ i so_far.named (λ inside one. absurd (false-true (sym out ∙ inside)));
        only = only_next;
        rest = rest-not (and-is-off _ out);
      }

  -- the code has read credential i + 1 as x
  module _ (x : Credential) (read : x ≡ credential t (i + 1)) where
    pub first-other : in_set S i ≡ true → (x.kind ≡ 1 → ⊥) → FirstLevel t index S (i + 1) rows (bit_or others (2 ^ i))
    first-other inside other =
        record {
          room = so_far.room;
          named = below_next _ i so_far.named (λ inside one. absurd (other (kind-read t i x read ∙ one)));
          only = only_next;
          rest = set_more (is_rest t S) others i so_far.rest
              (and_both inside (ap not (ne_eqb _ 1 (λ one. other (kind-read t i x read ∙ one)))));
        }

    -- and the places of its role and of whom it names as these
    module _ (inside : in_set S i ≡ true) (one : x.kind ≡ 1) (place person : ℕ) (defined : place ≡ get_or index (role_cell i) 0)
        (small : place ≤ most_credentials) (names : person ≡ get_or index (asked_cell i 0) 0) where
      named-at : ℕ
      named-at = row_cell 1 place

      with-named : ℕ
      with-named = bit_or (get_or rows named-at 0) (2 ^ person)

      named-inside : named-at < length rows
      unfolding named-at
      named-inside = omega (arith, so_far.room)

      named-grows : (y : ℕ) → part (get_or rows y 0) (get_or (set rows named-at with-named) y 0) ≡ true
      unfolding with-named
      named-grows = set-grows rows named-at with-named named-inside (part-or-left (get_or rows named-at 0) (2 ^ person))

      has-own : in_set (mask (set rows named-at with-named) 1 (get_or index (role_cell i) 0)) (get_or index (asked_cell i 0) 0) ≡ true
      unfolding named-at with-named
      has-own =
          rw (← defined, ← names, set_here rows named-at with-named named-inside) (with-own (get_or rows named-at 0) person)

      here-kind : (credential t (suc i)).kind ≡ 1
      here-kind = sym (kind-read t i x read) ∙ one

      named_here : (y p : ℕ) → y ≡ named-at → person ≡ p → (k : ℕ) × NamedBy t index S (i + 1) y p k
      unfolding named-at
      named_here y p at same = (
        i,
        record { there = omega arith; inside = inside; kind = here-kind; cell = rw (← defined) at; person = sym same ∙ names },
      )

      named-only : (y p : ℕ) → in_set (get_or (set rows named-at with-named) y 0) p ≡ true
          → (k : ℕ) × NamedBy t index S (i + 1) y p k
      unfolding with-named
      named-only y p =
          set-only rows named-at with-named named-inside y p (only_next y p) (λ at.
          with-member (get_or rows named-at 0) person p (λ old. only_next y p (rw at old)) (named_here y p at))

      pub first-named : (more : ℕ) → more ≡ bit_or (get_or rows (row_cell 1 place) 0) (2 ^ person)
          → FirstLevel t index S (i + 1) (set rows (row_cell 1 place) more) others
      unfolding named-at with-named
      first-named more is =
          rw is record {
            room = length-set rows named-at with-named ∙ so_far.room;
            named = below_next _ i
                (λ k l inside one. part-member _ _ _ (named-grows _) (so_far.named k l inside one))
                (λ inside one. has-own);
            only = named-only;
            rest = rest-not (and_none _ (ap not (eq-eqb _ 1 here-kind)));
          }

-- what the code holds is one of these
pub first-is : (t index : List ℕ) (S i : ℕ) (rows rows' : List ℕ) (others others' : ℕ) → rows' ≡ rows → others' ≡ others
    → FirstLevel t index S i rows others → FirstLevel t index S i rows' others'
first-is t index S i rows rows' others others' same alike h = rw (same, alike) h

-- the copy of a row
pub copied_more : (level r : ℕ) (rows rows' : List ℕ) → level < most_depth → r < row_cells → Copied level r rows rows'
    → Copied level (r + 1) rows (set rows' (row_cell (level + 1) r) (mask rows' level r))
copied_more level r rows rows' few l so_far =
    let at = row_cell (level + 1) r in
    let old = mask rows' level r in
    record {
      room = length-set rows' at old ∙ so_far.room;
      kept = λ x below. get_or-set_other rows' at x old 0 (λ e. omega arith) ∙ so_far.kept x below;
      copied = below_next _ r
          (λ k less. get_or-set_other rows' at (row_cell (level + 1) k) old 0 (λ e. omega arith) ∙ so_far.copied k less)
          (get_or-set_same rows' at old 0 (omega (arith, so_far.room)) ∙ so_far.kept (row_cell level r) (omega arith));
    }

-- a row that takes in whom the credentials prove
pub grown-starts : (t index rows : List ℕ) (others level : ℕ) → length rows ≡ table_cells
    → RowGrown t index others level 0 rows rows false
grown-starts t index rows others level room =
    record {
      room = room;
      kept = λ x l. refl;
      grown = λ x. part-refl (get_or rows x 0);
      proved = λ i l. absurd (omega arith);
      only = λ x p h. inl h;
      still = λ e. refl;
    }

module _ (t index rows rows' : List ℕ) (others level i : ℕ) (is_new : Bool)
    (so_far : RowGrown t index others level i rows rows' is_new) where
  pub grown-outside : in_set others i ≡ false → RowGrown t index others level (i + 1) rows rows' is_new
  grown-outside out =
      record {
        room = so_far.room;
        kept = so_far.kept;
        grown = so_far.grown;
        proved = below_next _ i so_far.proved (λ inside. absurd (false-true (sym out ∙ inside)));
        only = so_far.only;
        still = so_far.still;
      }

  -- credential i + 1, whose role stands at `place`, proves those of v
  module _ (inside : in_set others i ≡ true) (made : Indexed t index) (few : level < most_depth) (place : ℕ)
      (defined : place ≡ get_or index (role_cell i) 0) (v : ℕ) (is : v ≡ proved_members t index rows' level i) where
    proved-at : ℕ
    proved-at = row_cell (level + 1) place

    with-proved : ℕ
    with-proved = bit_or (get_or rows' proved-at 0) v

    own : proved_members t index rows level i ≡ v
    own =
        let kept : (r : ℕ) → r ≤ most_credentials → mask rows' level r ≡ mask rows level r =
        λ r l. so_far.kept (row_cell level r) (omega arith) in
        sym (is ∙ proved-same index rows rows' level made.placed.small kept t i)

    -- it has them all
    pub grown-same : bit_or (mask rows' (level + 1) place) v ≡ mask rows' (level + 1) place
        → RowGrown t index others level (i + 1) rows rows' is_new
    unfolding proved-at
    grown-same same =
        record {
          room = so_far.room;
          kept = so_far.kept;
          grown = so_far.grown;
          proved = below_next _ i so_far.proved
              (λ inside. rw (own, ← defined, ← same) (part-or-right (get_or rows' proved-at 0) v));
          only = so_far.only;
          still = so_far.still;
        }

    proved-inside : proved-at < length rows'
    unfolding proved-at
    proved-inside = omega (arith, defined, so_far.room, made.placed.small (role_cell i))

    proved-grows : (y : ℕ) → part (get_or rows' y 0) (get_or (set rows' proved-at with-proved) y 0) ≡ true
    unfolding with-proved
    proved-grows = set-grows rows' proved-at with-proved proved-inside (part-or-left (get_or rows' proved-at 0) v)

    abbrev Was : ℕ → ℕ → Type 0
    Was y p = (in_set (get_or rows y 0) p ≡ true) ⊎ ((k : ℕ) × ProvedBy t index others level rows y p k)

    proved-here : (y p : ℕ) → y ≡ proved-at → in_set v p ≡ true → Was y p
    unfolding proved-at
    proved-here y p at has = inr (i, record { inside = inside; cell = rw (← defined) at; proves = rw own has })

    proved-only : (y p : ℕ) → in_set (get_or (set rows' proved-at with-proved) y 0) p ≡ true → Was y p
    unfolding with-proved
    proved-only y p =
        set-only rows' proved-at with-proved proved-inside y p (so_far.only y p) (λ at h.
        or-either (λ old. so_far.only y p (rw at old)) (proved-here y p at)
        (sym (in_set-or (get_or rows' proved-at 0) v p) ∙ h))

    pub grown-more : RowGrown t index others level (i + 1) rows
        (set rows' (row_cell (level + 1) place) (bit_or (mask rows' (level + 1) place) v)) true
    unfolding proved-at with-proved
    grown-more =
        record {
          room = length-set rows' proved-at with-proved ∙ so_far.room;
          kept = λ x below. get_or-set_other rows' proved-at x with-proved 0 (λ e. omega arith) ∙ so_far.kept x below;
          grown = λ x. part-trans _ _ _ (so_far.grown x) (proved-grows x);
          proved = below_next _ i
              (λ k l inside. part-trans _ _ _ (so_far.proved k l inside) (proved-grows _))
              (λ inside. rw (own, ← defined, set_here rows' proved-at with-proved proved-inside)
              (part-or-right (get_or rows' proved-at 0) v));
          only = proved-only;
          still = λ e. absurd (false-true (sym e));
        }

pub grown-is : (t index : List ℕ) (others level i : ℕ) (rows rows' rows'' : List ℕ) (is_new is_new' : Bool) → rows'' ≡ rows'
    → is_new' ≡ is_new → RowGrown t index others level i rows rows' is_new → RowGrown t index others level i rows rows'' is_new'
grown-is t index others level i rows rows' rows'' is_new is_new' same alike h = rw (same, alike) h
