-- The small tests of the search, over plain variables: what each answers by what it has asked.
use mathlib.Core.Path.{◌≡◌, refl, sym, ap, ◌∙◌}
use mathlib.Core.List.{List}
use mathlib.Core.Bool.{Bool, true, false, not}
use Prim.Native.Nat.{ℕ, zero, suc, ◌+◌, ◌<◌, ◌≤◌}
use native.Mathlib.Decide.{ℕ_discrete}
use Rattle.std.specs.List.{list_any, range_with_len}
use native.Mathlib.Omega.{arith}
use lib.ListN.{get_or}
use lib.Bits.{bit_and, bit_xor}
use lib.Dec.{eqb, ltb}
use borrow.Author.Tests.{eq-eqb, eqb-true, le-ltb, lt-ltb, ltb-true, ne_eqb}
use Rattle.sets.specs.Logic.{◌and◌, any_below, pick}
use Rattle.sets.specs.Sets.{in_set, part}
use Rattle.sets.proofs.Tests.{and_first, and_is, and-is-off, and_none, and_second, any_none, any-reached, failed, false-true}
use Rattle.sets.proofs.Tests.{passed}
use Rattle.sets.proofs.Members.{in_set-and, part-le, part-shown, part-trans}
use Rattle.sets.proofs.Without.{in_set-xor}
use Rattle.families.specs.Families.{FamilyOf, all_sets, in_family}
use Rattle.families.specs.declared.Family.{Family}
use Rattle.families.proofs.Covering.{covers-only, covers-shows}
use Rattle.table.specs.declared.Role.{Role}
use Rattle.automata.specs.Together.{moved_on}
use Rattle.automata.specs.declared.Moved.{Moved}
use Rattle.automata.specs.declared.StateSets.{StateSets}
use Rattle.members.specs.Members.{asked_cell, lesser, role_cell}
use Rattle.goals.specs.Goals.{Left, Trimmed, asked_before, stepped, stepped_on, usable}

-- three tests, one after the other
module _ {one a : Bool} (first : one ≡ a) where
  pub and-missed : (d : Bool) → one ≡ false → false ≡ (a and d)
  and-missed d off = sym (and-is-off d (failed first off))

  module _ {two b : Bool} (on : one ≡ true) (second : two ≡ b) where
    pub and-missed-second : (d : Bool) → two ≡ false → false ≡ (a and b and d)
    and-missed-second d off = sym (and_is (passed first on) (and-is-off d (failed second off)))

    pub and-third : {three c : Bool} → two ≡ true → three ≡ c → three ≡ (a and b and c)
    and-third on' third = third ∙ sym (and_is (passed first on) (and_is (passed second on') refl))

-- credential i + 1 is not allowed, or is, and stands for a role
module _ (index : List ℕ) (S place i : ℕ) where
  pub unallowed : in_set S i ≡ false → false ≡ usable index S place i
  unfolding usable
  unallowed off = sym (and-is-off _ off)

  pub allowed-defines : in_set S i ≡ true → (cell : ℕ) → cell ≡ get_or index (role_cell i) 0 → eqb cell place ≡ usable index S place i
  unfolding usable
  allowed-defines on cell e = ap (λ x. eqb x place) e ∙ sym (and_is on refl)

pub lesser-first : (k last : ℕ) → k < last → k ≡ lesser k last
unfolding lesser pick
lesser-first k last l = rw (lt-ltb k last l)

pub lesser-second : (k last : ℕ) → last ≤ k → last ≡ lesser k last
unfolding lesser pick
lesser-second k last l = rw (le-ltb k last l)

-- the row that tells of so many levels is one of the table's
pub row_within : (levels last row : ℕ) → row ≡ lesser levels last → last ≤ 16 → row ≤ 16
unfolding lesser pick
row_within levels last row e few = rw e (go (ltb levels last) refl)
  where
    go : (b : Bool) → ltb levels last ≡ b → pick b levels last ≤ 16
    go true less = omega (arith, ltb-true levels last less)
    go false less = few

-- the state sets stay where no automaton is imposed, and move where one is
module _ (t : List ℕ) (A : ℕ) (r : Role) (s : StateSets) where
  pub stays : A ≡ 0 → record { states = s; dead = 0 } ≡ stepped_on t A r s
  unfolding stepped_on stepped pick
  stays none = rw (eq-eqb A 0 none)

  pub moves : (x : Moved) → (A ≡ 0 → ⊥) → x ≡ moved_on t r s → x ≡ stepped_on t A r s
  unfolding stepped_on stepped moved_on pick
  moves x imposed e = rw (ne_eqb A 0 imposed) e

  pub steps : {x : Moved} → x ≡ stepped_on t A r s → x.states ≡ stepped t A r s
  unfolding stepped_on
  steps e = ap (λ (y : Moved). y.states) e

-- a role before role k stands at its place
pub asked_here : (index : List ℕ) (i k j : ℕ) → j < k → get_or index (asked_cell i j) 0 ≡ get_or index (asked_cell i k) 0
    → true ≡ asked_before index i k
unfolding asked_before
asked_here index i k j l same = sym (any-reached _ k j l (eq-eqb _ _ same))

-- `any` over a range tells whether some number below its end passes
module _ (p : ℕ → Bool) where
  ranged : (a n : ℕ) → list_any p (range_with_len a n) ≡ true → (k : ℕ) × (k < a + n) × (p k ≡ true)
  ranged a zero h = absurd (false-true h)
  ranged a (suc n) h = go (p a) refl (ranged (a + 1) n)
    where
      go : (b : Bool) → p a ≡ b
          → (list_any p (range_with_len (a + 1) n) ≡ true → (k : ℕ) × (k < a + 1 + n) × (p k ≡ true))
          → (k : ℕ) × (k < a + suc n) × (p k ≡ true)
      go true e more = (a, omega arith, e)
      go false e more = let (k, l, on) = more (rw e at h) in (k, omega (arith, l), on)

  unranged : (a n : ℕ) → list_any p (range_with_len a n) ≡ false → (k : ℕ) → a ≤ k → k < a + n → p k ≡ false
  unranged a zero h k from l = absurd (omega arith)
  unranged a (suc n) h k from l = go (p a) refl (ℕ_discrete k a) (unranged (a + 1) n)
    where
      go : (b : Bool) → p a ≡ b → Dec (k ≡ a)
          → (list_any p (range_with_len (a + 1) n) ≡ false → (k : ℕ) → a + 1 ≤ k → k < a + 1 + n → p k ≡ false) → p k ≡ false
      go true e here more = absurd (false-true (sym (rw e at h)))
      go false e (yes same) more = ap p same ∙ e
      go false e (no other) more = more (rw e at h) k (omega (arith, other)) (omega arith)

  pub any-ranged : (n : ℕ) (r : Bool) → r ≡ list_any p (range_with_len 0 n) → r ≡ any_below p n
  any-ranged n true e = let (k, l, on) = ranged 0 n (sym e) in sym (any-reached p n k (omega (arith, l)) on)
  any-ranged n false e = sym (any_none p n (λ k l. unranged 0 n (sym e) k (omega arith) (omega arith)))

-- a simple membership names another principal; or it names this one, and the word that ends there is accepted by the imposed
-- automata or not
abbrev word_meets : ℕ → ℕ → ℕ → ℕ → ℕ → ℕ → Bool
word_meets named person A O acc X = eqb named person and part A acc and eqb (bit_and O acc) X

module _ (named person : ℕ) {cell : ℕ} (e : cell ≡ named) (A O acc : ℕ) (found : Family) where
  pub other-named : (cell ≡ person → ⊥) → FamilyOf (λ X. false) found → FamilyOf (word_meets named person A O acc) found
  other-named other none X few = none X few ∙ sym (and-is-off _ (ne_eqb named person (λ same. other (e ∙ same))))

  module _ (same : cell ≡ person) {accepting : ℕ} (read : accepting ≡ acc) where
    pub word-rejected : (bit_and A accepting ≡ A → ⊥) → FamilyOf (λ X. false) found → FamilyOf (word_meets named person A O acc) found
    unfolding part
    word-rejected rejected none X few =
        none X few ∙ sym (and_none _ (and-is-off _ (ne_eqb (bit_and A acc) A (λ all. rejected (rw read all)))))

    pub word-ends : bit_and A accepting ≡ A → FamilyOf (eqb (bit_and O accepting)) found → FamilyOf (word_meets named person A O acc) found
    unfolding part
    word-ends all only X few =
        only X few
        ∙ ap (λ x. eqb (bit_and O x) X) read
        ∙ sym (and_is (eq-eqb named person (sym e ∙ same)) (and_is (eq-eqb (bit_and A acc) A (rw read at all)) refl))

-- the family, or O alone where the family has it
pub trimmed-one : (found rest : Family) (O : ℕ) → O < all_sets → {has : Bool} → has ≡ in_family found O → has ≡ true
    → FamilyOf (eqb O) rest → Trimmed found O rest
trimmed-one found rest O few e on only =
    record {
      fewer = λ X less is. rw (eqb-true O X (sym (only X less) ∙ is)) at (sym e ∙ on);
      alike = λ inside X h.
          let (Y, less, is, part_of) = covers-shows found X h in
          covers-only rest O few only X ∙ part-trans X Y O part_of (inside Y less is);
    }

-- the owed automata that are not dead
pub left-those : (O dead : ℕ) → O < all_sets → Left O dead (bit_xor O (bit_and O dead))
unfolding pick
left-those O dead few = record { few = let l = part-le (bit_xor O (bit_and O dead)) O less in omega (arith, few); lost = lost }
  where
    less : part (bit_xor O (bit_and O dead)) O ≡ true
    less =
        part-shown _ O (λ k h.
        go k (in_set (bit_and O dead) k) refl (sym (in_set-xor O (bit_and O dead) k) ∙ h))
      where
        go : (k : ℕ) (b : Bool) → in_set (bit_and O dead) k ≡ b → pick b (not (in_set O k)) (in_set O k) ≡ true → in_set O k ≡ true
        go k true e h = and_first _ _ (sym (in_set-and O dead k) ∙ e)
        go k false e h = h

    lost : (k : ℕ) → in_set O k ≡ true → in_set (bit_xor O (bit_and O dead)) k ≡ false → in_set dead k ≡ true
    lost k owed out = go (in_set (bit_and O dead) k) refl (sym (in_set-xor O (bit_and O dead) k) ∙ out)
      where
        go : (b : Bool) → in_set (bit_and O dead) k ≡ b → pick b (not (in_set O k)) (in_set O k) ≡ false → in_set dead k ≡ true
        go true e h = and_second _ _ (sym (in_set-and O dead k) ∙ e)
        go false e h = absurd (false-true (sym h ∙ owed))
