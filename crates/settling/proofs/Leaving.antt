-- A set without the credentials that bear some automata: what is left, and how the code finds it, credential by credential.
use mathlib.Core.Path.{◌≡◌, refl, sym, ap, ◌∙◌}
use mathlib.Core.List.{List}
use mathlib.Core.Bool.{Bool, true, false, not}
use Prim.Native.Nat.{ℕ, suc, ◌+◌, ◌-◌, ◌^◌, ◌<◌, ◌≤◌}
use native.Mathlib.Omega.{arith}
use native.Mathlib.Numerals.{add-one, sub-one}
use lib.Bits.{bit_or}
use borrow.Author.Tests.{eq-eqb, eqb-false, lt-ltb, ne_eqb, not-true}
use Rattle.sets.specs.Logic.{◌and◌}
use Rattle.sets.specs.Sets.{in_set, part, set_of}
use Rattle.sets.proofs.Tests.{and_both, and_first, and_is, and-is-off, and_second, failed, passed}
use Rattle.sets.proofs.Members.{part-le, part-shown, set_more, set-not, set_of-members}
use Rattle.table.specs.Layout.{credential, credentials}
use Rattle.table.specs.declared.Credential.{Credential}
use Rattle.settling.specs.Settling.{among, without_all}

-- which automata are among those of a set: automaton k + 1, where k is in it
pub among-shows : (L x : ℕ) → among L x ≡ true → (x ≡ 0 → ⊥) × (in_set L (x - 1) ≡ true)
unfolding among
among-shows L x h = (eqb-false x 0 (not-true _ (and_first _ _ h)), and_second _ _ h)

pub among-reached : (L k : ℕ) → in_set L k ≡ true → among L (suc k) ≡ true
unfolding among
among-reached L k h = and_both (ap not (ne_eqb (suc k) 0 (λ z. omega (arith, z)))) (rw sub-one h)

-- what is left of S without the credentials that bear an automaton of L
module _ (t : List ℕ) (S L : ℕ) where
  pub without-shows : (i : ℕ) → in_set (without_all t S L) i ≡ true
      → (in_set S i ≡ true) × (among L (credential t (suc i)).automaton ≡ false)
  unfolding without_all
  without-shows i h =
      let kept = and_second _ _ (sym (set_of-members _ (credentials t) i) ∙ h) in
      (and_first _ _ kept, not-true _ (and_second _ _ kept))

  pub without-reached : (i : ℕ) → i < credentials t → in_set S i ≡ true → among L (credential t (suc i)).automaton ≡ false
      → in_set (without_all t S L) i ≡ true
  unfolding without_all
  without-reached i there member other =
      set_of-members _ (credentials t) i ∙ and_both (lt-ltb i _ there) (and_both member (ap not other))

  pub without-part : part (without_all t S L) S ≡ true
  without-part = part-shown (without_all t S L) S (λ i h. (without-shows i h).0)

-- what is left is no more than there was
pub fewer-left : (t : List ℕ) (S L : ℕ) {fewer : ℕ} → fewer ≡ without_all t S L → fewer ≤ S
fewer-left t S L left = rw left (part-le _ S (without-part t S L))

-- whether the automaton of a credential is one of L: none is not, and another is where L has it
pub among_none : (L x : ℕ) → x ≡ 0 → false ≡ among L x
unfolding among
among_none L x none = sym (and-is-off _ (ap not (eq-eqb x 0 none)))

pub among-some : (L x : ℕ) → (x ≡ 0 → ⊥) → {told : Bool} → told ≡ in_set L (x - 1) → told ≡ among L x
unfolding among
among-some L x some e = e ∙ sym (and_is (ap not (ne_eqb x 0 some)) refl)

-- credential i + 1 is in S and bears none of L
abbrev pub stays : List ℕ → ℕ → ℕ → ℕ → Bool
stays t S L i = in_set S i and not (among L (credential t (suc i)).automaton)

-- the credentials of S among the first n that bear none of L
abbrev pub without_to : List ℕ → ℕ → ℕ → ℕ → ℕ
without_to t S L n = set_of (λ c. in_set S c and not (among L (credential t (suc c)).automaton)) n

-- one credential more, number i + 1
module _ (t : List ℕ) (S L i kept : ℕ) (so_far : kept ≡ without_to t S L i) where
  without-off : (in_set S i and not (among L (credential t (suc i)).automaton)) ≡ false → kept ≡ without_to t S L (i + 1)
  without-off = set-not _ kept i so_far

  -- which is in the set, and which the code has read as x
  module _ (inside : in_set S i ≡ true) (x : Credential) (read : x ≡ credential t (i + 1)) {told : Bool}
      (e : told ≡ among L x.automaton) where
    pub without-bearer : told ≡ true → kept ≡ without_to t S L (i + 1)
    without-bearer own = without-off (and_is inside (rw (read, add-one i) at (ap not (passed e own))))

    pub without_more : told ≡ false → bit_or kept (2 ^ i) ≡ without_to t S L (i + 1)
    without_more other =
        set_more _ kept i so_far (and_both inside (rw (read, add-one i) at (ap not (failed e other))))
