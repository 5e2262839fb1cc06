-- What a family covers, and what it lies inside: how both pass on to the families that are made of it. The premises are what the
-- contracts of src/lib.rt tell.
use mathlib.Core.Path.{◌≡◌, refl, sym, ap, ◌∙◌}
use mathlib.Core.Bool.{Bool, true, false, not}
use Prim.Native.Nat.{ℕ, ◌<◌}
use lib.Bits.{bit_or, or_lt}
use lib.Dec.{eqb}
use borrow.Author.Tests.{eq-eqb, eqb-true}
use Rattle.sets.specs.Logic.{◌and◌, ◌or◌, any_below}
use Rattle.sets.specs.Sets.{part}
use Rattle.sets.proofs.Tests.{and_both, and_first, and_second, any-reached, any-shows, false-true, or-either, or-first, or-second}
use Rattle.sets.proofs.Tests.{refuted, same_test}
use Rattle.sets.proofs.Members.{part-antisym, part-or, part-or-left, part-or-right, part-refl, part-trans, part-zero}
use Rattle.families.specs.Families.{FamilyOf, Inside, Within, all_sets, completes, covers, in_family, joins, leaves, raises}
use Rattle.families.specs.declared.Family.{Family}

-- some set of the family is found, or shown
any-in : (f : Family) (q : ℕ → Bool) → any_below (λ Y. in_family f Y and q Y) all_sets ≡ true
    → (Y : ℕ) × (Y < all_sets) × (in_family f Y ≡ true) × (q Y ≡ true)
any-in f q h =
    let (Y, l, passes) = any-shows (λ Y. in_family f Y and q Y) all_sets h in
    (Y, l, and_first (in_family f Y) (q Y) passes, and_second (in_family f Y) (q Y) passes)

in-any : (f : Family) (q : ℕ → Bool) (Y : ℕ) → Y < all_sets → in_family f Y ≡ true → q Y ≡ true
    → any_below (λ Y. in_family f Y and q Y) all_sets ≡ true
in-any f q Y l own passes = any-reached (λ Y. in_family f Y and q Y) all_sets Y l (and_both own passes)

-- X is covered exactly where a set of the family that includes it can be named
module _ (f : Family) where
  pub covers-shows : (X : ℕ) → covers f X ≡ true → (Y : ℕ) × (Y < all_sets) × (in_family f Y ≡ true) × (part X Y ≡ true)
  unfolding covers
  covers-shows X h = any-in f (λ Y. part X Y) h

  pub covers-reached : (X Y : ℕ) → Y < all_sets → in_family f Y ≡ true → part X Y ≡ true → covers f X ≡ true
  unfolding covers
  covers-reached X Y l own h = in-any f (λ Y. part X Y) Y l own h

  -- its sets, and the parts of what it covers
  pub covers-own : (X : ℕ) → X < all_sets → in_family f X ≡ true → covers f X ≡ true
  covers-own X l own = covers-reached X X l own (part-refl X)

  pub covers_less : (X Y : ℕ) → part X Y ≡ true → covers f Y ≡ true → covers f X ≡ true
  covers_less X Y h there =
      let (Z, l, own, more) = covers-shows Y there in
      covers-reached X Z l own (part-trans X Y Z h more)

  -- a family inside of `most` covers `most` only by itself
  pub inside-most : (most : ℕ) → Inside f most → covers f most ≡ true → in_family f most ≡ true
  inside-most most inside there =
      let (Y, l, own, more) = covers-shows most there in
      sym (ap (in_family f) (part-antisym Y most (inside Y l own) more)) ∙ own

-- a family with more sets covers more
pub covers_more : (f g : Family) → Within f g → (X : ℕ) → covers f X ≡ true → covers g X ≡ true
covers_more f g among X there =
    let (Y, l, own, more) = covers-shows f X there in
    covers-reached g X Y l (among Y l own) more

-- no set covers nothing, and any set the empty one
pub covers-nothing : (f : Family) → FamilyOf (λ X. false) f → (X : ℕ) → covers f X ≡ false
covers-nothing f is X =
    refuted _ (λ there. let (Y, l, own, more) = covers-shows f X there in false-true (sym (is Y l) ∙ own))

pub covers-empty : (f : Family) {none : Bool} → none ≡ not (any_below (in_family f) all_sets) → not none ≡ covers f 0
covers-empty f {none} told = ap not told ∙ same_test _ _ on back
  where
    twice : (b : Bool) → not (not b) ≡ b
    twice true = refl
    twice false = refl

    on : not (not (any_below (in_family f) all_sets)) ≡ true → covers f 0 ≡ true
    on h =
        let (Y, l, own) = any-shows (in_family f) all_sets (sym (twice _) ∙ h) in
        covers-reached f 0 Y l own (part-zero Y)

    back : covers f 0 ≡ true → not (not (any_below (in_family f) all_sets)) ≡ true
    back h =
        let (Y, l, own, more) = covers-shows f 0 h in
        twice _ ∙ any-reached (in_family f) all_sets Y l own

-- a set that includes X is itself with X
pub covers-raised : (f g : Family) (X : ℕ) → FamilyOf (raises f X) g → {r : Bool}
    → r ≡ any_below (λ Y. in_family f Y and in_family g Y) all_sets → r ≡ covers f X
unfolding raises
covers-raised f g X is told = told ∙ same_test _ _ on back
  where
    on : any_below (λ Y. in_family f Y and in_family g Y) all_sets ≡ true → covers f X ≡ true
    on h =
        let (Y, l, own, raised) = any-in f (in_family g) h in
        let (Z, m, was, both) = any-in f (λ Z. eqb (bit_or X Z) Y) (sym (is Y l) ∙ raised) in
        covers-reached f X Y l own (rw (eqb-true (bit_or X Z) Y both) at (part-or-left X Z))

    back : covers f X ≡ true → any_below (λ Y. in_family f Y and in_family g Y) all_sets ≡ true
    back h =
        let (Y, l, own, more) = covers-shows f X h in
        let same = part-antisym (bit_or X Y) Y (part-or X Y Y more (part-refl Y)) (part-or-right X Y) in
        in-any f (in_family g) Y l own (is Y l ∙ in-any f (λ Z. eqb (bit_or X Z) Y) Y l own (eq-eqb (bit_or X Y) Y same))

pub covers-only : (f : Family) (M : ℕ) → M < all_sets → FamilyOf (eqb M) f → (X : ℕ) → covers f X ≡ part X M
covers-only f M few is X = same_test _ _ on back
  where
    on : covers f X ≡ true → part X M ≡ true
    on there =
        let (Y, l, own, more) = covers-shows f X there in
        ap (part X) (eqb-true M Y (sym (is Y l) ∙ own)) ∙ more

    back : part X M ≡ true → covers f X ≡ true
    back h = covers-reached f X M few (is M few ∙ eq-eqb M M refl) h

pub inside-none : (f : Family) (most : ℕ) → FamilyOf (λ X. false) f → Inside f most
inside-none f most is X l own = absurd (false-true (sym (is X l) ∙ own))

pub inside-only : (f : Family) (M most : ℕ) → FamilyOf (eqb M) f → part M most ≡ true → Inside f most
inside-only f M most is h X l own = sym (ap (λ (x : ℕ). part x most) (eqb-true M X (sym (is X l) ∙ own))) ∙ h

-- a set more
module _ (f r : Family) (one : ℕ) (is : FamilyOf (λ X. in_family f X or eqb one X) r) where
  pub with-before : Within f r
  with-before X l own = is X l ∙ or-first (eqb one X) own

  pub with-one : one < all_sets → in_family r one ≡ true
  with-one few = is one few ∙ or-second (in_family f one) (eq-eqb one one refl)

  pub inside-with : (most : ℕ) → Inside f most → part one most ≡ true → Inside r most
  inside-with most inside h X l own =
      or-either (inside X l) (λ e. sym (ap (λ (x : ℕ). part x most) (eqb-true one X e)) ∙ h) (sym (is X l) ∙ own)

-- the sets of both
module _ (f g r : Family) (is : FamilyOf (λ X. in_family f X or in_family g X) r) where
  pub or-before : Within f r
  or-before X l own = is X l ∙ or-first (in_family g X) own

  pub or-other : Within g r
  or-other X l own = is X l ∙ or-second (in_family f X) own

  pub inside-or : (most : ℕ) → Inside f most → Inside g most → Inside r most
  inside-or most inside within X l own = or-either (inside X l) (within X l) (sym (is X l) ∙ own)

-- the unions of a set of f and a set of g
module _ (f g : Family) where
  pub joins-shows : (X : ℕ) → joins f g X ≡ true
      → (Y : ℕ) × (Z : ℕ) × (Y < all_sets) × (Z < all_sets) × (in_family f Y ≡ true) × (in_family g Z ≡ true) × (bit_or Y Z ≡ X)
  unfolding joins raises
  joins-shows X h =
      let (Y, few, one, rest) = any-in f (λ Y. raises g Y X) h in
      let (Z, less, two, same) = any-in g (λ Z. eqb (bit_or Y Z) X) rest in
      (Y, Z, few, less, one, two, eqb-true (bit_or Y Z) X same)

  pub joins-reached : (Y Z : ℕ) → Y < all_sets → Z < all_sets → in_family f Y ≡ true → in_family g Z ≡ true
      → joins f g (bit_or Y Z) ≡ true
  unfolding joins raises
  joins-reached Y Z few less one two =
      in-any f (λ Y₁. raises g Y₁ (bit_or Y Z)) Y few one
      (in-any g (λ Z₁. eqb (bit_or Y Z₁) (bit_or Y Z)) Z less two (eq-eqb (bit_or Y Z) (bit_or Y Z) refl))

  module _ (r : Family) (is : FamilyOf (joins f g) r) where
    pub covers-joined : (X Y Z : ℕ) → part X (bit_or Y Z) ≡ true → covers f Y ≡ true → covers g Z ≡ true → covers r X ≡ true
    covers-joined X Y Z h one two =
        let (Y₁, few, own, more) = covers-shows f Y one in
        let (Z₁, less, other, also) = covers-shows g Z two in
        let fits = or_lt 8 Y₁ Z₁ few less in
        covers-reached r X (bit_or Y₁ Z₁) fits (is (bit_or Y₁ Z₁) fits ∙ joins-reached Y₁ Z₁ few less own other)
        (part-trans X (bit_or Y Z) (bit_or Y₁ Z₁) h (part-both Y Z Y₁ Z₁ more also))
      where
        part-both : (a b x y : ℕ) → part a x ≡ true → part b y ≡ true → part (bit_or a b) (bit_or x y) ≡ true
        part-both a b x y first second =
            part-or a b (bit_or x y) (part-trans a x (bit_or x y) first (part-or-left x y))
            (part-trans b y (bit_or x y) second (part-or-right x y))

    pub inside-joined : (most : ℕ) → Inside f most → Inside g most → Inside r most
    inside-joined most inside within X l own =
        let (Y, Z, few, less, one, two, same) = joins-shows X (sym (is X l) ∙ own) in
        ap (λ (x : ℕ). part x most) (sym same) ∙ part-or Y Z most (inside Y few one) (within Z less two)

-- the parts of `most` that some set of `later` completes to a set of f
module _ (f later : Family) (most : ℕ) where
  pub leaves-shows : (X : ℕ) → leaves f later most X ≡ true
      → (part X most ≡ true) × (Z : ℕ) × (Z < all_sets) × (in_family later Z ≡ true) × (in_family f (bit_or X Z) ≡ true)
  unfolding leaves completes
  leaves-shows X h =
      let (Z, less, one, own) = any-in later (λ Z. in_family f (bit_or X Z)) (and_second (part X most) _ h) in
      (and_first (part X most) _ h, Z, less, one, own)

  pub leaves-reached : (X Z : ℕ) → part X most ≡ true → Z < all_sets → in_family later Z ≡ true → in_family f (bit_or X Z) ≡ true
      → leaves f later most X ≡ true
  unfolding leaves completes
  leaves-reached X Z h less one own = and_both h (in-any later (λ Z. in_family f (bit_or X Z)) Z less one own)

  pub inside-left : (r : Family) → FamilyOf (leaves f later most) r → Inside r most
  inside-left r is X l own = (leaves-shows X (sym (is X l) ∙ own)).0
