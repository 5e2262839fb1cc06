-- Sets that meet cuts: a set that includes another meets what that meets, and what passes meets every cut.
use mathlib.Core.Path.{◌≡◌, refl, sym, ap, ◌∙◌}
use mathlib.Core.List.{List}
use mathlib.Core.Bool.{Bool, true, false, not}
use Prim.Native.Nat.{ℕ, ◌^◌, ◌<◌}
use native.Mathlib.Omega.{arith}
use lib.ListN.{get_or, length}
use lib.Bits.{bit_and, bit_or}
use borrow.Author.Tests.{not-true, not-false}
use Rattle.sets.specs.Logic.{◌and◌}
use Rattle.sets.specs.Sets.{in_set, meets, part}
use Rattle.sets.proofs.Tests.{and_both, and_first, and_second, any_none, any-not, any-shows, false-true, refuted}
use Rattle.sets.proofs.Members.{in_set-and, part-le}
use Rattle.sets.proofs.Without.{meets-mono}
use Rattle.cuts.specs.Cuts.{Cuts, More, Ready, Tight, between, is_sole, meets_all}

module _ (cuts : List ℕ) (count Y : ℕ) where
  pub meets-each : meets_all cuts count Y ≡ true → (i : ℕ) → i < count → meets Y (get_or cuts i 0) ≡ true
  unfolding meets_all
  meets-each h i l = not-false _ (any-not (λ i. not (meets Y (get_or cuts i 0))) count i (not-true _ h) l)

  pub meets-shown : ((i : ℕ) → i < count → meets Y (get_or cuts i 0) ≡ true) → meets_all cuts count Y ≡ true
  unfolding meets_all
  meets-shown each = ap not (any_none (λ i. not (meets Y (get_or cuts i 0))) count (λ i l. ap not (each i l)))

  pub meets-fails : (i : ℕ) → i < count → meets Y (get_or cuts i 0) ≡ false → meets_all cuts count Y ≡ false
  meets-fails i l h = refuted (meets_all cuts count Y) (λ all. false-true (sym h ∙ meets-each all i l))

-- a set that includes another meets all cuts that it meets; more cuts are harder to meet
pub meets-all-mono : (cuts : List ℕ) (count X Y : ℕ) → part X Y ≡ true → meets_all cuts count X ≡ true
    → meets_all cuts count Y ≡ true
meets-all-mono cuts count X Y h all =
    meets-shown cuts count Y (λ i l. meets-mono X Y (get_or cuts i 0) h (meets-each cuts count X all i l))

module _ {p : ℕ → Bool} {n : ℕ} {cuts : List ℕ} {count : ℕ} where
  -- what passes meets all cuts
  pub passes-meets : Cuts p n cuts count → (Y : ℕ) → Y < 2 ^ n → p Y ≡ true → meets_all cuts count Y ≡ true
  passes-meets known Y few passes = meets-shown cuts count Y (λ i l. known.each i l Y few passes)

  pub unmet-fails : Cuts p n cuts count → (Y : ℕ) → Y < 2 ^ n → meets_all cuts count Y ≡ false → p Y ≡ false
  unmet-fails known Y few h = refuted (p Y) (λ passes. false-true (sym h ∙ passes-meets known Y few passes))

  module _ {cuts' : List ℕ} {count' : ℕ} (m : More p n cuts count cuts' count') where
    pub more-meets : (Y : ℕ) → meets_all cuts' count' Y ≡ true → meets_all cuts count Y ≡ true
    more-meets Y all =
        meets-shown cuts count Y (λ i l.
        ap (meets Y) (sym (m.kept i l)) ∙ meets-each cuts' count' Y all i (omega (arith, m.more)))

    pub more_room : count' < length cuts' → count < length cuts
    more_room l = omega (arith, m.more, m.size)

    -- and more of them
    pub more-more : {cuts'' : List ℕ} {count'' : ℕ} → More p n cuts' count' cuts'' count'' → More p n cuts count cuts'' count''
    more-more l =
        record {
          size = l.size ∙ m.size;
          more = omega (arith, m.more, l.more);
          kept = λ i h. l.kept i (omega (arith, m.more)) ∙ m.kept i h;
          known = l.known;
        }

    -- what is known before a search stays known
    pub more-tight : (chosen free : ℕ) → (count < length cuts → Tight p chosen free cuts count)
        → count' < length cuts' → Tight p chosen free cuts' count'
    more-tight chosen free tight room X c own out here all = tight (more_room room) X c own out here (more-meets X all)

    pub more-ready : {chosen free : ℕ} → Ready p n chosen free cuts count → Ready p n chosen free cuts' count'
    more-ready {chosen} {free} r =
        record { apart = r.apart; fits = r.fits; known = m.known; tight = more-tight chosen free r.tight }

  pub more_same : Cuts p n cuts count → More p n cuts count cuts count
  more_same known = record { size = refl; more = omega arith; kept = λ i l. refl; known = known }

-- the sets of a region: they include `chosen` and have nothing outside of chosen and free
module _ (chosen free Y : ℕ) where
  pub between-from : between chosen free Y ≡ true → part chosen Y ≡ true
  unfolding between
  between-from h = and_first _ _ h

  pub between-upto : between chosen free Y ≡ true → part Y (bit_or chosen free) ≡ true
  unfolding between
  between-upto h = and_second (part chosen Y) _ h

  pub between-shown : part chosen Y ≡ true → part Y (bit_or chosen free) ≡ true → between chosen free Y ≡ true
  unfolding between
  between-shown h l = and_both h l

  pub between-fits : (n : ℕ) → bit_or chosen free < 2 ^ n → between chosen free Y ≡ true → Y < 2 ^ n
  between-fits n fits h = omega (arith, part-le Y (bit_or chosen free) (between-upto h))

-- one of the first cuts has c, and nothing else that is chosen
module _ (cuts : List ℕ) (count chosen c : ℕ) where
  abbrev Sole : ℕ → Bool
  Sole i = in_set (bit_and (get_or cuts i 0) chosen) c and part (bit_and (get_or cuts i 0) chosen) (2 ^ c)

  pub sole-cut : is_sole cuts count chosen c ≡ true → (i : ℕ) × (i < count) × (in_set (get_or cuts i 0) c ≡ true)
      × (in_set chosen c ≡ true) × (part (bit_and (get_or cuts i 0) chosen) (2 ^ c) ≡ true)
  unfolding is_sole
  sole-cut h =
      let (i, l, there) = any-shows Sole count h in
      let both = sym (in_set-and (get_or cuts i 0) chosen c) ∙ and_first _ _ there in
      (i, l, and_first _ _ both, and_second (in_set (get_or cuts i 0) c) _ both, and_second _ _ there)

  pub sole-not : is_sole cuts count chosen c ≡ false → in_set chosen c ≡ true → (i : ℕ) → i < count
      → in_set (get_or cuts i 0) c ≡ true → part (bit_and (get_or cuts i 0) chosen) (2 ^ c) ≡ false
  unfolding is_sole
  sole-not h own i l there =
      refuted _ (λ alone.
      false-true (sym (any-not Sole count i h l)
      ∙ and_both (in_set-and (get_or cuts i 0) chosen c ∙ and_both there own) alone))
