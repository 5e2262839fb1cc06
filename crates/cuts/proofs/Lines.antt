-- What a search for the least sets of a monotone test knows by its cuts, line by line (specs/Cuts.antt). A region is the sets
-- that include `chosen` and have nothing outside of chosen and free.
use mathlib.Core.Path.{◌≡◌, refl, sym, ap, ◌∙◌}
use mathlib.Core.List.{List}
use mathlib.Core.Bool.{Bool, true, false, not}
use Prim.Native.Nat.{ℕ, ◌+◌, ◌^◌, ◌<◌}
use native.Mathlib.Omega.{arith}
use native.Mathlib.Decide.{ℕ_discrete}
use lib.ListN.{get_or, length, set, length-set}
use lib.Seq.{get_or-set_other, get_or-set_same}
use lib.Dec.{eqb, ltb}
use lib.Bits.{bit_and, bit_or, bit_xor, or_zero_r}
use borrow.Author.Tests.{eq-eqb, eqb-true, lt-ltb, not-true}
use Rattle.sets.specs.Logic.{◌and◌, ◌or◌}
use Rattle.sets.specs.Sets.{in_set, meets, part}
use Rattle.sets.proofs.Tests.{and_both, and_first, and_second, false-true, or-either, or-first, or-second}
use Rattle.sets.proofs.Tests.{refuted, same_test}
use Rattle.sets.proofs.Members.{below-members, in_set-and, in_set-or, in_set-zero, meets-common, one-among, own-bit, part-antisym}
use Rattle.sets.proofs.Members.{part-le, part-member, part-or, part-or-left, part-or-right, part-refl, part-shown, part-trans}
use Rattle.sets.proofs.Without.{common-meets, one-is, part-fails, with-member, with-own}
use Rattle.sets.proofs.Without.{without_back, without-member, without_other, without-own, without-part}
use Rattle.cuts.specs.Cuts.{Barren, Cut, Cuts, Monotone, More, Ready, Searched, Tight, between, is_least, is_sole, meets_all}
use Rattle.cuts.proofs.Least.{least-by-one, least-least, least-not, least-passes}
use Rattle.cuts.proofs.Meeting.{between-fits, between-from, between-shown, between-upto, meets-all-mono, meets-each}
use Rattle.cuts.proofs.Meeting.{meets-fails, meets-shown, more-meets, more-ready, more_room, more-tight, passes-meets}
use Rattle.cuts.proofs.Meeting.{sole-cut, sole-not, unmet-fails}

module _ {p : ℕ → Bool} {n chosen free : ℕ} {cuts : List ℕ} {count : ℕ} (r : Ready p n chosen free cuts count) where
  region-fits : (Y : ℕ) → between chosen free Y ≡ true → Y < 2 ^ n
  region-fits Y here = between-fits chosen free Y n r.fits here

  pub chosen-fits : chosen < 2 ^ n
  chosen-fits = omega (arith, r.fits, part-le chosen (bit_or chosen free) (part-or-left chosen free))

  pub free-fits : free < 2 ^ n
  free-fits = omega (arith, r.fits, part-le free (bit_or chosen free) (part-or-right chosen free))

  pub chosen-here : between chosen free chosen ≡ true
  chosen-here = between-shown chosen free chosen (part-refl chosen) (part-or-left chosen free)

  -- Line 1: a cut meets neither chosen nor free
  module _ (h : meets_all cuts count (bit_or chosen free) ≡ false) where
    unmet-here : (Y : ℕ) → between chosen free Y ≡ true → meets_all cuts count Y ≡ false
    unmet-here Y here =
        refuted (meets_all cuts count Y) (λ all.
        false-true (sym h ∙ meets-all-mono cuts count Y (bit_or chosen free) (between-upto chosen free Y here) all))

    pub cut_off : (Y : ℕ) → between chosen free Y ≡ true → p Y ≡ false
    cut_off Y here = unmet-fails r.known Y (region-fits Y here) (unmet-here Y here)

    pub cut-off-barren : Barren p chosen free cuts count
    cut-off-barren =
        record {
          none = λ Y here. least-not p Y (cut_off Y here);
          searched = λ room Y here all. absurd (false-true (sym (unmet-here Y here) ∙ all));
        }

  -- Line 2: a chosen member is in no cut the only one chosen, so what meets all cuts meets them without it
  module _ (c : ℕ) (own : in_set chosen c ≡ true) (idle : is_sole cuts count chosen c ≡ false) where
    module _ (Y : ℕ) (here : between chosen free Y ≡ true) where
      there : (s : ℕ) → in_set chosen s ≡ true → in_set Y s ≡ true
      there s = part-member chosen Y s (between-from chosen free Y here)

      -- a common member with a cut is another one, or the cut has another chosen one
      cut-without : (i : ℕ) → i < count → meets Y (get_or cuts i 0) ≡ true → meets (bit_xor Y (2 ^ c)) (get_or cuts i 0) ≡ true
      cut-without i l met =
          let (s, inside, cut) = meets-common Y (get_or cuts i 0) met in
          go s inside cut (ℕ_discrete c s)
        where
          go : (s : ℕ) → in_set Y s ≡ true → in_set (get_or cuts i 0) s ≡ true → Dec (c ≡ s)
              → meets (bit_xor Y (2 ^ c)) (get_or cuts i 0) ≡ true
          go s inside cut (no other) =
              common-meets (bit_xor Y (2 ^ c)) (get_or cuts i 0) s (without_other Y c s other ∙ inside) cut
          go s inside cut (yes e) =
              let more = sole-not cuts count chosen c idle own i l (ap (in_set (get_or cuts i 0)) e ∙ cut) in
              let few : bit_and (get_or cuts i 0) chosen < 2 ^ n =
              omega (
                arith,
                part-le (bit_and (get_or cuts i 0) chosen) chosen
                    (part-shown (bit_and (get_or cuts i 0) chosen) chosen (λ s m.
                    and_second _ _ (sym (in_set-and (get_or cuts i 0) chosen s) ∙ m))),
                chosen-fits,
              ) in
              let (d, both, out) = part-fails (bit_and (get_or cuts i 0) chosen) (2 ^ c) n few more in
              let two = sym (in_set-and (get_or cuts i 0) chosen d) ∙ both in
              let other : c ≡ d → ⊥ = λ same. false-true (sym out ∙ ap (in_set (2 ^ c)) (sym same) ∙ own-bit c) in
              common-meets (bit_xor Y (2 ^ c)) (get_or cuts i 0) d
              (without_other Y c d other ∙ there d (and_second _ _ two)) (and_first _ _ two)

      without-passes : count < length cuts → meets_all cuts count Y ≡ true → p (bit_xor Y (2 ^ c)) ≡ true
      without-passes room all =
          let back = without_back Y c (there c own) in
          r.tight room (bit_xor Y (2 ^ c)) c own (without-own Y c (there c own)) (ap (between chosen free) back ∙ here)
          (meets-shown cuts count (bit_xor Y (2 ^ c)) (λ i l. cut-without i l (meets-each cuts count Y all i l)))

    pub idle-barren : Monotone p n → count < length cuts → Barren p chosen free cuts count
    idle-barren mono room =
        record {
          none = λ Y here. refuted (is_least p Y) (λ least.
              let all = passes-meets r.known Y (region-fits Y here) (least-passes p Y least) in
              let passes = without-passes Y here room all in
              let same = least-least p Y least (bit_xor Y (2 ^ c)) (without-part Y c (there Y here c own)) passes in
              false-true (sym (without-own Y c (there Y here c own)) ∙ ap (λ (x : ℕ). in_set x c) same ∙ there Y here c own));
          searched = λ room' Y here all.
              mono (bit_xor Y (2 ^ c)) Y (region-fits Y here) (without-part Y c (there Y here c own))
              (without-passes Y here room all);
        }

  -- The code asks for the sole ones; one that is chosen and not among them is idle
  module _ (sole : ℕ) (told : (c : ℕ) → in_set sole c ≡ is_sole cuts count chosen c) where
    pub sole-some : (sole ≡ chosen → ⊥) → (c : ℕ) × (in_set chosen c ≡ true) × (is_sole cuts count chosen c ≡ false)
    sole-some differs =
        let chosen-only = part-shown sole chosen (λ s m. (sole-cut cuts count chosen s (sym (told s) ∙ m)).3) in
        let missing = refuted (part chosen sole) (λ h. differs (part-antisym sole chosen chosen-only h)) in
        let (c, own, out) = part-fails chosen sole n chosen-fits missing in
        (c, own, sym (told c) ∙ out)

  -- Line 3: what is chosen passes, so all the region passes, and no other one of it is least
  module _ (mono : Monotone p n) (passes : p chosen ≡ true) where
    -- where each chosen member is in some cut the only one chosen, without it that cut is not met
    pub sole-least : ((c : ℕ) → in_set chosen c ≡ true → is_sole cuts count chosen c ≡ true) → is_least p chosen ≡ true
    sole-least each = least-by-one p n mono chosen chosen-fits passes fails
      where
        fails : (c : ℕ) → in_set chosen c ≡ true → p (bit_xor chosen (2 ^ c)) ≡ false
        fails c own =
            let (i, l, cut, chosen-own, alone) = sole-cut cuts count chosen c (each c own) in
            let few : bit_xor chosen (2 ^ c) < 2 ^ n =
            omega (arith, part-le (bit_xor chosen (2 ^ c)) chosen (without-part chosen c own), chosen-fits) in
            refuted (p (bit_xor chosen (2 ^ c))) (λ there.
            let (s, left, met) = meets-common (bit_xor chosen (2 ^ c)) (get_or cuts i 0) (r.known.each i l _ few there) in
            let (other, inside) = without-member chosen c own s left in
            let both = in_set-and (get_or cuts i 0) chosen s ∙ and_both met inside in
            other (one-is c s (part-member (bit_and (get_or cuts i 0) chosen) (2 ^ c) s alone both)))

    pub passed-searched : Searched p chosen free cuts count
    passed-searched room Y here all = mono chosen Y (region-fits Y here) (between-from chosen free Y here) passes

    passed-only : (Y : ℕ) → between chosen free Y ≡ true → is_least p Y ≡ true → chosen ≡ Y
    passed-only Y here least = least-least p Y least chosen (between-from chosen free Y here) passes

    pub passed-least : is_least p chosen ≡ true → (Y : ℕ) → (between chosen free Y and is_least p Y) ≡ eqb chosen Y
    passed-least least Y =
        same_test _ _ (λ h. eq-eqb chosen Y (passed-only Y (and_first _ _ h) (and_second (between chosen free Y) _ h)))
        (λ e. ap (λ (Y : ℕ). between chosen free Y and is_least p Y) (sym (eqb-true chosen Y e)) ∙ and_both chosen-here least)

    pub passed-barren : is_least p chosen ≡ false → Barren p chosen free cuts count
    passed-barren not_least =
        record {
          none = λ Y here. refuted (is_least p Y) (λ least.
              false-true (sym not_least ∙ ap (is_least p) (passed-only Y here least) ∙ least));
          searched = passed-searched;
        }

  -- where the array is full: nothing is free, and what is chosen does not pass
  pub full-barren : count ≡ length cuts → p chosen ≡ false → free ≡ 0 → Barren p chosen free cuts count
  full-barren full fails nothing =
      record {
        none = λ Y here.
            let upto = ap (λ (x : ℕ). part Y (bit_or chosen x)) (sym nothing) ∙ between-upto chosen free Y here in
            let same = part-antisym chosen Y (between-from chosen free Y here)
            (ap (part Y) (sym (or_zero_r chosen)) ∙ upto) in
            least-not p Y (sym (ap p same) ∙ fails);
        searched = λ room Y here all. absurd (omega arith);
      }

-- where the sole ones are all that are chosen
pub sole-all : (cuts : List ℕ) (count chosen sole : ℕ) → ((c : ℕ) → in_set sole c ≡ is_sole cuts count chosen c) → sole ≡ chosen
    → (c : ℕ) → in_set chosen c ≡ true → is_sole cuts count chosen c ≡ true
sole-all cuts count chosen sole told e c own = sym (told c) ∙ ap (λ (x : ℕ). in_set x c) e ∙ own

-- Line 4: what lies outside of a set that does not pass is a cut, and no part of that set meets it
module _ (p : ℕ → Bool) (n grown cut : ℕ) (outside : (c : ℕ) → in_set cut c ≡ (ltb c n and not (in_set grown c))) where
  pub outside-cut : Monotone p n → grown < 2 ^ n → p grown ≡ false → Cut p n cut
  outside-cut mono few fails Y small passes = go (meets Y cut) refl
    where
      inside : meets Y cut ≡ false → (s : ℕ) → in_set Y s ≡ true → (b : Bool) → in_set grown s ≡ b → in_set grown s ≡ true
      inside unmet s m true e = e
      inside unmet s m false e =
          let there = outside s ∙ and_both (lt-ltb s n (below-members Y n s small m)) (ap not e) in
          absurd (false-true (sym unmet ∙ common-meets Y cut s m there))

      go : (b : Bool) → meets Y cut ≡ b → meets Y cut ≡ true
      go true e = e
      go false e =
          let all = part-shown Y grown (λ s m. inside e s m (in_set grown s) refl) in
          absurd (false-true (sym fails ∙ mono Y grown few all passes))

  pub outside-unmet : (chosen : ℕ) → part chosen grown ≡ true → meets chosen cut ≡ false
  outside-unmet chosen h =
      refuted (meets chosen cut) (λ met.
      let (s, own, there) = meets-common chosen cut met in
      let out = not-true _ (and_second (ltb s n) _ (sym (outside s) ∙ there)) in
      false-true (sym out ∙ part-member chosen grown s h own))

-- a cut more in the array
module _ {p : ℕ → Bool} {n : ℕ} {cuts : List ℕ} {count : ℕ} (cut : ℕ) (room : count < length cuts) where
  pub more-stored : Cuts p n cuts count → Cut p n cut → More p n cuts count (set cuts count cut) (count + 1)
  more-stored known new =
      record {
        size = length-set cuts count cut;
        more = omega arith;
        kept = λ i l. get_or-set_other cuts count i cut 0 (λ e. omega arith);
        known = record { room = omega (arith, length-set cuts count cut); each = λ i l. go i l (ℕ_discrete i count) };
      }
    where
      go : (i : ℕ) → i < count + 1 → Dec (i ≡ count) → Cut p n (get_or (set cuts count cut) i 0)
      go i l (yes e) =
          let same = ap (λ (i : ℕ). get_or (set cuts count cut) i 0) e ∙ get_or-set_same cuts count cut 0 room in
          rw same new
      go i l (no e) = let same = get_or-set_other cuts count i cut 0 e in rw same (known.each i (omega arith))

  -- which nothing that is free meets either
  pub stored-barren : {chosen free : ℕ} → Ready p n chosen free cuts count → Cut p n cut → meets chosen cut ≡ false
      → bit_and cut free ≡ 0 → Barren p chosen free (set cuts count cut) (count + 1)
  stored-barren {chosen} {free} r new unmet apart =
      cut-off-barren (more-ready (more-stored r.known new) r)
      (meets-fails (set cuts count cut) (count + 1) (bit_or chosen free) count (omega arith)
      (rw (get_or-set_same cuts count cut 0 room) (refuted (meets (bit_or chosen free) cut) (λ met.
      let (s, one, there) = meets-common (bit_or chosen free) cut met in
      or-either (λ own. false-true (sym unmet ∙ common-meets chosen cut s own there))
      (λ loose.
      let both = in_set-and cut free s ∙ and_both there loose in
      false-true (sym (in_set-zero s) ∙ ap (λ (x : ℕ). in_set x s) (sym apart) ∙ both))
      (sym (in_set-or chosen free s) ∙ one)))))

-- Line 5: by b of free the region is split in two, without b and with it
module _ (chosen free b : ℕ) (loose : in_set free b ≡ true) where
  rest_more : (s : ℕ) → in_set (bit_or chosen (bit_xor free (2 ^ b))) s ≡ true → in_set (bit_or chosen free) s ≡ true
  rest_more s m =
      in_set-or chosen free s
      ∙ or-either (λ own. or-first (in_set free s) own)
      (λ left. or-second (in_set chosen s) (without-member free b loose s left).1)
      (sym (in_set-or chosen (bit_xor free (2 ^ b)) s) ∙ m)

  rest_part : part (bit_or chosen (bit_xor free (2 ^ b))) (bit_or chosen free) ≡ true
  rest_part = part-shown _ _ rest_more

  with_part : part (bit_or (bit_or chosen (2 ^ b)) (bit_xor free (2 ^ b))) (bit_or chosen free) ≡ true
  with_part =
      part-or (bit_or chosen (2 ^ b)) (bit_xor free (2 ^ b)) (bit_or chosen free)
      (part-or chosen (2 ^ b) (bit_or chosen free) (part-or-left chosen free)
      (part-trans (2 ^ b) free (bit_or chosen free) (one-among b free loose) (part-or-right chosen free)))
      (part-trans (bit_xor free (2 ^ b)) free (bit_or chosen free) (without-part free b loose) (part-or-right chosen free))

  pub between-out : (Y : ℕ) → between chosen (bit_xor free (2 ^ b)) Y ≡ true → between chosen free Y ≡ true
  between-out Y here =
      between-shown chosen free Y (between-from chosen (bit_xor free (2 ^ b)) Y here)
      (part-trans Y _ (bit_or chosen free) (between-upto chosen (bit_xor free (2 ^ b)) Y here) rest_part)

  pub between_in : (Y : ℕ) → between (bit_or chosen (2 ^ b)) (bit_xor free (2 ^ b)) Y ≡ true → between chosen free Y ≡ true
  between_in Y here =
      between-shown chosen free Y
      (part-trans chosen (bit_or chosen (2 ^ b)) Y (part-or-left chosen (2 ^ b))
      (between-from (bit_or chosen (2 ^ b)) (bit_xor free (2 ^ b)) Y here))
      (part-trans Y _ (bit_or chosen free) (between-upto (bit_or chosen (2 ^ b)) (bit_xor free (2 ^ b)) Y here) with_part)

  -- a set of the region that does not have b, and one that has it
  stays_out : (Y : ℕ) → between chosen free Y ≡ true → in_set Y b ≡ false → between chosen (bit_xor free (2 ^ b)) Y ≡ true
  stays_out Y here out =
      between-shown chosen (bit_xor free (2 ^ b)) Y (between-from chosen free Y here)
      (part-shown Y (bit_or chosen (bit_xor free (2 ^ b))) (λ s m.
      in_set-or chosen (bit_xor free (2 ^ b)) s
      ∙ or-either (λ own. or-first _ own)
      (λ there. or-second (in_set chosen s)
      (without_other free b s (λ e. false-true (sym out ∙ ap (in_set Y) e ∙ m)) ∙ there))
      (sym (in_set-or chosen free s) ∙ part-member Y (bit_or chosen free) s (between-upto chosen free Y here) m)))

  stays-in : (Y : ℕ) → between chosen free Y ≡ true → in_set Y b ≡ true
      → between (bit_or chosen (2 ^ b)) (bit_xor free (2 ^ b)) Y ≡ true
  stays-in Y here own =
      between-shown (bit_or chosen (2 ^ b)) (bit_xor free (2 ^ b)) Y
      (part-or chosen (2 ^ b) Y (between-from chosen free Y here) (one-among b Y own))
      (part-shown Y (bit_or (bit_or chosen (2 ^ b)) (bit_xor free (2 ^ b))) (λ s m.
      in_set-or (bit_or chosen (2 ^ b)) (bit_xor free (2 ^ b)) s ∙ go s (ℕ_discrete b s)
      (sym (in_set-or chosen free s) ∙ part-member Y (bit_or chosen free) s (between-upto chosen free Y here) m)))
    where
      go : (s : ℕ) → Dec (b ≡ s) → (in_set chosen s or in_set free s) ≡ true
          → (in_set (bit_or chosen (2 ^ b)) s or in_set (bit_xor free (2 ^ b)) s) ≡ true
      go s (yes e) there = or-first _ (ap (in_set (bit_or chosen (2 ^ b))) (sym e) ∙ with-own chosen b)
      go s (no e) there =
          or-either (λ old. or-first _ (part-member chosen (bit_or chosen (2 ^ b)) s (part-or-left chosen (2 ^ b)) old))
          (λ left. or-second _ (without_other free b s e ∙ left)) there

  pub between_split : (Y : ℕ)
      → between chosen free Y ≡ (between chosen (bit_xor free (2 ^ b)) Y or between (bit_or chosen (2 ^ b)) (bit_xor free (2 ^ b)) Y)
  between_split Y = same_test _ _ (λ here. go here (in_set Y b) refl) (or-either (between-out Y) (between_in Y))
    where
      go : between chosen free Y ≡ true → (has : Bool) → in_set Y b ≡ has
          → (between chosen (bit_xor free (2 ^ b)) Y or between (bit_or chosen (2 ^ b)) (bit_xor free (2 ^ b)) Y) ≡ true
      go here true e = or-second _ (stays-in Y here e)
      go here false e = or-first _ (stays_out Y here e)

module _ {p : ℕ → Bool} {n chosen free : ℕ} {cuts : List ℕ} {count : ℕ} (r : Ready p n chosen free cuts count)
    (b : ℕ) (loose : in_set free b ≡ true) where
  not_chosen : in_set chosen b ≡ false
  not_chosen = refuted (in_set chosen b) (λ own. false-true (sym (r.apart b own) ∙ loose))

  -- no set is in both
  pub between-apart : (Y : ℕ) → between (bit_or chosen (2 ^ b)) (bit_xor free (2 ^ b)) Y ≡ true
      → between chosen (bit_xor free (2 ^ b)) Y ≡ false
  between-apart Y here =
      refuted (between chosen (bit_xor free (2 ^ b)) Y) (λ out.
      let has = part-member (bit_or chosen (2 ^ b)) Y b
      (between-from (bit_or chosen (2 ^ b)) (bit_xor free (2 ^ b)) Y here) (with-own chosen b) in
      let among = part-member Y (bit_or chosen (bit_xor free (2 ^ b))) b (between-upto chosen (bit_xor free (2 ^ b)) Y out) has in
      or-either (λ own. false-true (sym not_chosen ∙ own)) (λ left. false-true (sym (without-own free b loose) ∙ left))
      (sym (in_set-or chosen (bit_xor free (2 ^ b)) b) ∙ among))

  -- before the search without b
  pub ready-out : Ready p n chosen (bit_xor free (2 ^ b)) cuts count
  ready-out =
      record {
        apart = λ c own. refuted _ (λ left. false-true (sym (r.apart c own) ∙ (without-member free b loose c left).1));
        fits = omega (arith, part-le _ _ (rest_part chosen free b loose), r.fits);
        known = r.known;
        tight = λ room X c own out here all. r.tight room X c own out (between-out chosen free b loose _ here) all;
      }

  module _ {cuts' : List ℕ} {count' : ℕ} (m : More p n cuts count cuts' count')
      (found : Searched p chosen (bit_xor free (2 ^ b)) cuts' count') where
    -- a set with b, without b: it is of the region without b, which has been searched
    taken_out : (X : ℕ) → in_set X b ≡ false → between (bit_or chosen (2 ^ b)) (bit_xor free (2 ^ b)) (bit_or X (2 ^ b)) ≡ true
        → between chosen (bit_xor free (2 ^ b)) X ≡ true
    taken_out X out here =
        let region = between_in chosen free b loose (bit_or X (2 ^ b)) here in
        let from = part-shown chosen X (λ s own.
        with-member X b s (λ there. there) (λ e. absurd (false-true (sym not_chosen ∙ ap (in_set chosen) e ∙ own)))
        (part-member chosen (bit_or X (2 ^ b)) s (between-from chosen free (bit_or X (2 ^ b)) region) own)) in
        let upto = part-trans X (bit_or X (2 ^ b)) (bit_or chosen free) (part-or-left X (2 ^ b))
        (between-upto chosen free (bit_or X (2 ^ b)) region) in
        stays_out chosen free b loose X (between-shown chosen free X from upto) out

    in-tight : count' < length cuts' → Tight p (bit_or chosen (2 ^ b)) (bit_xor free (2 ^ b)) cuts' count'
    in-tight room X c own out here all = go (ℕ_discrete b c)
      where
        go : Dec (b ≡ c) → p X ≡ true
        go (yes e) =
            found room X (taken_out X (ap (in_set X) e ∙ out)
            (ap (λ (c : ℕ). between (bit_or chosen (2 ^ b)) (bit_xor free (2 ^ b)) (bit_or X (2 ^ c))) e ∙ here)) all
        go (no e) =
            with-member chosen b c (λ old. more-tight m chosen free r.tight room X c old out
            (between_in chosen free b loose (bit_or X (2 ^ c)) here) all) (λ same. absurd (e same)) own

    -- before the search with b, after that without it
    pub ready-in : Ready p n (bit_or chosen (2 ^ b)) (bit_xor free (2 ^ b)) cuts' count'
    ready-in =
        record {
          apart = λ c own. refuted _ (λ left.
              let (other, there) = without-member free b loose c left in
              with-member chosen b c (λ old. false-true (sym (r.apart c old) ∙ there)) other own);
          fits = omega (arith, part-le _ _ (with_part chosen free b loose), r.fits);
          known = m.known;
          tight = in-tight;
        }

    -- after both
    pub searched-both : {cuts'' : List ℕ} {count'' : ℕ} → More p n cuts' count' cuts'' count''
        → Searched p (bit_or chosen (2 ^ b)) (bit_xor free (2 ^ b)) cuts'' count'' → Searched p chosen free cuts'' count''
    searched-both l later room Y here all =
        or-either (λ out. found (more_room l room) Y out (more-meets l Y all)) (λ in'. later room Y in' all)
        (sym (between_split chosen free b loose Y) ∙ here)
