-- A region's search, by the laws of cuts: it has nothing minimal in it, or what is chosen is the one minimal set of it, or it is
-- split in two. specs/Below.antt says what is asked and given.
use mathlib.Core.Path.{◌≡◌, refl, sym, ap, ◌∙◌}
use mathlib.Core.List.{List}
use mathlib.Core.Bool.{Bool, true, false, not}
use Prim.Native.Nat.{ℕ, ◌+◌, ◌*◌, ◌%◌, ◌^◌, ◌<◌, ◌≤◌}
use native.Mathlib.Omega.{arith}
use native.Mathlib.Decide.{ℕ_discrete}
use lib.ListN.{length, set}
use lib.Bits.{bit_and, bit_or, bit_xor}
use lib.Dec.{eqb, ltb}
use lib.Pow.{pow_mono}
use borrow.Author.Tests.{eqb-false}
use Rattle.sets.specs.Logic.{◌and◌, ◌or◌}
use Rattle.sets.specs.Sets.{in_set, part}
use Rattle.sets.proofs.Tests.{and_first, and-is-off, and_second, false-true, or-and, or_assoc, or-false, refuted}
use Rattle.sets.proofs.Members.{one_bit, part-le, part-member, part-zero}
use Rattle.sets.proofs.Without.{and-part, without-own, without-part}
use Rattle.cuts.specs.Cuts.{Barren, RegionJudged, More, Ready, between, is_least}
use Rattle.cuts.proofs.Meeting.{more-more, more-ready, more_same}
use Rattle.cuts.proofs.Lines.{between-apart, between_in, between-out, between_split, chosen-fits, chosen-here}
use Rattle.cuts.proofs.Lines.{free-fits, more-stored, outside-cut, outside-unmet, passed-barren, passed-least}
use Rattle.cuts.proofs.Lines.{passed-searched, ready-in, ready-out, searched-both, sole-least, stored-barren}
use Rattle.sorted.specs.Sorted.{or_is}
use Rattle.sorted.proofs.Lists.{those-few}
use Rattle.sorted.proofs.Holding.{holds_same}
use Rattle.table.specs.Layout.{credentials}
use Rattle.table.specs.Holding.{WellFormed}
use Rattle.table.specs.declared.Query.{Query}
use Rattle.admission.specs.Admits.{admits}
use Rattle.candidates.specs.Candidates.{Grown, InsertedIfLeast}
use Rattle.minimal.proofs.Spare.{admits-monotone}
use Rattle.regions.specs.Below.{Decided, Ended, Held, and_least}

-- the buffer has room for every set, so the count fits
pub held-few : {n chosen free : ℕ} {sets : List ℕ} {found : ℕ} → n ≤ 20 → Held n chosen free sets found → found < 2 ^ 32
held-few {n} few h =
    omega (arith, h.holds.count, those-few h.test (2 ^ n), pow_mono {i = n} {j = 20} few)

-- what the buffer's test and the least sets of the region are together
module _ (found p : ℕ → Bool) (chosen free Y : ℕ) where
  least-none : (between chosen free Y ≡ true → is_least p Y ≡ false) → found Y ≡ and_least found p chosen free Y
  unfolding and_least
  least-none none =
      let off = refuted (between chosen free Y and is_least p Y) (λ e.
      false-true (sym (none (and_first _ _ e)) ∙ and_second (between chosen free Y) _ e)) in
      sym (ap (λ (b : Bool). found Y or b) off ∙ or-false (found Y))

  least-one : (between chosen free Y and is_least p Y) ≡ eqb chosen Y → or_is found chosen Y ≡ and_least found p chosen free Y
  unfolding and_least or_is
  least-one e = ap (λ (b : Bool). found Y or b) (sym e)

  least-apart : found Y ≡ false → between chosen free Y ≡ false → and_least found p chosen free Y ≡ false
  unfolding and_least ◌or◌
  least-apart h out = rw h (and-is-off _ out)

  least-split : (b : ℕ) → in_set free b ≡ true
      → and_least (and_least found p chosen (bit_xor free (2 ^ b))) p (bit_or chosen (2 ^ b)) (bit_xor free (2 ^ b)) Y
      ≡ and_least found p chosen free Y
  unfolding and_least
  least-split b loose =
      let rest = bit_xor free (2 ^ b) in
      let l = is_least p Y in
      or_assoc (found Y) (between chosen rest Y and l) (between (bit_or chosen (2 ^ b)) rest Y and l)
      ∙ ap (λ (b : Bool). found Y or b)
      (sym (ap (λ (b : Bool). b and l) (between_split chosen free b loose Y)
      ∙ or-and (between chosen rest Y) (between (bit_or chosen (2 ^ b)) rest Y) l))

module _ {t : List ℕ} {q : Query} {chosen free : ℕ} {cuts : List ℕ} {count : ℕ} {sets : List ℕ} {found : ℕ} where
  -- nothing minimal is here, and nothing is put into the buffer
  pub ended-barren : {cuts' : List ℕ} {count' : ℕ} {sets' : List ℕ} {found' : ℕ}
      → More (admits t q) (credentials t) cuts count cuts' count' → Barren (admits t q) chosen free cuts' count'
      → sets' ≡ sets → found' ≡ found → Ended t q chosen free cuts count cuts' count' sets found sets' found'
  ended-barren m b e l =
      record {
        more = m;
        searched = b.searched;
        adds = λ h. rw (e, l)
            (holds_same h.test (and_least h.test (admits t q) chosen free) (2 ^ credentials t)
            (λ Y few. least-none h.test (admits t q) chosen free Y (b.none Y)) h.holds);
      }

  -- what is chosen is the only set here that may be minimal
  pub ended-kept : {sets' : List ℕ} {found' : ℕ} → WellFormed t → Ready (admits t q) (credentials t) chosen free cuts count
      → admits t q chosen ≡ true → InsertedIfLeast (admits t q) chosen sets found sets' found'
      → Ended t q chosen free cuts count cuts count sets found sets' found'
  ended-kept {sets'} {found'} wf r passes k = go (is_least (admits t q) chosen) refl
    where
      go : (b : Bool) → is_least (admits t q) chosen ≡ b → Ended t q chosen free cuts count cuts count sets found sets' found'
      go true e =
          record {
            more = more_same r.known;
            searched = passed-searched r (admits-monotone t wf q) passes;
            adds = λ h.
                holds_same (or_is h.test chosen) (and_least h.test (admits t q) chosen free) (2 ^ credentials t)
                (λ Y few. least-one h.test (admits t q) chosen free Y (passed-least r (admits-monotone t wf q) passes e Y))
                ((k.least e).holds h.test (2 ^ credentials t) h.before h.holds (chosen-fits r)
                (h.apart chosen (chosen-here r)));
          }
      go false e =
          ended-barren (more_same r.known) (passed-barren r (admits-monotone t wf q) passes e) (k.other e).0 (k.other e).1

  -- the search is over, or it is not and something that is free is left
  pub decided-over : {cuts' : List ℕ} {count' : ℕ} {sets' : List ℕ} {found' : ℕ}
      → Ended t q chosen free cuts count cuts' count' sets found sets' found'
      → Decided t q chosen free cuts count cuts' count' sets found sets' found' 0
  decided-over e =
      record { among = part-zero free; over = λ z. e; more = e.more; same = λ some. absurd (some refl) }

  pub decided-left : {cuts' : List ℕ} {count' : ℕ} (left : ℕ) → part left free ≡ true
      → More (admits t q) (credentials t) cuts count cuts' count'
      → (left ≡ 0 → Barren (admits t q) chosen free cuts' count')
      → Decided t q chosen free cuts count cuts' count' sets found sets found left
  decided-left left inside m none =
      record { among = inside; over = λ z. ended-barren m (none z) refl refl; more = m; same = λ some. (refl, refl) }

-- where the array is not full and the cuts do not rule the region out, what is chosen and admitted is minimal
pub judged-least : (t : List ℕ) (q : Query) {chosen free : ℕ} {cuts : List ℕ} {count : ℕ} {barren : Bool} → WellFormed t
    → Ready (admits t q) (credentials t) chosen free cuts count → admits t q chosen ≡ true
    → RegionJudged cuts count chosen free barren → barren ≡ false → eqb count (length cuts) ≡ false → is_least (admits t q) chosen ≡ true
judged-least t q {cuts = cuts} {count = count} wf r passes j h more =
    sole-least r (admits-monotone t wf q) passes (j.sole h (omega (arith, eqb-false count (length cuts) more, r.known.room)))

-- a cut more: what lies outside of a set that includes the chosen ones and is not admitted
module _ {t : List ℕ} {q : Query} {chosen free : ℕ} {cuts : List ℕ} {count : ℕ} {sets : List ℕ} {found : ℕ} (wf : WellFormed t)
    (r : Ready (admits t q) (credentials t) chosen free cuts count) (more : count ≡ length cuts → ⊥) (grown cut : ℕ)
    (g : Grown (admits t q) (credentials t) chosen grown)
    (outside : (c : ℕ) → in_set cut c ≡ (ltb c (credentials t) and not (in_set grown c))) where
  pub decided-cut : Decided t q chosen free cuts count (set cuts count cut) (count + 1) sets found sets found (bit_and cut free)
  decided-cut =
      let room : count < length cuts = omega (arith, r.known.room) in
      let new = outside-cut (admits t q) (credentials t) grown cut outside (admits-monotone t wf q) g.fits g.fails in
      let unmet = outside-unmet (admits t q) (credentials t) grown cut outside chosen g.from in
      decided-left (bit_and cut free) (and-part cut free) (more-stored cut room r.known new)
      (λ none. stored-barren cut room r new unmet none)

-- split by b, which is free
pub held_out : {n chosen free : ℕ} {sets : List ℕ} {found : ℕ} (b : ℕ) → in_set free b ≡ true → Held n chosen free sets found
    → Held n chosen (bit_xor free (2 ^ b)) sets found
held_out {chosen = chosen} {free = free} b loose h =
    record {
      test = h.test;
      before = h.before;
      holds = h.holds;
      apart = λ Y here. h.apart Y (between-out chosen free b loose Y here);
    }

module _ {t : List ℕ} {q : Query} {chosen free : ℕ} {cuts : List ℕ} {count : ℕ}
    (r : Ready (admits t q) (credentials t) chosen free cuts count) (b : ℕ) (loose : in_set free b ≡ true) where
  module _ {cuts' : List ℕ} {count' : ℕ} {sets : List ℕ} {found : ℕ} {sets' : List ℕ} {found' : ℕ}
      (one : Ended t q chosen (bit_xor free (2 ^ b)) cuts count cuts' count' sets found sets' found') where
    pub held_in : Held (credentials t) chosen free sets found
        → Held (credentials t) (bit_or chosen (2 ^ b)) (bit_xor free (2 ^ b)) sets' found'
    unfolding held_out
    held_in h =
        record {
          test = and_least h.test (admits t q) chosen (bit_xor free (2 ^ b));
          before = h.before;
          holds = one.adds (held_out b loose h);
          apart = λ Y here. least-apart h.test (admits t q) chosen (bit_xor free (2 ^ b)) Y
              (h.apart Y (between_in chosen free b loose Y here)) (between-apart r b loose Y here);
        }

    pub ended-both : {cuts'' : List ℕ} {count'' : ℕ} {sets'' : List ℕ} {found'' : ℕ}
        → Ended t q (bit_or chosen (2 ^ b)) (bit_xor free (2 ^ b)) cuts' count' cuts'' count'' sets' found' sets'' found''
        → Ended t q chosen free cuts count cuts'' count'' sets found sets'' found''
    unfolding held_in held_out
    ended-both two =
        record {
          more = more-more one.more two.more;
          searched = searched-both r b loose one.more one.searched two.more two.searched;
          adds = λ h.
              holds_same _ (and_least h.test (admits t q) chosen free) (2 ^ credentials t)
              (λ Y few. least-split h.test (admits t q) chosen free Y b loose) (two.adds (held_in h));
        }

-- what is known where something is left to branch on: b is free, `rest` is what else is free, and `with` is what is chosen with b
pub record Splits (t : List ℕ) (q : Query) (chosen free : ℕ) (cuts : List ℕ) (count : ℕ) (sets : List ℕ) (found b : ℕ)
    : Type 0 where
  pub ready : Ready (admits t q) (credentials t) chosen free cuts count
  pub held : Held (credentials t) chosen free sets found
  pub loose : in_set free b ≡ true

module _ {t : List ℕ} {q : Query} {chosen free : ℕ} {cuts : List ℕ} {count : ℕ} {cuts' : List ℕ} {count' : ℕ} {sets : List ℕ}
    {found : ℕ} {sets' : List ℕ} {found' left : ℕ} (r : Ready (admits t q) (credentials t) chosen free cuts count)
    (d : Decided t q chosen free cuts count cuts' count' sets found sets' found' left) where
  pub left-few : credentials t ≤ 20 → left < 2 ^ 20
  left-few few =
      omega (arith, part-le left free d.among, free-fits r, pow_mono {i = credentials t} {j = 20} few)

  pub decided-splits : (left ≡ 0 → ⊥) → Held (credentials t) chosen free sets found → (b : ℕ) → in_set left b ≡ true
      → Splits t q chosen free cuts' count' sets' found' b
  decided-splits some h b inside =
      record {
        ready = more-ready d.more r;
        held = rw ((d.same some).0, (d.same some).1) h;
        loose = part-member left free b d.among inside;
      }

-- the code's `free ^ (1 << b)`
abbrev pub rest_of : ℕ → ℕ → ℕ
rest_of free b = bit_xor free ((1 * 2 ^ b) % 2 ^ 32)

module _ {t : List ℕ} {q : Query} {chosen free : ℕ} {cuts : List ℕ} {count : ℕ} {sets : List ℕ} {found b : ℕ} (few : b < 32)
    (s : Splits t q chosen free cuts count sets found b) where
  rest-is : rest_of free b ≡ bit_xor free (2 ^ b)
  rest-is = rw (one_bit 32 b few)

  pub rest-less : rest_of free b < free
  rest-less = rw rest-is (less (ℕ_discrete (bit_xor free (2 ^ b)) free))
    where
      less : Dec (bit_xor free (2 ^ b) ≡ free) → bit_xor free (2 ^ b) < free
      less (yes e) =
          absurd (false-true (sym (without-own free b s.loose) ∙ ap (λ (x : ℕ). in_set x b) e ∙ s.loose))
      less (no e) = omega (arith, part-le (bit_xor free (2 ^ b)) free (without-part free b s.loose))

  -- without b
  pub out-ready : Ready (admits t q) (credentials t) chosen (rest_of free b) cuts count
  out-ready = rw rest-is (ready-out s.ready b s.loose)

  pub out-held : Held (credentials t) chosen (rest_of free b) sets found
  out-held = rw rest-is (held_out b s.loose s.held)

  -- then with b
  module _ {cuts' : List ℕ} {count' : ℕ} {sets' : List ℕ} {found' : ℕ}
      (one : Ended t q chosen (rest_of free b) cuts count cuts' count' sets found sets' found') where
    first : Ended t q chosen (bit_xor free (2 ^ b)) cuts count cuts' count' sets found sets' found'
    first = rw rest-is at one

    module _ {more : ℕ} (e : more ≡ bit_or chosen (2 ^ b)) where
      pub in-ready : Ready (admits t q) (credentials t) more (rest_of free b) cuts' count'
      in-ready = rw (e, rest-is) (ready-in s.ready b s.loose first.more first.searched)

      pub in_held : Held (credentials t) more (rest_of free b) sets' found'
      in_held = rw (e, rest-is) (held_in s.ready b s.loose first s.held)

      pub splits-ended : {cuts'' : List ℕ} {count'' : ℕ} {sets'' : List ℕ} {found'' : ℕ}
          → Ended t q more (rest_of free b) cuts' count' cuts'' count'' sets' found' sets'' found''
          → Ended t q chosen free cuts count cuts'' count'' sets found sets'' found''
      splits-ended two = ended-both s.ready b s.loose first (rw (e, rest-is) at two)

-- and seen from before, where nothing was found on the way
pub ended-from : {t : List ℕ} {q : Query} {chosen free : ℕ} {cuts : List ℕ} {count : ℕ} {cuts' : List ℕ} {count' : ℕ}
    {cuts'' : List ℕ} {count'' : ℕ} {sets : List ℕ} {found : ℕ} {sets' : List ℕ} {found' : ℕ} {sets'' : List ℕ} {found'' left : ℕ}
    → Decided t q chosen free cuts count cuts' count' sets found sets' found' left → (left ≡ 0 → ⊥)
    → Ended t q chosen free cuts' count' cuts'' count'' sets' found' sets'' found''
    → Ended t q chosen free cuts count cuts'' count'' sets found sets'' found''
ended-from d some e =
    record {
      more = more-more d.more e.more;
      searched = e.searched;
      adds = rw ((d.same some).0, (d.same some).1) at e.adds;
    }
