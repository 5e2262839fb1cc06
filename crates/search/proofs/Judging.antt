-- Answers: which sets can be met, and the pairs that block all others. How answers are put together: for one more credential, for
-- goals that share out what is owed, for a goal that comes on the branch.
use mathlib.Core.Path.{◌≡◌, refl, sym, ap, ◌∙◌}
use mathlib.Core.List.{List, ◌∷◌}
use mathlib.Core.Bool.{Bool, true, false, not}
use Prim.Native.Nat.{ℕ, ◌<◌}
use lib.Bits.{bit_and, bit_or}
use lib.Dec.{eqb}
use borrow.Author.Tests.{eqb-true, not-false, not-true}
use Rattle.sets.specs.Logic.{◌or◌, any_below}
use Rattle.sets.specs.Sets.{part}
use Rattle.sets.proofs.Tests.{and_both, and_first, and_second, any-not, any-shows, false-true, or-either}
use Rattle.sets.proofs.Tests.{or-first, or_off, or-second, refuted}
use Rattle.sets.proofs.Members.{in_set-and, in_set-or, part-le, part-member, part-refl, part-shown}
use Rattle.sets.proofs.Members.{part-trans}
use Rattle.sets.proofs.Members.{part-zero}
use Rattle.families.specs.Families.{FamilyOf, all_sets, covers, in_family, joins}
use Rattle.families.specs.declared.Family.{Family}
use Rattle.families.proofs.Covering.{covers-joined, covers_more, covers-only, covers-reached, covers-shows}
use Rattle.families.proofs.Covering.{inside-joined}
use Rattle.families.proofs.Covering.{inside-none, inside-only, inside-or, joins-shows, or-before, or-other}
use Rattle.members.specs.Above.{nothing_above}
use Rattle.members.specs.declared.above.Above.{Above}
use Rattle.failures.specs.Failures.{Joined}
use Rattle.goals.specs.Goals.{Trimmed}
use Rattle.search.specs.Search.{shares}
use Rattle.search.specs.Failing.{Covers, Fails, Finds, Judged, FoundBelow, Wide}
use Rattle.search.proofs.Sharing.{shares_less, shares-reached, shares-shows}
use Rattle.search.proofs.Failing.{covered-both, covers-none, fails-first, fails-second}

-- what two sets have in common
pub and_left : (x y : ℕ) → part (bit_and x y) x ≡ true
and_left x y = part-shown _ x (λ s h. and_first _ _ (sym (in_set-and x y s) ∙ h))

pub and_right : (x y : ℕ) → part (bit_and x y) y ≡ true
and_right x y = part-shown _ y (λ s h. and_second _ _ (sym (in_set-and x y s) ∙ h))

pub part-and : (x y z : ℕ) → part x y ≡ true → part x z ≡ true → part x (bit_and y z) ≡ true
part-and x y z h l = part-shown x _ (λ s is. in_set-and y z s ∙ and_both (part-member x y s h is) (part-member x z s l is))

-- a family without sets covers nothing
pub none-covered : (f : Family) → FamilyOf (λ X. false) f → (X : ℕ) → covers f X ≡ false
none-covered f none X =
    refuted _ (λ h.
    let (Y, few, is, part_of) = covers-shows f X h in
    false-true (sym (none Y few) ∙ is))

-- and one in which some set is covers the empty one
pub some-covered : (f : Family) (r : Bool) → r ≡ not (any_below (in_family f) all_sets) → r ≡ false → covers f 0 ≡ true
some-covered f r told some =
    let (X, few, is) = any-shows (in_family f) all_sets (not-false _ (sym told ∙ some)) in
    covers-reached f 0 X few is (part-zero X)

pub no-sets : (f : Family) (r : Bool) → r ≡ not (any_below (in_family f) all_sets) → r ≡ true → FamilyOf (λ X. false) f
no-sets f r told none X few = any-not (in_family f) all_sets X (not-true _ (sym told ∙ none)) few

module _ {O : ℕ} {test : ℕ → Above → Bool} {above : Above} where
  -- nothing can be met
  pub judged-failed : {found : Family} {blocking : Above} → FamilyOf (λ X. false) found → Covers blocking above
      → ((X : ℕ) → part X O ≡ true → Fails (test X) blocking) → Judged O test above found blocking
  judged-failed {found} none covered fails =
      record {
        finds = record { inside = inside-none found O none; passes = λ X few is. absurd (false-true (sym (none X few) ∙ is)) };
        covered = covered;
        bounds = λ X owed missed. fails X owed;
      }

  -- below no branch
  pub judged-never : {found : Family} {blocking : Above} → FamilyOf (λ X. false) found → blocking ≡ nothing_above
      → ((X : ℕ) → part X O ≡ true → (b : Above) → test X b ≡ false) → Judged O test above found blocking
  judged-never none nothing never =
      judged-failed none (rw nothing (covers-none above)) (λ X owed b wide covers. never X owed b)

  -- this set can be met, and no other that is not a part of it, below every branch
  pub judged-only : {found : Family} {blocking : Above} (M : ℕ) → M < all_sets → FamilyOf (eqb M) found → part M O ≡ true
      → blocking ≡ nothing_above → test M above ≡ true
      → ((X : ℕ) → part X O ≡ true → part X M ≡ false → (b : Above) → test X b ≡ false) → Judged O test above found blocking
  judged-only {found} M few only owed nothing is others =
      record {
        finds =
            record {
              inside = inside-only found M O only owed;
              passes = λ X less here. ap (λ x. test x above) (sym (eqb-true M X (sym (only X less) ∙ here))) ∙ is;
            };
        covered = rw nothing (covers-none above);
        bounds = λ X within missed b wide covers. others X within (sym (covers-only found M few only X) ∙ missed) b;
      }

  -- all that can be met at best is found
  pub judged-enough : {found : Family} {blocking : Above} (most : ℕ) → most < all_sets → Finds O test above found
      → blocking ≡ nothing_above → in_family found most ≡ true
      → ((X : ℕ) → part X O ≡ true → part X most ≡ false → (b : Above) → test X b ≡ false) → Judged O test above found blocking
  judged-enough {found} most few finds nothing has others =
      record {
        finds = finds;
        covered = rw nothing (covers-none above);
        bounds = λ X owed missed b wide covers.
            others X owed (refuted _ (λ less. false-true (sym missed ∙ covers-reached found X most few has less))) b;
      }

  -- the answer of one branch
  pub judged-told : {found : Family} {blocking : Above} → Wide above → Judged O test above found blocking → FoundBelow O test above found
  judged-told {found} wide judged =
      record {
        finds = judged.finds;
        all = λ X owed is.
            not-missed (covers found X) (λ missed. false-true (sym (judged.bounds X owed missed above wide judged.covered) ∙ is));
      }
    where
      not-missed : (b : Bool) → (b ≡ false → ⊥) → b ≡ true
      not-missed true never = refl
      not-missed false never = absurd (never refl)

  -- an answer stays one with more blocking pairs
  pub judged-more : {found : Family} (blocking more : Above) → ((test : Above → Bool) → Fails test blocking → Fails test more)
      → Covers more above → Judged O test above found blocking → Judged O test above found more
  judged-more blocking more stays covered judged =
      record { finds = judged.finds; covered = covered; bounds = λ X owed missed. stays (test X) (judged.bounds X owed missed) }

  -- fewer sets that cover as much
  pub judged-trimmed : {found rest : Family} {blocking : Above} → Trimmed found O rest → Judged O test above found blocking
      → Judged O test above rest blocking
  judged-trimmed {found} {rest} trimmed judged =
      record {
        finds =
            record {
              inside = λ X few is. judged.finds.inside X few (trimmed.fewer X few is);
              passes = λ X few is. judged.finds.passes X few (trimmed.fewer X few is);
            };
        covered = judged.covered;
        bounds = λ X owed missed.
            judged.bounds X owed (refuted _ (λ on. false-true (sym missed ∙ trimmed.alike judged.finds.inside X on)));
      }

-- where two tests are the same
pub judged-same : {O : ℕ} {test test' : ℕ → Above → Bool} {above : Above} {found : Family} {blocking : Above}
    → ((X : ℕ) (b : Above) → test X b ≡ test' X b) → Judged O test above found blocking → Judged O test' above found blocking
judged-same {above = above} same judged =
    record {
      finds =
          record {
            inside = judged.finds.inside;
            passes = λ X few is. sym (same X above) ∙ judged.finds.passes X few is;
          };
      covered = judged.covered;
      bounds = λ X owed missed b wide covers. sym (same X b) ∙ judged.bounds X owed missed b wide covers;
    }

-- what one test finds another does
pub finds-so : {O : ℕ} {test test' : ℕ → Above → Bool} {above : Above} {found : Family}
    → ((X : ℕ) → test X above ≡ true → test' X above ≡ true) → Finds O test above found → Finds O test' above found
finds-so so finds = record { inside = finds.inside; passes = λ X few is. so X (finds.passes X few is) }

-- either of two tests
module _ {O : ℕ} {first second third : ℕ → Above → Bool} {above : Above}
    (either : (X : ℕ) (b : Above) → third X b ≡ (first X b or second X b)) {f g r : Family}
    (all : FamilyOf (λ X. in_family f X or in_family g X) r) where
  pub finds-or : Finds O first above f → Finds O second above g → Finds O third above r
  finds-or one other =
      record {
        inside = inside-or f g r all O one.inside other.inside;
        passes = λ X few is.
            either X above
            ∙ or-either (λ here. or-first _ (one.passes X few here)) (λ there. or-second _ (other.passes X few there))
            (sym (all X few) ∙ is);
      }

  pub judged-or : {blocking blocking' both : Above} → Joined blocking blocking' both → Judged O first above f blocking
      → Judged O second above g blocking' → Judged O third above r both
  judged-or {blocking} {blocking'} {both} joined one other =
      record {
        finds = finds-or one.finds other.finds;
        covered = covered-both blocking blocking' both joined above one.covered other.covered;
        bounds = λ X owed missed b wide covers.
            let missed_first = refuted (missed_by f X) (λ on. false-true (sym missed ∙ covers_more f r (or-before f g r all) X on)) in
            let missed_second = refuted (missed_by g X) (λ on. false-true (sym missed ∙ covers_more g r (or-other f g r all) X on)) in
            either X b
            ∙ neither (fails-first blocking blocking' both joined (one.bounds X owed missed_first) b wide covers)
            (fails-second blocking blocking' both joined (other.bounds X owed missed_second) b wide covers);
      }
    where
      missed_by : Family → ℕ → Bool
      missed_by h X = covers h X

      neither : {a b : Bool} → a ≡ false → b ≡ false → (a or b) ≡ false
      neither off off' = sym (or_off off) ∙ off'

-- goals that share out what is owed: one before others
module _ {G : Type 0} (O : ℕ) (at : Above → G → ℕ → Bool) {above : Above} (g : G) (goals : List G)
    (less : (b : Above) (Y Y' : ℕ) → part Y' Y ≡ true → at b g Y ≡ true → at b g Y' ≡ true)
    {f rest r : Family} (all : FamilyOf (joins f rest) r) where
  finds-joined : Finds O (λ X b. at b g X) above f → Finds O (λ X b. shares (at b) O goals X) above rest
      → Finds O (λ X b. shares (at b) O (g ∷ goals) X) above r
  finds-joined one others =
      record {
        inside = inside-joined f rest r all O one.inside others.inside;
        passes = λ X few is.
            let (Y, Z, few-Y, few-Z, in_f, in_rest, union) = joins-shows f rest X (sym (all X few) ∙ is) in
            let l = part-le Y O (one.inside Y few-Y in_f) in
            let l' = part-le Z O (others.inside Z few-Z in_rest) in
            shares-reached (at above) O g goals X Y Z l l' (one.passes Y few-Y in_f) (others.passes Z few-Z in_rest)
            (rw union (part-refl X));
      }

  pub judged-joined : {blocking blocking' both : Above} → Joined blocking blocking' both → Judged O (λ X b. at b g X) above f blocking
      → Judged O (λ X b. shares (at b) O goals X) above rest blocking'
      → Judged O (λ X b. shares (at b) O (g ∷ goals) X) above r both
  judged-joined {blocking} {blocking'} {both} joined one others =
      record {
        finds = finds-joined one.finds others.finds;
        covered = covered-both blocking blocking' both joined above one.covered others.covered;
        bounds = λ X owed missed b wide covers.
            refuted _ (λ h.
            let by = shares-shows (at b) O g goals X h in
            let Y = bit_and X by.first in
            let Z = bit_and X by.others in
            let in-O : (W : ℕ) → part (bit_and X W) O ≡ true = λ W. part-trans (bit_and X W) X O (and_left X W) owed in
            let in_f = caught (λ b. at b g Y) f Y blocking (one.bounds Y (in-O by.first))
            (fails-first blocking blocking' both joined) b wide covers
            (less b by.first Y (and_right X by.first) by.proves-first) in
            let in_rest = caught (λ b. shares (at b) O goals Z) rest Z blocking' (others.bounds Z (in-O by.others))
            (fails-second blocking blocking' both joined) b wide covers
            (shares_less (at b) O goals by.others Z (and_right X by.others) by.proves-others) in
            false-true (sym missed
            ∙ covers-joined f rest r all X Y Z (both-cover X by.first by.others by.together) in_f in_rest));
      }
    where
      both-cover : (x y z : ℕ) → part x (bit_or y z) ≡ true → part x (bit_or (bit_and x y) (bit_and x z)) ≡ true
      both-cover x y z h =
          part-shown x _ (λ s is.
          in_set-or (bit_and x y) (bit_and x z) s
          ∙ or-either (λ here. or-first _ (in_set-and x y s ∙ and_both is here))
          (λ there. or-second _ (in_set-and x z s ∙ and_both is there))
          (sym (in_set-or y z s) ∙ part-member x _ s h is))

      caught : (test : Above → Bool) (h : Family) (W : ℕ) (m : Above) → (covers h W ≡ false → Fails test m)
          → (Fails test m → Fails test both) → (b : Above) → Wide b → Covers both b → test b ≡ true
          → covers h W ≡ true
      caught test h W m bound stays b wide covers' is =
          go (covers h W) refl
        where
          go : (c : Bool) → covers h W ≡ c → c ≡ true
          go true e = refl
          go false e = absurd (false-true (sym (stays (bound e) b wide covers') ∙ is))
