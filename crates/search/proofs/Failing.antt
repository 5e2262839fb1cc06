-- Failures and their blocking pairs: of no credential, of one more, of a goal that came on the branch; and what the memory has of
-- them.
use mathlib.Core.Path.{◌≡◌, refl, sym, ap, ◌∙◌}
use mathlib.Core.List.{List}
use mathlib.Core.Bool.{Bool, true, false, not}
use mathlib.Core.Logic.{◌⊎◌, inl, inr}
use Prim.Native.Nat.{ℕ, ◌+◌, ◌<◌, ◌≤◌}
use native.Mathlib.Omega.{arith}
use native.Mathlib.Decide.{ℕ_discrete, dec_lt}
use lib.ListN.{get_or, length}
use lib.Seq.{ext_get_or}
use lib.Dec.{eqb}
use borrow.Author.Tests.{eq-eqb, eqb-true}
use Rattle.sets.specs.Logic.{◌and◌, ◌or◌}
use Rattle.sets.proofs.Tests.{and_both, and_first, and_second, false-true, or-either, or-first, or-second, refuted}
use Rattle.sets.proofs.Members.{in_set-or, part-member}
use Rattle.table.specs.Limits.{most_automata, most_credentials}
use Rattle.automata.specs.declared.StateSets.{StateSets}
use Rattle.members.specs.Above.{nothing_above, pair_above, with_pair}
use Rattle.members.specs.declared.above.Above.{Above}
use Rattle.members.proofs.Branching.{nothing-pair, nothing-room, pair-room, with_pair_lem}
use Rattle.families.specs.Families.{all_sets, covers}
use Rattle.families.specs.declared.Family.{Family}
use Rattle.families.proofs.Words.{same-sets}
use Rattle.families.proofs.Covering.{covers_more}
use Rattle.failures.specs.Failures.{FamilyAt, SlotHolds, Joined, SlotWritten, BlockingAt, Recalled, SlotIn, Spared, slot_cell}
use Rattle.failures.specs.Failures.{slot_cells}
use Rattle.members.specs.Members.{Blank}
use Rattle.search.specs.Search.{goal_at, proves_at}
use Rattle.search.specs.Failing.{Bounds, Covers, Failed, Fails, Remembered, Wide}
use Rattle.search.proofs.Owing.{proves-later}
use Rattle.search.proofs.Placing.{level-none}

pub covers-none : (above : Above) → Covers nothing_above above
covers-none above p r l on = absurd (false-true (sym (nothing-pair p r) ∙ on))

-- a test that fails below every branch
pub failed-always : {test : Above → Bool} (above : Above) → ((b : Above) → test b ≡ false) → Failed test above nothing_above
failed-always above never = record { covered = covers-none above; fails = λ b wide covers. never b }

-- a failure is one of the branch itself
pub failed-here : {test : Above → Bool} {above blocking : Above} → Wide above → Failed test above blocking → test above ≡ false
failed-here {above = above} wide failed = failed.fails above wide failed.covered

-- where a test fails whenever another does
pub failed-so : {test test' : Above → Bool} {above blocking : Above} → ((b : Above) → test b ≡ false → test' b ≡ false)
    → Failed test above blocking → Failed test' above blocking
failed-so so failed =
    record { covered = failed.covered; fails = λ b wide covers. so b (failed.fails b wide covers) }

-- two failures together
module _ (one other both : Above) (joined : Joined one other both) where
  pub in_both : (p r : ℕ) → r < most_credentials → pair_above both p r ≡ (pair_above one p r or pair_above other p r)
  unfolding pair_above
  in_both p r l = rw (joined r l) (in_set-or (get_or one.persons r 0) (get_or other.persons r 0) p)

  pub covered-both : (above : Above) → Covers one above → Covers other above → Covers both above
  covered-both above first second p r l on = or-either (first p r l) (second p r l) (sym (in_both p r l) ∙ on)

  -- what fails where one of them stands fails where both do
  pub fails-first : {test : Above → Bool} → Fails test one → Fails test both
  fails-first fails b wide covers = fails b wide (λ p r l on. covers p r l (in_both p r l ∙ or-first _ on))

  pub fails-second : {test : Above → Bool} → Fails test other → Fails test both
  fails-second fails b wide covers = fails b wide (λ p r l on. covers p r l (in_both p r l ∙ or-second _ on))

-- the pair of a goal that comes on the branch
module _ (person place : ℕ) (p r : ℕ) where
  abbrev same : Bool
  same = eqb person p and eqb place r

-- a goal that failed once it was on the branch: its own pair does not block it
module _ (person place : ℕ) (blocking rest : Above) (spared : Spared blocking person place rest) where
  kept : (p r : ℕ) → r < most_credentials → pair_above blocking p r ≡ true → same person place p r ≡ false → pair_above rest p r ≡ true
  kept p r l on other = spared p r l ∙ and_both on (ap not other)

  -- what blocks it below blocks it above, but for its own pair
  pub covered-above : (above : Above) → Wide above → Covers blocking (with_pair above person place) → Covers rest above
  covered-above above wide covers p r l on =
      let both = sym (spared p r l) ∙ on in
      let deeper = sym (with_pair_lem above person place p r (omega (arith, wide))) ∙ covers p r l (and_first _ _ both) in
      or-either (λ here. here) (λ itself. absurd (false-true (sym (ap not itself) ∙ and_second _ _ both))) deeper

  covers_below : (above : Above) → Wide above → Covers rest above → Covers blocking (with_pair above person place)
  covers_below above wide covers p r l on =
      with_pair_lem above person place p r (omega (arith, wide)) ∙ go (same person place p r) refl
    where
      go : (b : Bool) → same person place p r ≡ b → (pair_above above p r or b) ≡ true
      go true e = or-second (pair_above above p r) refl
      go false e = or-first false (covers p r l (kept p r l on e))

  pub fails-above : {below test : Above → Bool} → ((b : Above) → below (with_pair b person place) ≡ false → test b ≡ false)
      → Fails below blocking → Fails test rest
  fails-above so fails b wide covers =
      so b (fails (with_pair b person place) (pair-room b person place ∙ wide) (covers_below b wide covers))

-- a goal that stands on the branch already
pub failed-again : {test : Above → Bool} (person place : ℕ) (above : Above) → place < most_credentials
    → ((b : Above) → pair_above b person place ≡ true → test b ≡ false) → pair_above above person place ≡ true
    → Failed test above (with_pair nothing_above person place)
failed-again person place above inside again on =
    record {
      covered = itself;
      fails = λ b wide covers.
          again b (covers person place inside
          (here ∙ or-second _ (and_both (eq-eqb person person refl) (eq-eqb place place refl))));
    }
  where
    here : pair_above (with_pair nothing_above person place) person place
        ≡ (pair_above nothing_above person place or same person place person place)
    here = with_pair_lem nothing_above person place person place (omega (arith, nothing-room))

    itself : (p r : ℕ) → r < most_credentials → pair_above (with_pair nothing_above person place) p r ≡ true → pair_above above p r ≡ true
    itself p r l blocking =
        or-either (λ none. absurd (false-true (sym (nothing-pair p r) ∙ none)))
        (λ pair.
        let who = eqb-true person p (and_first _ _ pair) in
        let where_to = eqb-true place r (and_second _ _ pair) in
        rw (who, where_to) at on)
        (sym (with_pair_lem nothing_above person place p r (omega (arith, nothing-room))) ∙ blocking)

-- what a goal is asked to meet, with so many levels left
module _ (t : List ℕ) (S A O : ℕ) where
  abbrev asks : ℕ → StateSets → ℕ → ℕ → ℕ → Above → Bool
  asks levels s person place = λ X above. proves_at t S A O levels above s person place X

  -- what fails with so many levels fails with fewer
  fewer-fail : (levels more : ℕ) → levels ≤ more → (above : Above) (s : StateSets) (person place X : ℕ)
      → asks more s person place X above ≡ false → asks levels s person place X above ≡ false
  unfolding proves_at
  fewer-fail levels more few above s person place X off =
      refuted _ (λ on.
      false-true (sym off
      ∙ and_both (and_first _ _ on)
      (proves-later t S A O levels more few above s (goal_at t person place) X (and_second _ _ on))))

  -- the memory has nothing yet: with no level left every goal fails
  pub remembered-none : O < all_sets → (memory : List ℕ) → SlotIn memory 0 → Blank memory → Remembered t S A O memory
  remembered-none few memory room blank =
      record {
        few = few;
        room = room;
        each = λ k person place levels s blocking found l eight holds X owed missed above wide covers.
            sym (level-none t S A O levels above s person place X (sym holds.levels-is ∙ blank (slot_cell k 0)));
      }

  -- a slot that is about the goal bounds what it can meet here
  module _ {memory : List ℕ} {k person place levels : ℕ} {s : StateSets} {above : Above} (remembered : Remembered t S A O memory)
      (recalled : Recalled memory k person place levels s above) (blocking : Above) (blocking-at : BlockingAt memory k blocking) where
    pub recalled-covered : Covers blocking above
    unfolding pair_above
    recalled-covered p r few on = part-member _ _ p (recalled.covered r few) (rw (blocking-at r few) at on)

    pub recalled-bounds : SlotIn memory k → length s.sets ≡ most_automata → (found : Family) → FamilyAt memory k found
        → Bounds O (asks levels s person place) found blocking
    recalled-bounds l eight found family-at X owed missed b wide covers =
        fewer-fail levels _ recalled.enough b s person place X
        (remembered.each k person place _ s blocking found l eight holds X owed missed b wide covers)
      where
        holds : SlotHolds memory k person place (get_or memory (slot_cell k 0) 0) s blocking found
        holds =
            record {
              levels-is = refl;
              person-is = recalled.person-is;
              place_is = recalled.place_is;
              states-are = recalled.states-are;
              blocking-is = λ r few. sym (blocking-at r few);
              family-is = λ j few. sym (family-at j few);
            }

  -- a slot is written with a goal and what it can meet
  module _ {before after : List ℕ} {k person place levels : ℕ} {s : StateSets} {blocking : Above} {found : Family}
      (remembered : Remembered t S A O before) (kept_at : SlotWritten k person place levels s blocking found before after)
      (eight : length s.sets ≡ most_automata) (bounds : Bounds O (asks levels s person place) found blocking) where
    -- the slot itself
    module _ (person' place' levels' : ℕ) (s' : StateSets) (blocking' : Above) (found' : Family)
        (eight' : length s'.sets ≡ most_automata) (holds : SlotHolds after k person' place' levels' s' blocking' found') where
      same-states : s ≡ s'
      same-states =
          ap (λ x. record { sets = x }) (ext_get_or 0 s.sets s'.sets (eight ∙ sym eight') (λ j l.
          let few : j < most_automata = omega (arith, eight) in
          sym (kept_at.holds.states-are j few) ∙ holds.states-are j few))

      same-blocking : (b : Above) → Covers blocking' b → Covers blocking b
      unfolding pair_above
      same-blocking b covers p r l on =
          covers p r l (rw (sym (kept_at.holds.blocking-is r l) ∙ holds.blocking-is r l) at on)

      -- what the slot's family does not cover, the family does not
      same-missed : (X : ℕ) → covers found' X ≡ false → covers found X ≡ false
      same-missed X missed =
          refuted _ (λ on.
          false-true (sym missed
          ∙ covers_more found found'
          (λ Y few is. same-sets found' found (λ j l. sym (holds.family-is j l) ∙ kept_at.holds.family-is j l) Y few ∙ is) X on))

      here-bounds : Bounds O (asks levels' s' person' place') found' blocking'
      here-bounds X owed missed b wide covers =
          rw (
            ← same-states,
            ← (sym kept_at.holds.levels-is ∙ holds.levels-is),
            ← (sym kept_at.holds.person-is ∙ holds.person-is),
            ← (sym kept_at.holds.place_is ∙ holds.place_is),
          )
          (bounds X owed (same-missed X missed) b wide (same-blocking b covers))

    -- another slot
    other-slot : (k' person' place' levels' : ℕ) (s' : StateSets) (blocking' : Above) (found' : Family) → (k' ≡ k → ⊥)
        → SlotHolds after k' person' place' levels' s' blocking' found'
        → SlotHolds before k' person' place' levels' s' blocking' found'
    other-slot k' person' place' levels' s' blocking' found' other holds =
        record {
          levels-is = sym (cell 0 (omega arith)) ∙ holds.levels-is;
          person-is = sym (cell 1 (omega arith)) ∙ holds.person-is;
          place_is = sym (cell 2 (omega arith)) ∙ holds.place_is;
          states-are = λ j l. sym (cell (4 + j) (omega arith)) ∙ holds.states-are j l;
          blocking-is = λ r l. sym (cell (12 + r) (omega arith)) ∙ holds.blocking-is r l;
          family-is = λ j l. sym (cell (32 + j) (omega arith)) ∙ holds.family-is j l;
        }
      where
        apart : (x : ℕ) → x < slot_cells → Dec (k' < k)
            → (slot_cell k' x < slot_cell k 0) ⊎ (slot_cell (k + 1) 0 ≤ slot_cell k' x)
        apart x l (yes less) = inl (omega arith)
        apart x l (no more) = inr (omega (arith, other))

        cell : (x : ℕ) → x < slot_cells → get_or after (slot_cell k' x) 0 ≡ get_or before (slot_cell k' x) 0
        cell x l = kept_at.others (slot_cell k' x) (apart x l (dec_lt k' k))

    pub remembered-more : Remembered t S A O after
    remembered-more = record { few = remembered.few; room = rw kept_at.room remembered.room; each = each }
      where
        each : (k' person' place' levels' : ℕ) (s' : StateSets) (blocking' : Above) (found' : Family) → SlotIn after k'
            → length s'.sets ≡ most_automata → SlotHolds after k' person' place' levels' s' blocking' found'
            → Bounds O (asks levels' s' person' place') found' blocking'
        each k' person' place' levels' s' blocking' found' l eight' holds = go (ℕ_discrete k' k)
          where
            go : Dec (k' ≡ k) → Bounds O (asks levels' s' person' place') found' blocking'
            go (yes e) = here-bounds person' place' levels' s' blocking' found' eight' (rw e at holds)
            go (no other) =
                remembered.each k' person' place' levels' s' blocking' found' (rw kept_at.room at l) eight'
                (other-slot k' person' place' levels' s' blocking' found' other holds)
