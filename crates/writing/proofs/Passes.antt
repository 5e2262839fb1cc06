-- The two passes: the first counts, without cells, so that they are as they were; the second writes what was counted.
use mathlib.Core.Path.{◌≡◌, refl, ap, ap₂, ◌∙◌}
use mathlib.Core.List.{List, [], ◌∷◌, ◌++◌}
use mathlib.Core.Bool.{true}
use Prim.Native.Nat.{ℕ, ◌<◌, ◌≤◌}
use native.Mathlib.Omega.{arith}
use native.Mathlib.Decide.{dec_lt}
use lib.ListN.{length}
use lib.Bits.{bit_xor}
use lib.Dec.{eqb}
use Rattle.families.specs.Families.{all_sets}
use Rattle.sorted.specs.Sorted.{laid}
use Rattle.table.specs.Outcome.{Outcome}
use Rattle.table.specs.Outcome.Outcome.{accepted, refused}
use Rattle.table.specs.Checks.{Valid, request_outcome}
use Rattle.table.specs.Holding.{WellFormed}
use Rattle.table.specs.declared.Query.{Query}
use Rattle.table.proofs.Stages.{refused-then, then-on}
use Rattle.automata.specs.Together.{starting_sets}
use Rattle.derivation.specs.Rules.{goal_of}
use Rattle.derivation.specs.Forest.{written}
use Rattle.attached.specs.Attached.{automata_of, marked_of, owed_of}
use Rattle.search.specs.Search.{provable}
use Rattle.listing.specs.Minimal.{is_minimal}
use Rattle.members.specs.Above.{nothing_above}
use Rattle.walking.specs.First.{first_forest, first_record}
use Rattle.walking.specs.Walked.{Walked}
use Rattle.walking.proofs.Walking.{over-laid}
use Rattle.writing.specs.Writing.{Settled, TellsRecord, filled, record_after, writing}
use Rattle.writing.proofs.Settling.{every_rest, owed-few}
use Rattle.writing.proofs.Firsts.{minimal-provable}
use Rattle.writing.proofs.Fitting.{tells-longer, tells-written}

-- no cell before the others
none_before : (xs ys : List ℕ) → length xs ≡ 0 → xs ++ ys ≡ ys
none_before [] ys none = refl
none_before (x ∷ xs) ys none = absurd (omega arith)

-- a walk without cells leaves none, before those that there are
pub passed-by : {at most next : ℕ} {numbers none : List ℕ} → Walked at most numbers [] none next → (cells : List ℕ)
    → none ++ cells ≡ cells
passed-by {none = none} walked cells = none_before none cells walked.size

-- what is told and held stands for what it is equal to
pub tells-instead : (t : List ℕ) (q : Query) (S : ℕ) (before : List ℕ) {after after' : List ℕ} {o o' : Outcome} → o ≡ o'
    → after ≡ after' → TellsRecord t q S before after' o' → TellsRecord t q S before after o
tells-instead t q S before same held tells = rw (same, held) tells

-- the automata of the set, as the code finds them: the marked ones are owed, and the others are imposed
pub settled-by : (t : List ℕ) → WellFormed t → (S : ℕ) {borne O : ℕ} → borne ≡ automata_of t S → O ≡ marked_of t borne
    → Settled t S (bit_xor borne O) O
unfolding owed_of
settled-by t wf S all marked =
    let owed = marked ∙ ap (marked_of t) all in
    record { imposed = ap₂ bit_xor all owed ∙ every_rest t wf S; owed = owed }

module _ {t : List ℕ} (wf : WellFormed t) {S A O : ℕ} (by : Settled t S A O) where
  pub owed-fits : O < all_sets
  owed-fits = rw by.owed (owed-few t wf S)

  -- a minimal set proves the query under its automata
  pub proves-under : (q : Query) → Valid q → is_minimal t q S ≡ true → provable t q S A O ≡ true
  proves-under q valid listed = rw (by.imposed, by.owed) (minimal-provable t wf q valid S listed)

-- what is walked is the first record; there are as many cells as the most says
module _ {t : List ℕ} (q : Query) {S A O : ℕ} (by : Settled t S A O) (most : ℕ) where
  abbrev Pass : List ℕ → List ℕ → ℕ → Type 0
  Pass = Walked 0 most (written (first_forest t S A O q.depth nothing_above (starting_sets t) (eqb O) (goal_of q ∷ [])))

  walked-is : written (first_forest t S A O q.depth nothing_above (starting_sets t) (eqb O) (goal_of q ∷ [])) ≡ first_record t q S
  unfolding first_record
  walked-is = rw (by.imposed, by.owed)

  -- a pass over it
  first-pass : {from to : List ℕ} {len : ℕ} → Pass from to len → Walked 0 most (first_record t q S) from to len
  first-pass pass = rw walked-is at pass

  module _ (listed : is_minimal t q S ≡ true) {cells from to : List ℕ} (all : most ≡ length cells) {len : ℕ}
      (counted : Pass from to len) where
    pub counted-longer : most < len → TellsRecord t q S cells cells (refused 16 0)
    counted-longer less = tells-longer t q S cells listed (omega (arith, all, (first-pass counted).stopped less))

    pub counted-written : len ≤ most → {after : List ℕ} {next : ℕ} → Pass cells after next
        → TellsRecord t q S cells after (accepted len)
    counted-written room {after} {next} pass =
        let len_is : len ≡ length (first_record t q S) = omega (arith, (first-pass counted).whole room) in
        tells-written t q S cells listed len_is (omega (arith, all)) (go (dec_lt most next) (first-pass pass))
      where
        go : Dec (most < next) → Walked 0 most (first_record t q S) cells after next → after ≡ laid (first_record t q S) cells
        go (yes beyond) walked = absurd (omega (arith, walked.stopped beyond, (first-pass counted).whole room))
        go (no fits) walked =
            over-laid _ cells after walked.size (omega (arith, all, walked.whole (omega arith)))
            (walked.over (omega arith) (omega (arith, all)))

-- past the request's rows, and where they refuse
module _ (t : List ℕ) (q : Query) (S : ℕ) (before : List ℕ) where
  pub written-past : request_outcome t q ≡ accepted 0 → {after : List ℕ} {o : Outcome} → TellsRecord t q S before after o
      → (o ≡ writing t q S (length before)) × (after ≡ record_after t q S before)
  unfolding writing record_after
  written-past accepts tells =
      let same = tells.0 ∙ then-on accepts in
      (same, tells.1 ∙ ap (λ o. filled o (first_record t q S) before) same)

  pub written-stopped : {number position : ℕ} → refused number position ≡ request_outcome t q
      → (refused number position ≡ writing t q S (length before)) × (before ≡ record_after t q S before)
  unfolding writing record_after filled
  written-stopped refuses =
      let same = refused-then _ refuses in
      (same, ap (λ o. filled o (first_record t q S) before) same)
