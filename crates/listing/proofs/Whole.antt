-- The whole search: nothing is chosen, and all credentials that bear on the query are free. And what it tells.
use mathlib.Core.Path.{◌≡◌, refl, sym, ◌∙◌}
use mathlib.Core.List.{List}
use mathlib.Core.Bool.{Bool, true, false}
use Prim.Native.Nat.{ℕ, ◌^◌, ◌<◌, ◌≤◌}
use native.Mathlib.Omega.{arith}
use lib.Bits.{bit_and, or_zero_l}
use borrow.Author.Tests.{eq-eqb}
use lib.ListN.{length}
use Rattle.sets.specs.Logic.{◌and◌, ◌or◌}
use Rattle.sets.specs.Sets.{part}
use Rattle.sets.proofs.Tests.{and-false, and_first, and_is, false-true, refuted}
use Rattle.sets.proofs.Members.{in_set-and, in_set-zero, part-le, part-shown, part-zero}
use Rattle.cuts.specs.Cuts.{Ready, between, is_least}
use Rattle.cuts.proofs.Least.{least-least, least-passes, least-within}
use Rattle.cuts.proofs.Meeting.{between-shown}
use Rattle.sorted.specs.Sorted.{HoldsLeast, laid}
use Rattle.sorted.proofs.Ascending.{those-numbers}
use Rattle.sorted.proofs.Holding.{holds-none, holds_same}
use Rattle.table.specs.Outcome.{Outcome}
use Rattle.table.specs.Outcome.Outcome.{accepted, refused}
use Rattle.table.specs.Layout.{credentials}
use Rattle.table.specs.Holding.{WellFormed}
use Rattle.table.specs.Checks.{request_outcome}
use Rattle.table.specs.declared.Query.{Query}
use Rattle.admission.specs.Admits.{admits}
use Rattle.listing.specs.Minimal.{TellsList, afterwards, buffer_after, is_minimal, minimal_sets}
use Rattle.candidates.specs.Candidates.{Bears}
use Rattle.minimal.proofs.Spare.{admits-monotone}
use Rattle.regions.specs.Below.{Ended, Held, and_least}
use Rattle.listing.proofs.Counting.{listed-counted, more-counted, none-counted}

-- nothing is chosen, and all that bears on the test is free
module _ (p : ℕ → Bool) (n usable : ℕ) (few : usable < 2 ^ n) where
  pub start-ready : (cuts : List ℕ) → Ready p n 0 usable cuts 0
  start-ready cuts =
      record {
        apart = λ c own. absurd (false-true (sym (in_set-zero c) ∙ own));
        fits = rw (or_zero_l usable) few;
        known = record { room = omega arith; each = λ i l. absurd (omega arith) };
        tight = λ room X c own. absurd (false-true (sym (in_set-zero c) ∙ own));
      }

  module _ (bears : Bears p usable) where
    -- a least set has nothing else
    least-among : (Y : ℕ) → is_least p Y ≡ true → part Y usable ≡ true
    unfolding part
    least-among Y least =
        eq-eqb (bit_and Y usable) Y
        (least-least p Y least (bit_and Y usable) (part-shown (bit_and Y usable) Y (λ s h. and_first _ _ (sym (in_set-and Y usable s) ∙ h))) (bears Y ∙ least-passes p Y least))

    -- where nothing was found before, what is found is the least sets
    whole-least : (Y : ℕ) → Y < 2 ^ n → and_least (λ x. false) p 0 usable Y ≡ is_least p Y
    unfolding and_least ◌or◌
    whole-least Y l = go (is_least p Y) refl
      where
        go : (b : Bool) → is_least p Y ≡ b → (between 0 usable Y and is_least p Y) ≡ is_least p Y
        go true e = and_is (between-shown 0 usable Y (part-zero Y) (rw (or_zero_l usable) (least-among Y e))) refl
        go false e = rw e (and-false (between 0 usable Y))

unfoldable pub start-held : (n usable : ℕ) (sets : List ℕ) → Held n 0 usable sets 0
start-held n usable sets =
    record { test = λ x. false; before = sets; holds = holds-none (λ x. false) (2 ^ n) sets (λ x l. refl); apart = λ Y h. refl }

module _ (t : List ℕ) (q : Query) (usable : ℕ) (few : usable < 2 ^ credentials t) (bears : Bears (admits t q) usable) where
  -- the buffer holds the minimal sets
  pub start-ended : {cuts : List ℕ} {cuts' : List ℕ} {count' : ℕ} {sets sets' : List ℕ} {found' : ℕ}
      → Ended t q 0 usable cuts 0 cuts' count' sets 0 sets' found' → HoldsLeast (is_minimal t q) (2 ^ credentials t) sets sets' found'
  unfolding start-held
  start-ended {sets = sets} e =
      holds_same _ (is_minimal t q) (2 ^ credentials t) (whole-least (admits t q) (credentials t) usable few bears)
      (e.adds (start-held (credentials t) usable sets))

  -- where all that bears on the query is not admitted none is minimal
  pub start_none : WellFormed t → admits t q usable ≡ false → (sets : List ℕ) → HoldsLeast (is_minimal t q) (2 ^ credentials t) sets sets 0
  start_none wf fails sets =
      holds-none (is_minimal t q) (2 ^ credentials t) sets (λ Y l.
      refuted (is_minimal t q Y) (λ least.
      let passes = least-passes (admits t q) Y least in
      let among = least-among (admits t q) (credentials t) usable few bears Y least in
      false-true (sym fails ∙ admits-monotone t wf q Y usable few among passes)))

-- where it is admitted some set is found
pub some-found : (t : List ℕ) (q : Query) (usable : ℕ) {before after : List ℕ} {found : ℕ}
    → HoldsLeast (is_minimal t q) (2 ^ credentials t) before after found → usable < 2 ^ credentials t → admits t q usable ≡ true
    → found ≡ 0 → ⊥
some-found t q usable held few passes none =
    let (M, least, within) = least-within (admits t q) usable passes in
    let small : M < 2 ^ credentials t = omega (arith, part-le M usable within) in
    let (i, l, e) = (those-numbers (is_minimal t q) (2 ^ credentials t)).every M small least in
    omega (arith, held.count, l)

-- what is told is what a refusal tells
pub told-instead : {A : Type 0} {x y z : Outcome} → x ≡ y → (y ≡ z) × A → (x ≡ z) × A
told-instead e h = (e ∙ h.0, h.1)

module _ (t : List ℕ) (q : Query) (before after : List ℕ) (found : ℕ)
    (held : HoldsLeast (is_minimal t q) (2 ^ credentials t) before after found) where
  pub none_told : found ≡ 0 → TellsList t q before after (refused 9 0)
  unfolding minimal_sets
  none_told none = (sym ((none-counted _ _).1 (sym held.count ∙ none)), held.held)

  pub longer-told : length before < found → TellsList t q before after (refused 10 0)
  unfolding minimal_sets
  longer-told long = (sym ((more-counted _ _).1 (omega (arith, held.count))), held.held)

  pub listed-told : (found ≡ 0 → ⊥) → found ≤ length before → TellsList t q before after (accepted found)
  unfolding minimal_sets
  listed-told some fits =
      (rw (← held.count) (sym (listed-counted (length before) found (omega arith) fits)), held.held)

-- the buffer changes only where the checks of table and query find nothing
module _ (t : List ℕ) (q : Query) (buffer : List ℕ) where
  pub buffer-accepted : request_outcome t q ≡ accepted 0 → buffer_after t q buffer ≡ laid (minimal_sets t q) buffer
  unfolding buffer_after afterwards
  buffer-accepted e = rw e

  pub buffer-refused : {number position : ℕ} → request_outcome t q ≡ refused number position → buffer_after t q buffer ≡ buffer
  unfolding buffer_after afterwards
  buffer-refused e = rw e
