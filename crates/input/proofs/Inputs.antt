-- Laws of the listing program's input: what is told of bytes that are no input, and that a list's count is within the buffer.
use Prim.Native.Nat.{ℕ, ◌-◌, ◌*◌, ◌/◌, ◌%◌, ◌<◌, ◌≤◌}
use mathlib.Core.Path.{◌≡◌, refl, sym, ap, ◌∙◌}
use mathlib.Core.List.{List}
use mathlib.Core.Bool.{true, false}
use native.Mathlib.Omega.{arith}
use lib.Dec.{leb}
use lib.ListN.{drop, length, length-drop, length-take, take}
use lib.Seq.{length-take-le, take_all}
use borrow.Author.Tests.{eq-eqb, le-leb, lt-leb, ne_eqb}
use Rattle.sets.specs.Logic.{pick}
use Rattle.table.specs.Outcome.{◌and_then◌, demand}
use Rattle.table.specs.Checks.{outcome_of, request_outcome, told}
use Rattle.table.specs.declared.Query.{Query}
use Rattle.table.specs.declared.Refusal.{Refusal}
use Rattle.table.specs.declared.Reason.TheVariants as reason
use Rattle.sets.proofs.Tests.{and_both, and_is, and-is-off}
use Rattle.table.proofs.Stages.{then-second}
use Rattle.listing.specs.Minimal.{buffer_after, listing, listing_told}
use Rattle.listing.proofs.Counting.{accepted-counted}
use Rattle.decoding.specs.Decoding.{counted_bytes, numbers_of, query_of, query_size}
use Rattle.input.specs.Input.{input_buffer, input_outcome, is_whole, table_of}
use Rattle.std.specs.Prelude.{Result, Ok, Err}

-- which bytes are an input
pub odd-unwhole : (s : List ℕ) → (length s ≡ 2 * (length s / 2) → ⊥) → is_whole s ≡ false
unfolding is_whole
odd-unwhole s h = and-is-off (leb 8 (length s)) (ne_eqb (length s % 2) 0 (λ e. h (omega arith)))

pub short-unwhole : (s : List ℕ) → length s ≡ 2 * (length s / 2) → length s / 2 < query_size → is_whole s ≡ false
unfolding is_whole
short-unwhole s even h = and_is (eq-eqb (length s % 2) 0 (omega arith)) (lt-leb 8 (length s) (omega arith))

pub whole : (s : List ℕ) → length s ≡ 2 * (length s / 2) → query_size ≤ length s / 2 → is_whole s ≡ true
unfolding is_whole
whole s even h = and_both (eq-eqb (length s % 2) 0 (omega arith)) (le-leb 8 (length s) (omega arith))

-- a call's answer and buffer, for a table and a query, and for the program's input
abbrev pub Lists : List ℕ → Query → List ℕ → List ℕ → Result ℕ Refusal → Type 0
Lists t q before after r = (listing_told r ≡ listing t q (length before)) × (after ≡ buffer_after t q before)

abbrev pub Answers : List ℕ → List ℕ → List ℕ → Result ℕ Refusal → Type 0
Answers bytes before after r = (listing_told r ≡ input_outcome bytes (length before)) × (after ≡ input_buffer bytes before)

-- the first numbers are the query, and the part after them is the table
pub lists-rest : (s before after : List ℕ) (q : Query) (r : Result ℕ Refusal) → q ≡ query_of s
    → Lists (take (length s - query_size) (drop query_size s)) q before after r → Lists (table_of s) (query_of s) before after r
lists-rest s before after q r is h =
    let rest = take_all (length s - query_size) (drop query_size s) (simp length-drop (omega arith)) in
    rw (rest, is) at h

-- refusal 1, at position 0
abbrev short_head : Refusal
short_head = record { reason = reason.ShortHead; position = 0 }

-- the bytes that count
module _ (bytes read : List ℕ) (counts : read ≡ counted_bytes bytes) where
  pub read-few : length read / 2 ≤ 2048
  read-few = omega (arith, simp length-take at (ap length counts))

  pub read_length : (places : List ℕ) → length places ≡ 2048 → length read / 2 ≡ length (take (length read / 2) places)
  read_length places room = let few = read-few in sym (length-take-le (length read / 2) places (omega arith))

  -- what is told of bytes that are no input
  pub answers-unwhole : (before : List ℕ) → is_whole read ≡ false → Answers bytes before before (Err short_head)
  unfolding input_outcome input_buffer outcome_of told pick demand ◌and_then◌
  answers-unwhole before h = rw (← counts, h) (refl, refl)

  -- and of an input, by its numbers
  pub answers-whole : (before numbers after : List ℕ) (r : Result ℕ Refusal) → is_whole read ≡ true → numbers ≡ numbers_of read
      → Lists (table_of numbers) (query_of numbers) before after r → Answers bytes before after r
  unfolding input_outcome input_buffer pick demand ◌and_then◌
  answers-whole before numbers after r h e lists = rw (← counts, ← e, h) lists

-- a list that is told fits into the buffer
pub listed-fits : (bytes before after : List ℕ) (r : Result ℕ Refusal) (count : ℕ) → r ≡ Ok count
    → listing_told r ≡ input_outcome bytes (length before) → length after ≡ length before → count ≤ length after
unfolding input_outcome listing outcome_of
listed-fits bytes before after r count is told same =
    let counts = then-second (demand (is_whole _) 1 0) _ count (sym told ∙ ap listing_told is) in
    let (all, few) = accepted-counted (length before) _ count (then-second (request_outcome _ _) _ count counts) in
    rw (same, all) few
