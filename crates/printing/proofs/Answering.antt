-- The whole answer: whether a list or a refusal is printed for an input, and what is told of the refusal.
use mathlib.Core.Path.{◌≡◌, sym, ap, ◌∙◌}
use mathlib.Core.List.{List, []}
use Prim.Native.Nat.{ℕ, ◌≤◌}
use lib.ListN.{length, replicate, take}
use lib.Seq.{length-take-le}
use Rattle.table.specs.Checks.{number_of, outcome_of, told}
use Rattle.table.specs.Outcome.Outcome.{accepted}
use Rattle.table.specs.declared.Refusal.{Refusal}
use Rattle.input.specs.Input.{input_buffer, input_outcome}
use Rattle.listing.specs.Minimal.{listing_told}
use Rattle.std.specs.Prelude.{Result, Ok, Err}
use Rattle.input.proofs.Inputs.{listed-fits}
use Rattle.lines.specs.Printed.{Filled, cells, printed, printed_list, printed_refusal}
use Rattle.printing.specs.Program.{program_prints}

-- what an input's answer and cells print
module _ (input sets : List ℕ) (answer : Result ℕ Refusal)
    (tells : (listing_told answer ≡ input_outcome input cells) × (sets ≡ input_buffer input (replicate cells 0)))
    (sized : length sets ≡ cells) where
  pub listed-within : (count : ℕ) → answer ≡ Ok count → count ≤ length sets
  listed-within count is = listed-fits input (replicate cells 0) sets answer count is tells.0 sized

  pub listed-filled : {before after : List ℕ} {next : ℕ} (count : ℕ) → answer ≡ Ok count
      → Filled (printed_list (take count sets) (length (take count sets))) before after next
      → Filled (program_prints input) before after next
  unfolding program_prints printed outcome_of
  listed-filled count is p =
      let outcome : input_outcome input cells ≡ accepted count = sym tells.0 ∙ ap listing_told is in
      let counted = rw (length-take-le count sets (listed-within count is)) at p in rw (outcome, ← tells.1) counted

  pub refused-filled : {before after : List ℕ} {next : ℕ} (why : Refusal) → answer ≡ Err why
      → Filled (printed (told why) []) before after next → Filled (program_prints input) before after next
  unfolding program_prints printed outcome_of told
  refused-filled why is p =
      let outcome : input_outcome input cells ≡ told why = sym tells.0 ∙ ap listing_told is in rw outcome p

-- a reason's number and a position are what is told of a refusal
pub told-filled : {before after : List ℕ} {next : ℕ} (why : Refusal) (number : ℕ) → number ≡ number_of why.reason
    → Filled (printed_refusal number why.position) before after next → Filled (printed (told why) []) before after next
unfolding printed told
told-filled why number n h = rw n at h
