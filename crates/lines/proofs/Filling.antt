-- What is printed of a list, and of a refusal, put text by text at the start of a buffer.
use mathlib.Core.List.{List}
use Prim.Native.Nat.{ℕ}
use Rattle.lines.specs.Printed.{Filled, ascii, decimal, line, lines, printed_list, printed_refusal}
use Rattle.lines.specs.Put.{Put}
use Rattle.lines.proofs.Puts.{put-filled, put_then}

module _ {before after : List ℕ} {next : ℕ} where
  pub list-filled : {m₁ m₂ : List ℕ} {k₁ k₂ : ℕ} (sets : List ℕ) (count : ℕ) → Put before 0 (lines sets) m₁ k₁
      → Put m₁ k₁ (ascii "sets ") m₂ k₂ → Put m₂ k₂ (line count) after next
      → Filled (printed_list sets count) before after next
  unfolding printed_list
  list-filled sets count p q r = put-filled (put_then (put_then p q) r)

  pub refusal-filled : {m₁ m₂ m₃ : List ℕ} {k₁ k₂ k₃ : ℕ} (number position : ℕ) → Put before 0 (ascii "refused ") m₁ k₁
      → Put m₁ k₁ (decimal number) m₂ k₂ → Put m₂ k₂ (ascii " ") m₃ k₃ → Put m₃ k₃ (line position) after next
      → Filled (printed_refusal number position) before after next
  unfolding printed_refusal
  refusal-filled number position p q r s = put-filled (put_then (put_then (put_then p q) r) s)
