-- What is printed for an input is printed for its bytes that count, which are those that the program reads.
use Rattle.std.proofs.Common.{◌≡◌, ℕ, ◌≤◌, ◌<◌, ◌++◌, List, [], Some, None, Option, IfSome, arith, length, length-take, take, ap, sym, ◌∙◌, subst}
use Rattle.std.proofs.lemmas.List.{take_all}
use Rattle.std.proofs.lemmas.Grind.{common_steps}
use Rattle.std.specs.Io.KnownBytes.{Consumes, IsAtEnd}
use Rattle.input.specs.Input.{input_buffer, input_outcome}
use Rattle.printing.specs.Program.{program_prints}

take-twice : (most : ℕ) (xs : List ℕ) → take most (take most xs) ≡ take most xs
take-twice most xs = take_all most (take most xs) (omega (arith, length-take most xs))

-- later bytes change nothing of what is printed
prints_counted : (xs : List ℕ) → program_prints (take 4096 xs) ≡ program_prints xs
unfolding program_prints input_outcome input_buffer
prints_counted xs = rw (take-twice 4096 xs)

-- `most` bytes are read, or all that there are
first-read : (most n : ℕ) (xs ys front : List ℕ) → length front ≡ n → n ≤ most → xs ≡ front ++ ys → (n < most → ys ≡ [])
    → take most xs ≡ front
first-read most n xs ys front long within is end = grind (arith, common_steps)

-- what holds of what is printed for the bytes that were read, holds of what is printed for the whole input
pub prints_read : (P : List ℕ → Type 0) (n : ℕ) (before after : Option (List ℕ)) (front : List ℕ) → length front ≡ n → n ≤ 4096
    → Consumes before after front → (n < 4096 → IsAtEnd after) → P (program_prints front)
    → IfSome before (λ xs. P (program_prints xs))
prints_read P n None after front long within read end holds = tt
prints_read P n (Some xs) None front long within read end holds = absurd read
prints_read P n (Some xs) (Some ys) front long within read end holds =
    let first = first-read 4096 n xs ys front long within read end in
    subst P (ap program_prints (sym first) ∙ prints_counted xs) holds
