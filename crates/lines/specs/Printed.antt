-- docs/DEFINITION.md, "The listing program": one decimal set a line, then `sets` and the count; or one line `refused`, the
-- number, the position. What is printed is a list of bytes, each the ASCII code of a character.
use Rattle.std.specs.Prelude.{ℕ, zero, suc, ◌+◌, ◌-◌, ◌*◌, ◌/◌, ◌%◌, ◌≡◌, List, [], ◌∷◌, ◌++◌, drop, length, take, ltb}
use Prim.Native.Char.{code}
use Prim.Native.String.{String, [] as none, ◌∷◌ as ◌then◌}
use Rattle.sets.specs.Logic.{pick}
use Rattle.table.specs.Outcome.{Outcome}
use Rattle.table.specs.Outcome.Outcome.{accepted, refused}

-- a text's characters by their codes
abbrev pub ascii : String → List ℕ
ascii none = []
ascii (first then rest) = code first ∷ ascii rest

-- `0` to `9`
abbrev pub glyph : ℕ → ℕ
glyph digit = code "0" + digit

-- a number in decimal: its digits but the last, where it has more than one, and its last. `most` is a bound on how many those
-- before the last are, by which the definition recurses
unfoldable pub digits : (most n : ℕ) → List ℕ
digits zero n = glyph n ∷ []
digits (suc most) n = pick (ltb n 10) (glyph n ∷ []) (digits most (n / 10) ++ (glyph (n % 10) ∷ []))

unfoldable pub decimal : ℕ → List ℕ
decimal n = digits n n

-- the number that digits stand for, read from the left after those that stand for `before`
unfoldable pub read_after : ℕ → List ℕ → ℕ
read_after before [] = before
read_after before (d ∷ digits) = read_after (10 * before + (d - glyph 0)) digits

-- a number's digits stand for it
abbrev pub DecimalReads : Type 0
DecimalReads = (n : ℕ) → read_after 0 (decimal n) ≡ n

unfoldable pub line : ℕ → List ℕ
line n = decimal n ++ ascii "\n"

-- one set a line
unfoldable pub lines : List ℕ → List ℕ
lines [] = []
lines (set ∷ sets) = line set ++ lines sets

unfoldable pub printed_list : List ℕ → ℕ → List ℕ
printed_list sets count = lines sets ++ ascii "sets " ++ line count

unfoldable pub printed_refusal : ℕ → ℕ → List ℕ
printed_refusal number position = ascii "refused " ++ decimal number ++ ascii " " ++ line position

-- what is printed where this is told and the buffer holds these cells
unfoldable pub printed : Outcome → List ℕ → List ℕ
printed (accepted count) cells = printed_list (take count cells) count
printed (refused number position) cells = printed_refusal number position

-- the program lists with a buffer of 4,096 cells
abbrev pub cells : ℕ
cells = 4096

-- room for as many lines of ten digits, and a last line
abbrev pub room : ℕ
room = 45096

-- a buffer into which a text is put: it has the text at its start, of so many bytes, and the bytes beyond are unchanged
pub record Filled (text before after : List ℕ) (count : ℕ) : Type 0 where
  pub whole : count ≡ length text
  pub bytes : after ≡ text ++ drop count before
