-- `lines::put_digit` meets its contract: it stores one byte. Assumes nothing.
use borrow.Author.Rules.{rules}
use native.Mathlib.Omega.{arith}
use Rattle.lines.proofs.Puts.{put_one}
use Rattle.lines.proofs.put_digit.Statement.{statement}
use Rattle.lines.proofs.put_digit.Tie as tie

cast-out : tie.Need-overflow_cast-out
cast-out c = search rules

add-out : tie.Need-overflow_add-out
add-out c = search rules

slice-write-out : tie.Need-bounds-out-at
slice-write-out c = search rules

add-result : tie.Need-overflow_add-result
add-result c = search rules

same_length : tie.Need-shape_of-out
same_length c = search rules

returns : tie.Need-returns
returns c = put_one _ _ _ (omega arith)

pub put_digit_spec : {M : Type 1} → statement M
put_digit_spec =
    tie.close (tie.spec cast-out add-out slice-write-out add-result same_length returns)
