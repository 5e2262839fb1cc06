-- What a reader expects of the definition, by computation. That a number's digits stand for it is `decimal-reads` of
-- Decimals.antt.
use mathlib.Core.Path.{◌≡◌, refl}
use mathlib.Core.List.{[], ◌∷◌}
use Rattle.sets.specs.Logic.{pick}
use Rattle.table.specs.Outcome.Outcome.{accepted, refused}
use Rattle.lines.specs.Printed.{ascii, decimal, digits, line, lines, printed, printed_list, printed_refusal}

zero-printed : decimal 0 ≡ ascii "0"
unfolding decimal digits pick
zero-printed = refl

count-printed : decimal 4096 ≡ ascii "4096"
unfolding decimal digits pick
count-printed = refl

-- the shop's list, 7 and 8, in a buffer whose third cell is no set
list-printed : printed (accepted 2) (7 ∷ 8 ∷ 9 ∷ []) ≡ ascii "7\n8\nsets 2\n"
unfolding printed printed_list lines line decimal digits pick
list-printed = refl

refusal-printed : printed (refused 1 0) [] ≡ ascii "refused 1 0\n"
unfolding printed printed_refusal line decimal digits pick
refusal-printed = refl
