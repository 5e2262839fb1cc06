-- `printing::put_answer` meets its contract: the list that is told, or the refusal. Assumes nothing.
use borrow.Author.Rules.{rules}
use mathlib.Core.Path.{sym}
use native.Mathlib.Omega.{arith}
use lib.ListN.{length-take}
use lib.Seq.{length-take-le}
use Rattle.printing.proofs.Answering.{listed-filled, listed-within, refused-filled}
use Rattle.printing.proofs.put_answer.Statement.{statement}
use Rattle.printing.proofs.put_answer.Tie as tie

slice-aggregate-list-input : tie.Need-slice_bounds-list_input-end
slice-aggregate-list-input c = search rules

list-input-requires : tie.Need-list_input-requires
list-input-requires c κs = search rules

enum-known-count : tie.Need-enum_known-count
enum-known-count c = search rules

array-share-prefix-sets : tie.Need-slice_bounds-sets-end
array-share-prefix-sets c =
    listed-within _ _ _ c.list_input.ensures c.list_input.auto.sets _ c.in-Ok.is

slice-aggregate-put-list : tie.Need-slice_bounds-put_list-end
slice-aggregate-put-list c =
    let within = listed-within _ _ _ c.list_input.ensures c.list_input.auto.sets _ c.in-Ok.is in
    sym (length-take-le _ _ within)

put-list-requires : tie.Need-put_list-requires
put-list-requires c κs =
    (simp length-take (omega (arith, c.list_input.auto.sets)), c.requires)

enum-known-why : tie.Need-enum_known-why
enum-known-why c = search rules

put-refusal-requires : tie.Need-put_refusal-requires
put-refusal-requires c κs = search rules

same_length : tie.Need-shape_of-out-in-Ok
same_length c = search rules

returns : tie.Need-returns-in-Ok
returns c =
    listed-filled _ _ _ c.list_input.ensures c.list_input.auto.sets _ c.in-Ok.is
    c.put_list.ensures

same-length-2 : tie.Need-shape_of-out-in-Err
same-length-2 c = search rules

returns-2 : tie.Need-returns-in-Err
returns-2 c =
    refused-filled _ _ _ c.list_input.ensures c.list_input.auto.sets _ c.in-Err.is
    c.put_refusal.ensures

pub put_answer_spec : {M : Type 1} → statement M
put_answer_spec =
    tie.close
    (tie.spec
    slice-aggregate-list-input
    list-input-requires
    enum-known-count
    array-share-prefix-sets
    slice-aggregate-put-list
    put-list-requires
    enum-known-why
    put-refusal-requires
    same_length
    returns
    same-length-2
    returns-2)
