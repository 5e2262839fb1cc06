-- The bytes of that part of the buffer are the text's.
use mathlib.Core.Path.{◌≡◌, ◌∙◌, refl, sym}
use mathlib.Core.List.{append_assoc}
use Rattle.std.proofs.Common.{arith, length, ◌+◌, ◌-◌}
use Rattle.std.proofs.lemmas.List.Edits.{sets-eq}
use lib.Seq.{drop-drop}
use Rattle.lines.specs.Put.{stored}
use Rattle.lines.proofs.put.Goals as goal

pub returns : goal.returns
unfolding stored
returns c =
    let at = c.args.at in
    let text = c.args.text.now in
    let before = c.args.out.now in
    let whole : at + length text - at ≡ length text = omega arith in
    record {
      cells =
          rw (c.copy_from_slice.ensures.after, whole, drop-drop (length text) at before)
          (sym (sets-eq text before at c.requires ∙ append_assoc _ text _));
      ends = refl;
      inside = c.requires;
    }
