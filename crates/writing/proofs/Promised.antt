-- What is written is the first record, which the verifier accepts; what it accepts has no pair twice on a branch.
use mathlib.Core.Path.{◌≡◌, sym, ◌∙◌}
use Prim.Native.Nat.{ℕ}
use lib.Seq.{take-append_seam}
use Rattle.table.specs.Outcome.Outcome.{accepted}
use Rattle.table.proofs.Stages.{refused-accepted}
use Rattle.verifier.proofs.Promised.{read-none-twice}
use Rattle.writing.specs.Promised.{WrittenNoneTwice}
use Rattle.writing.proofs.WritesFirst.{writes-first}

same_count : {v w : ℕ} → accepted v ≡ accepted w → v ≡ w
same_count e = cc

pub written-none-twice : WrittenNoneTwice
written-none-twice t q S cells count table valid told =
    let (rec, first, fits, counted, cells-now) =
    (writes-first.1 t q S cells table valid).otherwise (λ e. refused-accepted (sym e ∙ told)) (λ e. refused-accepted (sym e ∙ told)) in
    rw (same_count (sym told ∙ counted), cells-now, take-append_seam) (read-none-twice t q rec S table valid first.uses)
