-- What one more read put behind what was read before stands at the start of the buffer with it, and is what was consumed.
use Rattle.std.proofs.Common.{◌+◌, ◌≡◌, ◌++◌, drop, take, ◌∙◌, ap}
use Rattle.std.proofs.KnownBytes.{Consumes-trans}
use Rattle.std.proofs.Math.Seq.{take-add}
use Rattle.minimal_sets.proofs.read_input.Goals as goal

pub loop-filled-preserved : goal.loop-filled-preserved
loop-filled-preserved g c =
    let filled = c.loop-filled.filled in
    let more = c.in_ok-more.more in
    let input = c.read_more.new.input in
    let joined : take (filled + more) input ≡ take filled c.loop-filled.input ++ take more (drop filled input) =
    take-add filled more input ∙ ap (λ front. front ++ take more (drop filled input)) c.read_more.ensures.front in
    record {
      within = c.in_ok-more.ensures.fits;
      bytes = rw joined (Consumes-trans _ _ _ _ _ c.loop-filled.invariant.bytes c.in_ok-more.ensures.bytes);
    }
