-- `families::Family::joined` meets its contract: the unions with each set of the family are put in. Assumes nothing.
use Rattle.std.proofs.Common.{◌≡◌, ◌∙◌}
use Rattle.families.specs.Families.{joins}
use Rattle.families.proofs.Stepping.{gathered-all, gathered_next, gathered_none, or-made}
use Rattle.families.proofs.Family.joined.Goals as goal

pub loop-set-init : goal.loop-set-init
loop-set-init c =
    let begun : c.into_iter-set-iterator.result.from ≡ 0 = cc in
    (cc, rw begun (gathered_none _ _ _ c.none-all.ensures))

pub loop-set-preserved : goal.loop-set-preserved
loop-set-preserved c =
    let (same, so_far) = c.loop-set.invariant in
    let (kept, moved) = c.in-Some.ensures.steps in
    let (less, step, on) = moved in (
      kept ∙ same,
      rw on (gathered_next _ _ _ _ _ _ so_far (rw same at step) less (or-made _ _ _ _ c.raised.ensures c.or-all.ensures)),
    )

pub returns : goal.returns
unfolding joins
returns c =
    let (same, so_far) = c.loop-set.invariant in
    gathered-all _ _ _ _ so_far (rw same at c.in-None.ensures.steps.1)
