-- `families::Family::completes` meets its contract: each set of `later` is tried. Assumes nothing.
use Rattle.std.proofs.Common.{◌≡◌, ◌∙◌, sym}
use Rattle.families.specs.Families.{completes}
use Rattle.families.proofs.Stepping.{sought-all, sought-here, sought-next, sought-none}
use Rattle.families.proofs.Family.completes.Goals as goal

pub loop-more-init : goal.loop-more-init
loop-more-init c =
    let begun : c.into_iter-more-iterator.result.from ≡ 0 = cc in
    (cc, rw begun (sought-none _ _))

pub returns-then-has : goal.returns-then-has
unfolding completes
returns-then-has c =
    let (same, so_far) = c.loop-more.invariant in
    let (kept, moved) = c.in-Some.ensures.steps in
    let (less, step, on) = moved in
    sym (sought-here _ _ _ _ (rw same at step) less (sym c.has.ensures ∙ c.if-has.true))

pub loop-more-preserved : goal.loop-more-preserved
loop-more-preserved c =
    let (same, so_far) = c.loop-more.invariant in
    let (kept, moved) = c.in-Some.ensures.steps in
    let (less, step, on) = moved in
    (kept ∙ same, rw on (sought-next _ _ _ _ so_far (rw same at step) (sym c.has.ensures ∙ c.if-has.false)))

pub returns : goal.returns
unfolding completes
returns c =
    let (same, so_far) = c.loop-more.invariant in
    sym (sought-all _ _ _ so_far (rw same at c.in-None.ensures.steps.1))
