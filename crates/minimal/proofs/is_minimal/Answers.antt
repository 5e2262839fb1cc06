-- `minimal::is_minimal` meets its contract: the set is minimal where none of its credentials is spare.
use Rattle.std.proofs.Common.{arith, refl, sym, ◌∙◌}
use Rattle.sets.specs.Logic.{any_below}
use Rattle.sets.proofs.Tests.{any_next}
use Rattle.admission.specs.Admits.{admits}
use Rattle.minimal.proofs.Spare.{admits-monotone, none-spare, spare, spare_more}
use Rattle.minimal.proofs.is_minimal.Goals as goal

pub loop-i-init : goal.loop-i-init
unfolding any_below
loop-i-init c = refl

pub returns-then-is_spare : goal.returns-then-is_spare
returns-then-is_spare c = sym (spare_more _ _ _ c.is_spare.ensures c.if-is_spare.true)

pub loop-i-preserved : goal.loop-i-preserved
loop-i-preserved c =
    any_next (spare (admits _ _) _) _ c.loop-i.invariant (sym c.is_spare.ensures ∙ c.if-is_spare.false)

pub returns : goal.returns
returns c =
    let pre = c.requires in
    let wf = c.args.request.now.prepared.well_formed in
    sym (none-spare _ _ (admits-monotone _ wf _) _ pre.set_bound pre.set_value _
    (omega (arith, c.credentials-n.ensures.same)) c.loop-i.invariant)
