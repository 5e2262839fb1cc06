-- What the test tells of the next member puts it in, or leaves it out.
use Rattle.std.proofs.Common.{ap, sym, ◌∙◌}
use Rattle.sets.specs.Sets.{set_of}
use Rattle.sets.proofs.Members.{set_more, set-not}
use Rattle.sets.proofs.those.Goals.{then-test, else-test}
use Rattle.sets.proofs.those.Goals as goal

pub loop-k-init : goal.loop-k-init
unfolding set_of
loop-k-init g c = λ p agrees. c.narrow-set.ensures

pub loop-k-preserved : goal.loop-k-preserved
loop-k-preserved g c =
    λ p agrees.
    let so_far = c.loop-k.invariant p agrees in
    let here = agrees c.loop-k.k c.loop-k-test.true c.test.result c.test.ensures in
    elim c.if-test.branch [
      | then-test w ↦ ap g.S.Width.number w.set-is ∙ w.with-set.ensures ∙ set_more p _ _ so_far (sym here ∙ w.if-test.true)
      | else-test w ↦ ap g.S.Width.number w.set-is ∙ set-not p _ _ so_far (sym here ∙ w.if-test.false)
    ]
