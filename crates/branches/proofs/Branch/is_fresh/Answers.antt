-- Each goal above is another.
use Rattle.std.proofs.Common.{◌∙◌, sym, refl}
use Rattle.std.proofs.lemmas.List.{take_all}
use Rattle.derivation.specs.Rules.{fresh}
use Rattle.derivation.specs.Held.{no_goal}
use Rattle.branches.specs.Held.{above}
use Rattle.branches.proofs.Above.{fresh-next, fresh-not}
use Rattle.branches.proofs.Branch.is_fresh.Goals as goal

pub loop-other-init : goal.loop-other-init
unfolding fresh
loop-other-init c = refl

pub returns-then-is_same : goal.returns-then-is_same
unfolding above
returns-then-is_same c =
    let same = sym c.is_same.ensures ∙ c.if-is_same.true in
    rw (← c.as_slice-other-items.ensures) (sym (fresh-not _ _ _ no_goal c.loop-other-test.true same))

pub loop-other-preserved : goal.loop-other-preserved
loop-other-preserved c =
    let differs = sym c.is_same.ensures ∙ c.if-is_same.false in
    fresh-next _ _ _ no_goal c.loop-other-test.true c.loop-other.invariant differs

pub returns : goal.returns
unfolding above
returns c =
    let all = take_all c.loop-other.other-index c.as_slice-other-items.result.now c.loop-other-test.false in
    sym (rw (all, c.as_slice-other-items.ensures) at c.loop-other.invariant)
