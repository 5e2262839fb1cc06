-- Going down, the first that may be used is the last of all.
use Rattle.std.proofs.Common.{arith, sym, ◌∙◌}
use Rattle.choice.proofs.Candidates.{none-down}
use Rattle.choice.proofs.last_usable.Goals as goal

pub loop-i-init : goal.loop-i-init
loop-i-init c = λ k from l may. absurd (omega arith)

pub returns-then-may_use : goal.returns-then-may_use
returns-then-may_use c =
    record { few = omega arith; none = λ k behind l may. c.loop-i.invariant k (omega arith) l may }

pub loop-i-preserved : goal.loop-i-preserved
loop-i-preserved c = none-down _ _ _ _ _ (omega arith) c.loop-i.invariant (sym c.may_use.ensures ∙ c.if-may_use.false)

pub returns : goal.returns
returns c = record { few = omega arith; none = λ k behind l may. c.loop-i.invariant k (omega arith) l may }
