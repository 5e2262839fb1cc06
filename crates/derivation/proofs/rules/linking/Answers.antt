-- Two goals are asked where the middle is a principal.
use Rattle.std.proofs.Common.{ap, ◌∙◌}
use mathlib.Core.Option.{some}
use Rattle.derivation.specs.Held.{given}
use Rattle.derivation.proofs.Asking.{principal-none, principal-over, principal-there, when-off, when-on}
use Rattle.derivation.proofs.rules.linking.Goals.{then-middle-eq0-via-then-middle-eq0, then-middle-eq0-via-else-middle-eq0+then-middle-gt-MOST_PRINCIPALS}
use Rattle.derivation.proofs.rules.linking.Goals as goal

pub returns-then-middle-eq0 : goal.returns-then-middle-eq0
unfolding given
returns-then-middle-eq0 c =
    when-off _
    (elim c.then-middle-eq0.branch [
      | then-middle-eq0-via-then-middle-eq0 w ↦ principal-none _ w.if-middle-eq0.true
      | then-middle-eq0-via-else-middle-eq0+then-middle-gt-MOST_PRINCIPALS w ↦ principal-over _ w.if-middle-gt-MOST_PRINCIPALS.true
    ])

pub returns : goal.returns
unfolding given
returns c =
    let both = rw c.of.ensures at c.with.ensures in
    ap some both ∙ when-on _ (principal-there _ c.if-middle-eq0.false c.if-middle-gt-MOST_PRINCIPALS.false)
