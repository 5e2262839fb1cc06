-- `derivation::rules::usable` meets its contract: the number is 0, or it is compared with how many credentials there are. Assumes
-- nothing.
use mathlib.Core.Path.{◌∙◌, ap, ap₂}
use mathlib.Core.Bool.{not}
use borrow.Author.Rules.{rules}
use borrow.Author.Tests.{eq-eqb}
use lib.Dec.{leb}
use Rattle.derivation.proofs.Usable.{usable-under, zero-unusable}
use Rattle.derivation.proofs.rules.usable.Statement.{statement}
use Rattle.derivation.proofs.rules.usable.Tie as tie

wide-requires : tie.Need-wide-requires
wide-requires c κs = search rules

credentials-requires : tie.Need-credentials-requires
credentials-requires c κs = search rules

returns : tie.Need-returns-then-c-ne0
returns c = ap₂ leb c.wide.ensures.0 c.credentials.ensures.same ∙ usable-under _ _ c.if-c-ne0.true

returns-2 : tie.Need-returns-else-c-ne0
returns-2 c = ap not (eq-eqb _ 0 c.if-c-ne0.false) ∙ zero-unusable _ _ c.if-c-ne0.false

pub usable_spec : {M : Type 1} → statement M
usable_spec = tie.close (tie.spec wide-requires credentials-requires returns returns-2)
