-- The credential is found and its role compared, then it goes by kind.
use Rattle.std.proofs.Common.{List, ◌∙◌, ap}
use Rattle.table.specs.declared.Role.{Role}
use Rattle.table.specs.declared.Kind.TheVariants as kind
use Rattle.table.proofs.Reading.{kind-read}
use Rattle.sets.proofs.Tests.{failed}
use Rattle.derivation.specs.Held.{given}
use Rattle.derivation.specs.Rules.{intersection_asks}
use Rattle.derivation.proofs.Asking.{asks-1, asks-2, asks-3, asks-4, asks_none, asks-other, asks-own}
use Rattle.derivation.proofs.Asking.{chain-there, found, not-usable, there}
use Rattle.derivation.proofs.rules.premises.Goals as goal

pub returns-then-not-usable : goal.returns-then-not-usable
unfolding given
returns-then-not-usable c = not-usable _ _ _ _ (failed c.usable.ensures c.if-not-usable.true)

pub credential-credential-requires-clause-numbered : goal.credential-credential-requires-clause-numbered
credential-credential-requires-clause-numbered c =
    rw c.wide.ensures.0 (there _ c.usable.ensures c.if-not-usable.false c.wide.ensures.0)

pub returns-then-ne : goal.returns-then-ne
unfolding given
returns-then-ne c =
    let from = c.args in
    let wide = c.wide.ensures.0 in
    let read = c.credential-credential.ensures in
    asks-other _ c.usable.ensures c.if-not-usable.false wide from.goal from.middle read c.ne.ensures c.if-ne.true

pub chain-requires-clause-numbered : goal.chain-requires-clause-numbered
chain-requires-clause-numbered c =
    let read = found _ c.usable.ensures c.if-not-usable.false c.wide.ensures.0 c.credential-credential.ensures in
    (chain-there _ c.requires _ (there _ c.usable.ensures c.if-not-usable.false c.wide.ensures.0) _ read (kind-read c.in-Ok-IntersectionContainment.ensures c.in-Ok-IntersectionContainment.field-0-is)).0

pub chain-requires-clause-first_value : goal.chain-requires-clause-first_value
chain-requires-clause-first_value c =
    let read = found _ c.usable.ensures c.if-not-usable.false c.wide.ensures.0 c.credential-credential.ensures in
    (chain-there _ c.requires _ (there _ c.usable.ensures c.if-not-usable.false c.wide.ensures.0) _ read (kind-read c.in-Ok-IntersectionContainment.ensures c.in-Ok-IntersectionContainment.field-0-is)).1

pub returns-in-Ok-SimpleMembership : goal.returns-in-Ok-SimpleMembership
returns-in-Ok-SimpleMembership c =
    let from = c.args in
    let wide = c.wide.ensures.0 in
    let read = c.credential-credential.ensures in
    let own = asks-own _ c.usable.ensures c.if-not-usable.false wide from.goal from.middle read c.ne.ensures c.if-ne.false in
    c.membership.ensures ∙ asks-1 _ _ _ _ (kind-read c.in-Ok-SimpleMembership.ensures c.in-Ok-SimpleMembership.field-0-is) ∙ own

pub returns-in-Ok-SimpleContainment : goal.returns-in-Ok-SimpleContainment
returns-in-Ok-SimpleContainment c =
    let from = c.args in
    let wide = c.wide.ensures.0 in
    let read = c.credential-credential.ensures in
    let own = asks-own _ c.usable.ensures c.if-not-usable.false wide from.goal from.middle read c.ne.ensures c.if-ne.false in
    c.containment.ensures ∙ asks-2 _ _ _ _ (kind-read c.in-Ok-SimpleContainment.ensures c.in-Ok-SimpleContainment.field-0-is) ∙ own

pub returns-in-Ok-LinkingContainment : goal.returns-in-Ok-LinkingContainment
returns-in-Ok-LinkingContainment c =
    let from = c.args in
    let wide = c.wide.ensures.0 in
    let read = c.credential-credential.ensures in
    let own = asks-own _ c.usable.ensures c.if-not-usable.false wide from.goal from.middle read c.ne.ensures c.if-ne.false in
    c.linking.ensures ∙ asks-3 _ _ _ _ (kind-read c.in-Ok-LinkingContainment.ensures c.in-Ok-LinkingContainment.field-0-is) ∙ own

pub returns-in-Ok-IntersectionContainment : goal.returns-in-Ok-IntersectionContainment
returns-in-Ok-IntersectionContainment c =
    let from = c.args in
    let wide = c.wide.ensures.0 in
    let read = c.credential-credential.ensures in
    let own = asks-own _ c.usable.ensures c.if-not-usable.false wide from.goal from.middle read c.ne.ensures c.if-ne.false in
    let parts = ap (λ (roles : List Role). intersection_asks from.goal roles from.middle) c.chain.ensures in
    c.intersection.ensures ∙ parts ∙ asks-4 _ _ _ _ (kind-read c.in-Ok-IntersectionContainment.ensures c.in-Ok-IntersectionContainment.field-0-is) ∙ own

pub returns-in-Err : goal.returns-in-Err
unfolding given
returns-in-Err c =
    let from = c.args in
    let wide = c.wide.ensures.0 in
    let read = c.credential-credential.ensures in
    let own = asks-own _ c.usable.ensures c.if-not-usable.false wide from.goal from.middle read c.ne.ensures c.if-ne.false in
    let no = c.in-Err.ensures in
    asks_none _ _ _ _ (no kind.SimpleMembership) (no kind.SimpleContainment) (no kind.LinkingContainment) (no kind.IntersectionContainment)
    ∙ own
