-- There is a goal for each part, so there is room for it.
use Rattle.std.proofs.Common.{◌∙◌, ap, take, length, arith}
use Rattle.std.proofs.lemmas.List.{length-map, length-take-le, map_more, take_all}
use Rattle.table.specs.declared.Role.{Role}
use Rattle.table.specs.Layout.{role}
use Rattle.few.proofs.Listing.{listed-inside}
use Rattle.derivation.specs.Rules as rules
use mathlib.Core.Option.{some}
use borrow.Author.Tests.{eq-eqb, ne_eqb}
use Rattle.derivation.specs.Held.{given}
use Rattle.derivation.proofs.Asking.{when-off, when-on}
use Rattle.derivation.proofs.rules.intersection.Goals as goal

pub returns-then-middle-ne0 : goal.returns-then-middle-ne0
unfolding given
returns-then-middle-ne0 c = when-off _ (ne_eqb _ 0 c.if-middle-ne0.true)

pub push-requires : goal.push-requires
push-requires c =
    let so_far = ap length c.loop-role.invariant in
    let i = c.loop-role.role-index in
    let items = c.as_slice-role-items.result.now in
    let count = length-map (take i items) (λ (r : Role). rules.goal c.args.goal.principal r) in
    let few = listed-inside c.args.chain in
    let all = ap length c.as_slice-role-items.ensures in
    (omega arith, omega (arith, length-take-le i items (omega arith)))

pub loop-role-preserved : goal.loop-role-preserved
loop-role-preserved c =
    rw (c.push.ensures, c.loop-role.invariant, map_more _ _ c.loop-role.role-index (role 0 0) c.loop-role-test.true)

pub returns : goal.returns
unfolding given
returns c =
    let all = take_all c.loop-role.role-index _ c.loop-role-test.false in
    ap some (rw (all, c.as_slice-role-items.ensures) at c.loop-role.invariant) ∙ when-on _ (eq-eqb _ 0 c.if-middle-ne0.false)
