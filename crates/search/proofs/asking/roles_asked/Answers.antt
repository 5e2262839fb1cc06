-- Role by role: the first k of the roles that the credential asks, by the cells of the index.
use Rattle.std.proofs.Common.{◌<◌, ◌∙◌, ap, length, sym, arith, add-one, lit<}
use Rattle.few.specs.Listed.{listed}
use Rattle.table.specs.declared.Credential.{Credential}
use Rattle.members.specs.Members.{roles_asked}
use Rattle.members.proofs.Reading.{as_read, kind-read, numbered, whole}
use Rattle.search.proofs.Pairs.{asked-few, roles-length, roles-next, roles-none}
use Rattle.search.proofs.asking.roles_asked.Goals as goal

pub parts_asked-k-end-requires-clause-whole : goal.parts_asked-k-end-requires-clause-whole
parts_asked-k-end-requires-clause-whole c =
    let (there, other) = c.requires.i_bound in
    let read = c.credential.ensures in
    let numbered-there = numbered there in
    (whole _ c.requires.well_formed _ (rw (← add-one _) at numbered-there) _ read, λ three. other (sym (kind-read _ _ _ read) ∙ three))

pub loop-k-init : goal.loop-k-init
loop-k-init c = c.none-asked.ensures ∙ roles-none _ _ _

pub asked_cell-place-requires-clause-i_lt_most_credentials : goal.asked_cell-place-requires-clause-i_lt_most_credentials
asked_cell-place-requires-clause-i_lt_most_credentials c =
    let (there, other) = c.requires.i_bound in
    let few = asked-few _ c.requires.well_formed _ there other in
    let asked-is = c.parts_asked-k-end.ensures
    ∙ ap (λ (x : Credential). length (roles_asked c.args.table.now x)) (as_read _ _ _ c.credential.ensures) in
    (omega (arith, c.requires.well_formed.sized.counted.few_credentials), omega arith)

pub push-requires : goal.push-requires
push-requires c =
    let (there, other) = c.requires.i_bound in
    let few = asked-few _ c.requires.well_formed _ there other in
    let asked-is = c.parts_asked-k-end.ensures
    ∙ ap (λ (x : Credential). length (roles_asked c.args.table.now x)) (as_read _ _ _ c.credential.ensures) in
    let count = ap length c.loop-k.invariant ∙ roles-length _ _ _ _ _ in
    let room : length (listed c.loop-k.asked) < 4 = omega arith in
    (lit< tt, room)

pub loop-k-preserved : goal.loop-k-preserved
loop-k-preserved c =
    c.push.ensures ∙ rw c.loop-k.invariant (roles-next _ _ _ _ c.asked_cell-place.ensures.0)
