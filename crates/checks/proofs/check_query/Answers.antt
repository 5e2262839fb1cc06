-- Row 8, field by field.
use Rattle.std.proofs.Common.{◌∙◌}
use Rattle.sets.proofs.Tests.{failed, passed}
use Rattle.table.proofs.Told.{tells-refusal, tells-value}
use Rattle.checks.proofs.Queries.{depth-refused, name-refused, owner-refused, principal-refused, query-valid}
use Rattle.checks.proofs.check_query.Goals as goal

pub returns-then-not-is_principal : goal.returns-then-not-is_principal
returns-then-not-is_principal c =
    tells-refusal _ _ ∙ c.bad_field.ensures ∙ principal-refused _ (failed c.is_principal.ensures c.if-not-is_principal.true)

pub returns-then-not-is_principal-2 : goal.returns-then-not-is_principal-2
returns-then-not-is_principal-2 c =
    tells-refusal _ _ ∙ c.bad_field-then-not-is_principal-2.ensures
    ∙ owner-refused _ (passed c.is_principal.ensures c.if-not-is_principal.false) (failed c.is_principal-2.ensures c.if-not-is_principal-2.true)

pub returns-then-not-is_name : goal.returns-then-not-is_name
returns-then-not-is_name c =
    let principal = passed c.is_principal.ensures c.if-not-is_principal.false in
    let owner = passed c.is_principal-2.ensures c.if-not-is_principal-2.false in
    tells-refusal _ _ ∙ c.bad_field-then-not-is_name.ensures
    ∙ name-refused _ principal owner (failed c.is_name.ensures c.if-not-is_name.true)

pub returns-then-not-within : goal.returns-then-not-within
returns-then-not-within c =
    let principal = passed c.is_principal.ensures c.if-not-is_principal.false in
    let owner = passed c.is_principal-2.ensures c.if-not-is_principal-2.false in
    let name = passed c.is_name.ensures c.if-not-is_name.false in
    tells-refusal _ _ ∙ c.bad_field-then-not-within.ensures
    ∙ depth-refused _ principal owner name (failed c.within.ensures c.if-not-within.true)

pub returns : goal.returns
returns c =
    let principal = passed c.is_principal.ensures c.if-not-is_principal.false in
    let owner = passed c.is_principal-2.ensures c.if-not-is_principal-2.false in
    let name = passed c.is_name.ensures c.if-not-is_name.false in
    tells-value _ _ ∙ query-valid _ principal owner name (passed c.within.ensures c.if-not-within.false)
