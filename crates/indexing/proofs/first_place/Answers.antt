-- `indexing::first_place` meets its contract: the test passes the credential that is found, and none before it.
use Rattle.std.proofs.Common.{rules, tests, arith, add-one, true, false}
use Rattle.std.proofs.lemmas.Iterator.{first_from_Range}
use Rattle.indexing.proofs.Indexing.{Answered, first-place, not-behind}
use Rattle.indexing.proofs.first_place.Goals as goal

pub overflow_cast-result : goal.overflow_cast-result
overflow_cast-result g c =
    let inside =
    not-behind c.credentials-n.result c.find.result _ (λ _. Unit {0}) _
    (first_from_Range _ _ _ _ (λ _. Unit {0}) (λ _. Unit {0}) c.find.ensures.ran (λ x q k. tt)
    (λ x q k. (search rules, tt))) in
    record { fits = omega (arith, c.unwrap_or.ensures, inside, c.credentials-n.ensures.few) }

pub returns : goal.returns
returns g c =
    let answers = λ (x : _) (b : _). goal.F-post g c.args.test x b in
    let t = c.args.table.now in
    rw c.unwrap_or.ensures
    (first-place answers t c.credentials-n.result c.find.result c.credentials-n.ensures.same c.credentials-n.ensures.few
    (first_from_Range _ _ _ _ (Answered answers t true) (Answered answers t false) c.find.ensures.ran
    (λ x q k. let e = add-one x in search (rules, tests))
    (λ x q k. let e = add-one x in search (rules, tests))))
