-- The closure tells of a role whether it stands at the place of role k.
use Rattle.std.proofs.Common.{ℕ, Bool, eqb, get_or, refl, arith, rules, tests}
use Rattle.std.proofs.lemmas.Iterator.{YieldsList-from_range}
use Rattle.std.proofs.lemmas.Iterator.Search.{any_from_yields_List}
use Rattle.members.specs.Members.{asked_cell}
use Rattle.goals.specs.Goals.{asked_before}
use Rattle.goals.proofs.Testing.{any-ranged}
use Rattle.goals.proofs.is_asked_before.Goals as goal

pub returns : goal.returns
unfolding asked_before
returns c =
    let index = c.args.index.now in
    let test : ℕ → Bool = λ j. eqb (get_or index (asked_cell c.args.i j) 0) c.asked_cell-place.result in
    rw c.asked_cell-place.ensures.0 at
    (any-ranged test c.args.k c.any.result (any_from_yields_List test _ _ c.any.result c.any.ensures.ran
    (YieldsList-from_range 0 c.args.k c.args.k refl (omega arith)) (λ x b q told. search (rules, tests))))
