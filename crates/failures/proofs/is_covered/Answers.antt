-- `failures::is_covered` meets its contract: each blocking pair is part of what stands on the branch.
use Rattle.std.proofs.Common.{ℕ, ◌≡◌, ◌*◌, ◌+◌, get_or, length, bit_and, arith, rules, tests, ap, ◌∙◌, slice_range}
use borrow.Author.Tests.{eq-eqb}
use Rattle.std.proofs.lemmas.Iterator.{cases_from_all, YieldsList-from_slice, YieldsList-from_zip}
use Rattle.std.proofs.lemmas.List.{get_or-drop, get_or-take}
use Rattle.sets.specs.Sets.{part}
use Rattle.failures.specs.Failures.{blocking_cell}
use Rattle.failures.proofs.Pairs.{side-by-side}
use Rattle.failures.proofs.is_covered.Goals as goal

pub returns : goal.returns
unfolding part
returns c =
    let memory = c.args.memory.now in
    let cells = slice_range memory (40 * c.args.k + 12) (length memory) in
    let persons = c.args.above.persons in
    let cases = cases_from_all c.all.new.self _ _ (λ p. bit_and p.0 p.1 ≡ p.0) (λ _. Unit {0}) c.all.ensures.ran
    (YieldsList-from_zip (YieldsList-from_slice cells cc) (YieldsList-from_slice persons cc))
    (λ x q k. search (rules, tests)) (λ x q k. tt) in
    λ told r l.
    let here = side-by-side (λ x y. bit_and x y ≡ x) _ _ cells persons cases told r (omega arith) (omega arith) in
    let same : get_or cells r 0 ≡ get_or memory (blocking_cell c.args.k r) 0 =
    get_or-take _ _ r 0 (omega arith) ∙ get_or-drop _ memory r 0 ∙ ap (λ (x : ℕ). get_or memory x 0) (omega arith) in
    eq-eqb _ _ (rw same at here)
