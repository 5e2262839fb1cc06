-- `candidates::has_listed` meets its contract: each of the sets found is asked, as far as the buffer has them.
use Rattle.std.proofs.Common.{rules, ◌∙◌}
use borrow.Author.Tests.{tests}
use Rattle.std.proofs.lemmas.Iterator.{YieldsList-from_slice, YieldsList-from_take}
use Rattle.std.proofs.lemmas.Iterator.Search.{any_from_yields_List}
use Rattle.sets.specs.Sets.{part}
use Rattle.candidates.proofs.Growing.{listed-taken}
use Rattle.candidates.proofs.has_listed.Goals as goal

pub returns : goal.returns
unfolding part
returns c =
    any_from_yields_List (λ s. part s c.args.set) _ _ _ c.any.ensures.ran
    (YieldsList-from_take c.args.found (YieldsList-from_slice c.args.sets.now cc) cc) (λ x b q k. search (rules, tests))
    ∙ listed-taken c.args.sets.now c.args.found c.args.set
