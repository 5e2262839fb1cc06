-- `families::Family::meets` meets its contract: some set is in both where some two words meet. Assumes nothing.
use Rattle.std.proofs.Common.{rules, ◌∙◌}
use borrow.Author.Tests.{tests}
use Rattle.std.proofs.lemmas.Iterator.{YieldsList-from_slice, YieldsList-from_zip}
use Rattle.std.proofs.lemmas.Iterator.Search.{any_from_yields_List}
use Rattle.sets.specs.Sets.{meets}
use Rattle.families.proofs.Pairs.{meets-pairs}
use Rattle.families.proofs.Family.meets.Goals as goal

pub returns : goal.returns
unfolding meets
returns c =
    any_from_yields_List (λ p. meets p.0 p.1) c.any.new.self _ _ c.any.ensures.ran
    (YieldsList-from_zip (YieldsList-from_slice {s = c.zip.result.a} c.args.self.words cc)
    (YieldsList-from_slice c.args.other.words cc))
    (λ x b q k. search (rules, tests))
    ∙ meets-pairs _ _ (search rules) (search rules) (λ j. search rules)
