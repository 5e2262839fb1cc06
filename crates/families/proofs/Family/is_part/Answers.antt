-- `families::Family::is_part` meets its contract: each word is a part of the other's word. Assumes nothing.
use Rattle.std.proofs.Common.{rules, ◌∙◌}
use borrow.Author.Tests.{tests}
use Rattle.std.proofs.lemmas.Iterator.{YieldsList-from_slice, YieldsList-from_zip}
use Rattle.std.proofs.lemmas.Iterator.Search.{all_from_yields_List}
use Rattle.sets.specs.Sets.{part}
use Rattle.families.proofs.Pairs.{part-pairs}
use Rattle.families.proofs.Family.is_part.Goals as goal

pub returns : goal.returns
unfolding part
returns c =
    all_from_yields_List (λ p. part p.0 p.1) c.all.new.self _ _ c.all.ensures.ran
    (YieldsList-from_zip (YieldsList-from_slice {s = c.zip.result.a} c.args.self.words cc)
    (YieldsList-from_slice c.args.other.words cc))
    (λ x b q k. search (rules, tests))
    ∙ part-pairs _ _ (search rules) (search rules) (λ j. search rules)
