-- The list is turned round.
use Rattle.std.proofs.Common.{◌∙◌, sym}
use Rattle.std.proofs.lemmas.List.{length-reverse}
use Rattle.few.specs.Listed.{listed}
use Rattle.branches.specs.Held.{above}
use Rattle.branches.proofs.Branch.len.Goals as goal

pub returns : goal.returns
unfolding above
returns c = c.len.ensures ∙ sym (length-reverse (listed c.args.self.now.goals))
