-- The goal is the nearest of those above.
use Rattle.std.proofs.Common.{arith}
use Rattle.std.proofs.lemmas.List.{length-reverse, reverse-append}
use Rattle.branches.specs.Held.{above}
use Rattle.few.specs.Listed.{listed}
use Rattle.branches.proofs.Branch.with.Goals as goal

pub with-requires : goal.with-requires
unfolding above
with-requires c = (omega arith, rw length-reverse at c.requires)

pub returns : goal.returns
unfolding above
returns c = rw (c.with.ensures, reverse-append (listed c.args.self.goals))
