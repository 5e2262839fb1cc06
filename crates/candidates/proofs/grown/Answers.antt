-- `candidates::grown` meets its contract: each step takes the set on by one credential, where it is still not admitted.
use Rattle.candidates.proofs.Growing.{grown-on, grown-same}
use Rattle.candidates.proofs.grown.Goals as goal

pub loop-i-init : goal.loop-i-init
loop-i-init c = grown-same c.requires.chosen_bound c.requires.chosen_value

pub loop-i-preserved : goal.loop-i-preserved
loop-i-preserved c = grown-on c.loop-i.invariant c.grown_by-set.ensures
