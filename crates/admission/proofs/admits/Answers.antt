-- `admission::admits` meets its contract: with nothing imposed and nothing owed all automata are to be decided.
use Rattle.admission.specs.Admits.{admits}
use Rattle.admission.proofs.admits.Goals as goal

pub returns : goal.returns
unfolding admits
returns c = rw c.automata.ensures.same at c.admits_under.ensures
