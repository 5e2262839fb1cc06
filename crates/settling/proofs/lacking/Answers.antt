-- `settling::lacking` meets its contract: each of the first k automata is asked. Assumes nothing.
use Rattle.std.proofs.Common.{rules}
use Rattle.settling.specs.Settling.{is_lacking, lacking_of}
use Rattle.settling.proofs.lacking.Goals as goal

pub returns : goal.returns
unfolding lacking_of
returns c = c.those.ensures (is_lacking c.args.found c.args.owed c.args.asked) (λ j less told is. search rules)
