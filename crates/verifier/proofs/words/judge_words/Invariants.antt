-- The first i automata are kept.
use Rattle.std.proofs.Common.{◌≡◌}
use Rattle.table.specs.Outcome.{demand_each}
use Rattle.table.specs.Outcome.Outcome.{accepted}
use Rattle.verifier.specs.Kept.{keeps}
use Rattle.verifier.proofs.words.judge_words.Given as goal

abbrev pub invariant-loop-i : goal.invariant-loop-i
invariant-loop-i l = demand_each (keeps l.table l.used l.every l.some) l.i 14 ≡ accepted 0
