-- Where no constraint is imposed and none owed members by levels are exact: what the table has is proved with nothing above (Exact.antt), hence
-- derived (Searching.antt), and what is derived is in the table (Deriving.antt).
use mathlib.Core.Path.{◌∙◌, sym}
use native.Mathlib.Omega.{arith}
use mathlib.Core.List.{[]}
use Rattle.sets.proofs.Tests.{and_first}
use Rattle.table.proofs.WellFormed.{well-formed}
use Rattle.automata.specs.Together.{starting_sets}
use Rattle.members.specs.Above.{nothing_above}
use Rattle.members.specs.Trying.{every_goal}
use Rattle.derivation.proofs.Running.{sets-after-none}
use Rattle.members.proofs.Branching.{on_none}
use Rattle.search.specs.Promised.{MembersExact}
use Rattle.search.proofs.Deriving.{derived-within}
use Rattle.search.proofs.Exact.{members-exact}
use Rattle.search.proofs.Searching.{proves-shown}

pub members-are-exact : MembersExact
unfolding every_goal
members-are-exact t S levels g table =
    let wf = well-formed t table in (
      (λ inside.
          let found = sym (members-exact t wf S levels (starting_sets t) g) ∙ inside in
          let shown =
          proves-shown t wf S 0 0 levels [] nothing_above (on_none t) [] (starting_sets t) (λ asked. sym (sets-after-none t)) g 0 (omega arith)
          found in
          (shown.forest, shown.derives, shown.uses_only)),
      (λ derived. and_first _ _ (derived-within wf S derived.1 derived.2)),
    )
