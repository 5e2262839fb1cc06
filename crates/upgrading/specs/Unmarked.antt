-- docs/DEFINITION.md, "Automata": what a table of the base layout meant while automata had no marks, and that upgraded it means
-- the same.
use Rattle.std.specs.Prelude.{ℕ, ◌≡◌, List, ◌↔◌}
use Rattle.table.specs.Outcome.{Outcome, ◌and_then◌}
use Rattle.table.specs.Limits.{most_principals}
use Rattle.table.specs.Layout.{automata, cell, cells, credential, credentials, edges}
use Rattle.table.specs.Checks.{query_outcome}
use Rattle.table.specs.Upgraded.{base_automaton, base_edge, base_outcome, upgraded}
use Rattle.table.specs.declared.Query.{Query}
use Rattle.verifier.specs.Verdict.{verdict}
use Rattle.listing.specs.Demands.{Minimal}
use Rattle.agreement.specs.Opened.{Opened, opened_by}
use Rattle.upgrading.specs.Verdicts.{FirstBy, MinimalBy, told_of}

-- its records: credentials and cells stand where they stand now, automata and edges by the base layout
abbrev pub opened_base : List ℕ → Opened
opened_base t = opened_by (credentials t) (credential t) (cells t) (cell t) (automata t) (base_automaton t) (edges t) (base_edge t)

-- the base layout's rows, then 8, then 11 to 14
unfoldable pub verdict_before : List ℕ → Query → List ℕ → Outcome
verdict_before t q rec = base_outcome t and_then query_outcome q and_then told_of most_principals (opened_base t) q rec

-- whatever the numbers are, a table that gets 0 at each automaton has the same verdicts, refusals included
abbrev pub SameVerdicts : Type 0
SameVerdicts = (t : List ℕ) (q : Query) (rec : List ℕ) → verdict (upgraded t) q rec ≡ verdict_before t q rec

-- the same minimal sets, so the same lists
abbrev pub SameMinimal : Type 0
SameMinimal = (t : List ℕ) (q : Query) (S : ℕ) → Minimal (upgraded t) q S ↔ MinimalBy (verdict_before t q) S

-- and the same first records, whatever the order
abbrev pub SameFirst : Type 1
SameFirst =
    (Before : List ℕ → List ℕ → Type 0) (t : List ℕ) (q : Query) (S : ℕ) (rec : List ℕ)
    → FirstBy Before (verdict (upgraded t) q) S rec ↔ FirstBy Before (verdict_before t q) S rec
