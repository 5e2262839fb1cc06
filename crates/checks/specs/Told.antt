-- What the answers of the checks tell: accepted, or the definition's number and position.
use Rattle.std.specs.Prelude.{Result}
use Rattle.table.specs.Outcome.{Outcome}
use Rattle.table.specs.Checks.{outcome_of}
use Rattle.table.specs.declared.Refusal.{Refusal}

abbrev pub table_told : Result (Unit {0}) Refusal → Outcome
table_told result = outcome_of (λ _. 0) result

abbrev pub query_told : Result (Unit {0}) Refusal → Outcome
query_told result = outcome_of (λ _. 0) result
