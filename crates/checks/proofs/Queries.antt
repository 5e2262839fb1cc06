-- Row 8, field by field: what the check of a query tells once the tests of its fields are known.
use mathlib.Core.Path.{◌≡◌}
use mathlib.Core.Bool.{true, false}
use Rattle.table.specs.Limits.{most_depth}
use Rattle.table.specs.Outcome.{◌and_then◌, demand}
use Rattle.table.specs.Outcome.Outcome.{accepted, refused}
use Rattle.table.specs.Checks.{is_name, is_principal, query_outcome, query_outcome_to, within}
use Rattle.table.specs.declared.Query.{Query}

module _ (q : Query) where
  pub principal-refused : is_principal q.principal ≡ false → refused 8 1 ≡ query_outcome q
  unfolding query_outcome_to demand ◌and_then◌
  principal-refused bad = rw bad

  module _ (principal : is_principal q.principal ≡ true) where
    pub owner-refused : is_principal q.owner ≡ false → refused 8 2 ≡ query_outcome q
    unfolding query_outcome_to demand ◌and_then◌
    owner-refused bad = rw (principal, bad)

    module _ (owner : is_principal q.owner ≡ true) where
      pub name-refused : is_name q.name ≡ false → refused 8 3 ≡ query_outcome q
      unfolding query_outcome_to demand ◌and_then◌
      name-refused bad = rw (principal, owner, bad)

      module _ (name : is_name q.name ≡ true) where
        pub depth-refused : within 1 most_depth q.depth ≡ false → refused 8 4 ≡ query_outcome q
        unfolding query_outcome_to demand ◌and_then◌
        depth-refused bad = rw (principal, owner, name, bad)

        pub query-valid : within 1 most_depth q.depth ≡ true → accepted 0 ≡ query_outcome q
        unfolding query_outcome_to demand ◌and_then◌
        query-valid depth = rw (principal, owner, name, depth)
