-- What each label matches.
use mathlib.Core.Path.{◌≡◌}
use mathlib.Core.Bool.{true, false, not}
use lib.Dec.{eqb}
use borrow.Author.Tests.{ne_eqb}
use Rattle.sets.specs.Logic.{pick}
use Rattle.table.specs.Layout.{same_role}
use Rattle.table.specs.declared.Role.{Role}
use Rattle.table.specs.declared.Edge.{Edge}
use Rattle.edges.specs.Edges.{matches}

module _ (e : Edge) (r : Role) where
  pub label-1 : e.label ≡ 1 → matches e r ≡ same_role e.role r
  unfolding matches pick
  label-1 h = rw h

  pub label-2 : e.label ≡ 2 → matches e r ≡ true
  unfolding matches pick
  label-2 h = rw h

  pub label-3 : e.label ≡ 3 → matches e r ≡ not (same_role e.role r)
  unfolding matches pick
  label-3 h = rw h

  pub label-4 : e.label ≡ 4 → matches e r ≡ eqb e.role.owner.0 r.owner.0
  unfolding matches pick
  label-4 h = rw h

  pub label-none : (e.label ≡ 1 → ⊥) → (e.label ≡ 2 → ⊥) → (e.label ≡ 3 → ⊥) → (e.label ≡ 4 → ⊥) → matches e r ≡ false
  unfolding matches pick
  label-none h1 h2 h3 h4 =
      rw (ne_eqb e.label 1 h1, ne_eqb e.label 2 h2, ne_eqb e.label 3 h3, ne_eqb e.label 4 h4)
