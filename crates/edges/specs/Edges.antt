-- docs/DEFINITION.md, "Edges" and "Words": which roles an edge matches, and where it leads its automaton on.
use Rattle.std.specs.Prelude.{ℕ, Bool, true, false, not, eqb}
use Rattle.sets.specs.Logic.{◌and◌, pick}
use Rattle.sets.specs.Sets.{in_set}
use Rattle.table.specs.Layout.{same_role}
use Rattle.table.specs.declared.Role.{Role}
use Rattle.table.specs.declared.Edge.{Edge}

-- label 1 matches exactly that role, label 2 every role, label 3 every role but that one, label 4 every role of that owner
unfoldable pub matches : Edge → Role → Bool
matches e r =
    pick (eqb e.label 1) (same_role e.role r)
    (pick (eqb e.label 2) true
    (pick (eqb e.label 3) (not (same_role e.role r))
    (pick (eqb e.label 4) (eqb e.role.owner.0 r.owner.0) false)))

-- the edge leads automaton k on from the set x along the role
unfoldable pub leads : ℕ → Role → ℕ → Edge → Bool
leads k r x e = eqb e.automaton k and in_set x e.from and matches e r
