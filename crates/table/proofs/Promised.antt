-- Row 7 refuses exactly the first edge that is not allowed: the test of an edge and what its label allows are the same.
use mathlib.Core.Path.{◌≡◌, refl, sym, ◌∙◌}
use mathlib.Core.List.{List}
use mathlib.Core.Bool.{true}
use mathlib.Core.Logic.{◌↔◌, ⊎_elim}
use Prim.Native.Nat.{ℕ, ◌<◌}
use native.Mathlib.Omega.{arith}
use native.Mathlib.Decide.{ℕ_discrete}
use borrow.Author.Tests.{eq-eqb, eqb-true, le-leb, leb-true}
use Rattle.sets.proofs.Tests.{and_both, and_parts, false-true, refuted}
use Rattle.table.specs.Outcome.{Outcome, ◌and_then◌, demand_each}
use Rattle.table.specs.Outcome.Outcome.{accepted, refused}
use Rattle.table.specs.Limits.{last_state, most_names, most_principals}
use Rattle.table.specs.Layout.{Numbered, automata, cells, credentials, edges}
use Rattle.table.specs.Checks.{edge_ok, edge_to, good_cell, good_chain, good_credential, good_edge, good_edge_to, good_mark}
use Rattle.table.specs.Checks.{head_outcome, is_name_to}
use Rattle.table.specs.Checks.{is_principal, is_principal_to, is_role, is_role_to, label_ok, table_outcome_to, within}
use Rattle.table.specs.Promised.{AllowedEdge, Allows, FirstNotAllowed, RefusesEdge}
use Rattle.table.specs.Promised.Allows.{every_of_owner, every_other, every_role, that_role}
use Rattle.table.specs.declared.Edge.{Edge}
use Rattle.table.specs.declared.Role.{Role}
use Rattle.table.proofs.Fields.{within-range}
use Rattle.table.proofs.Meanings.{label-1, label-2, label-3, label-4, label-none}
use Rattle.table.proofs.Stages.{FirstFailure, each_first, each-refused, refused-then, then-refused}
use Rattle.table.proofs.Stopping.{Stage, stage-demand, stage-each, stage_then}

range-within : {n x : ℕ} → Numbered n x → within 1 n x ≡ true
unfolding within
range-within h = and_both (le-leb _ _ h.first) (le-leb _ _ h.last)

-- a role is an owner and a name, each of which is numbered
role-shows : (r : Role) → is_role r ≡ true → Numbered most_principals r.owner.0 × Numbered most_names r.name.0
unfolding is_role_to is_principal_to is_name_to
role-shows r ok = and_parts (within-range most_principals _) (within-range most_names _) ok

role-is : (r : Role) → Numbered most_principals r.owner.0 → Numbered most_names r.name.0 → is_role r ≡ true
unfolding is_role_to is_principal_to is_name_to
role-is r owner name = and_both (range-within owner) (range-within name)

owner_shows : (r : Role) → is_principal r.owner ≡ true → Numbered most_principals r.owner.0
unfolding is_principal_to
owner_shows r ok = within-range most_principals _ ok

owner-is : (r : Role) → Numbered most_principals r.owner.0 → is_principal r.owner ≡ true
unfolding is_principal_to
owner-is r owner = range-within owner

-- the test of owner and name by label, both ways
label-shows : (label : ℕ) (r : Role) → label_ok label r ≡ true → Allows r.owner.0 r.name.0 label
label-shows label r ok = go (ℕ_discrete label 1) (ℕ_discrete label 2) (ℕ_discrete label 3) (ℕ_discrete label 4)
  where
    go : Dec (label ≡ 1) → Dec (label ≡ 2) → Dec (label ≡ 3) → Dec (label ≡ 4) → Allows r.owner.0 r.name.0 label
    go (yes one) b c d =
        let (owner, name) = role-shows r (sym (label-1 label r one) ∙ ok) in
        rw one (that_role owner name)
    go (no n1) (yes two) c d =
        let (owner, name) = and_parts (eqb-true _ 0) (eqb-true _ 0) (sym (label-2 label r two) ∙ ok) in
        rw two (every_role owner name)
    go (no n1) (no n2) (yes three) d =
        let (owner, name) = role-shows r (sym (label-3 label r three) ∙ ok) in
        rw three (every_other owner name)
    go (no n1) (no n2) (no n3) (yes four) =
        let (owner, name) = and_parts (owner_shows r) (eqb-true _ 0) (sym (label-4 label r four) ∙ ok) in
        rw four (every_of_owner owner name)
    go (no n1) (no n2) (no n3) (no n4) = absurd (false-true (sym (label-none label r n1 n2 n3 n4) ∙ ok))

label_is : (r : Role) {label : ℕ} → Allows r.owner.0 r.name.0 label → label_ok label r ≡ true
label_is r (that_role owner name) = label-1 1 r refl ∙ role-is r owner name
label_is r (every_role owner name) = label-2 2 r refl ∙ and_both (eq-eqb _ 0 owner) (eq-eqb _ 0 name)
label_is r (every_other owner name) = label-3 3 r refl ∙ role-is r owner name
label_is r (every_of_owner owner name) = label-4 4 r refl ∙ and_both (owner-is r owner) (eq-eqb _ 0 name)

-- the test of an edge, both ways
edge-shows : (a : ℕ) (e : Edge) → edge_ok a e ≡ true → AllowedEdge a e
unfolding edge_to
edge-shows a e ok =
    let states = and_parts (leb-true _ last_state) (and_parts (leb-true _ last_state) (label-shows e.label e.role)) in
    let (automaton, (from, (to, label))) = and_parts (within-range a _) states ok in
    record { automaton = automaton; from = from; to = to; label = label }

edge-is : (a : ℕ) (e : Edge) → AllowedEdge a e → edge_ok a e ≡ true
unfolding edge_to
edge-is a e allowed =
    and_both (range-within allowed.automaton)
    (and_both (le-leb _ _ allowed.from) (and_both (le-leb _ _ allowed.to) (label_is e.role allowed.label)))

-- the first edge that fails its test is the first that is not allowed
module _ (t : List ℕ) (i : ℕ) where
  failure-shows : FirstFailure (good_edge t) (edges t) i → FirstNotAllowed t i
  unfolding good_edge_to
  failure-shows f =
      record {
        numbered = f.within;
        not-allowed = λ allowed. false-true (sym f.fails ∙ edge-is _ _ allowed);
        before = λ j h less. edge-shows _ _ (f.before j h less);
      }

  failure-is : FirstNotAllowed t i → FirstFailure (good_edge t) (edges t) i
  unfolding good_edge_to
  failure-is f =
      record {
        within = f.numbered;
        fails = refuted _ (λ ok. f.not-allowed (edge-shows _ _ ok));
        before = λ j h less. edge-is _ _ (f.before j h less);
      }

-- no refusal with a smaller number
abbrev Past : Outcome → Type 0
Past o = (number position : ℕ) → o ≡ refused number position → number < 7 → ⊥

-- a stage of smaller rows comes first: 7 is reported after it, where it passes
after-stage : {A : Type 0} {a later : Outcome} {i : ℕ} → Stage (λ number. number < 7) a
    → ((later ≡ refused 7 i) ↔ (Past later × A)) → ((a and_then later) ≡ refused 7 i) ↔ (Past (a and_then later) × A)
unfolding ◌and_then◌
after-stage {a = accepted v} s same = same
after-stage {a = refused number position} s same = (
  (λ e. let seven : number ≡ 7 = cc in absurd (omega (arith, s.row number position refl))),
  (λ (past, rest). absurd (past number position refl (s.row number position refl))),
)

-- row 7, with what follows it
module _ (t : List ℕ) (i : ℕ) where
  at_row : ((demand_each (good_edge t) (edges t) 7 and_then demand_each (good_mark t) (automata t) 17) ≡ refused 7 i)
      ↔ (Past (demand_each (good_edge t) (edges t) 7 and_then demand_each (good_mark t) (automata t) 17) × FirstNotAllowed t i)
  at_row = (
    (λ e. (
      (λ number position l small. let seven : number ≡ 7 = cc in omega arith),
      ⊎_elim (λ row. failure-shows t i (each-refused (good_edge t) 7 (edges t) 7 i row).1)
          (λ (w, passed, later). absurd (omega (arith, (each-refused (good_mark t) 17 (automata t) 7 i later).0)))
          (then-refused (demand_each (good_edge t) (edges t) 7) _ 7 i e),
    )),
    (λ (past, f). sym (refused-then _ (sym (each_first (good_edge t) 7 (edges t) i (failure-is t i f))))),
  )

pub refuses-edge : RefusesEdge
unfolding table_outcome_to head_outcome
refuses-edge t i =
    after-stage
    (stage_then (stage-demand _ 1 0 (omega arith)) (stage_then (stage-demand _ 2 0 (omega arith)) (stage-demand _ 3 0 (omega arith))))
    (after-stage (stage-each (good_credential t) (credentials t) 4 (omega arith))
    (after-stage (stage-each (good_cell t) (cells t) 5 (omega arith))
    (after-stage (stage-each (good_chain t) (credentials t) 6 (omega arith)) (at_row t i))))
