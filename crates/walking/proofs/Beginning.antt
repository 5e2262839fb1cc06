-- The walk begins at the query's goal, which can meet all that is owed: principal and role stand at the places that the index
-- has for them, and a family that has this one set says what is wanted.
use mathlib.Core.Path.{◌≡◌, refl, sym, ap, ap₂, ◌∙◌}
use mathlib.Core.List.{List, [], ◌∷◌}
use mathlib.Core.Bool.{true}
use Prim.Native.Nat.{ℕ, ◌<◌, ◌≤◌}
use native.Mathlib.Omega.{arith}
use native.Mathlib.Decide.{dec_lt}
use lib.ListN.{get_or}
use lib.Dec.{eqb}
use borrow.Author.Tests.{eq-eqb, ltb-true}
use Rattle.sets.proofs.Tests.{and_first, and_second, false-true}
use Rattle.families.specs.Families.{FamilyOf, all_sets, in_family}
use Rattle.families.specs.declared.Family.{Family}
use Rattle.table.specs.Layout.{credentials, principal}
use Rattle.table.specs.declared.Query.{Query}
use Rattle.automata.specs.Together.{starting_sets}
use Rattle.automata.specs.declared.StateSets.{StateSets}
use Rattle.derivation.specs.Rules.{goal, goal_of}
use Rattle.derivation.specs.Forest.{written}
use Rattle.members.specs.Above.{nothing_above}
use Rattle.members.specs.Members.{Members, goal_person, goal_role}
use Rattle.members.proofs.Places.{person-stands, role-stands}
use Rattle.search.specs.Search.{Prepared, Stands, goal_at, provable, proves, proves_at}
use Rattle.search.proofs.Placing.{unnamed-unproved}
use Rattle.search.proofs.Starting.{goal-found, goal-stands}
use Rattle.choice.specs.Choice.{suits}
use Rattle.walking.specs.First.{first_forest}
use Rattle.walking.specs.Walked.{Walked}
use Rattle.walking.proofs.Wanting.{Wanted, suits-alone, wanted-all}
use Rattle.walking.proofs.Alike.{first_alike, wanted-alike}

module _ {t : List ℕ} {q : Query} {index arcs rows : List ℕ} {S last : ℕ} (prepared : Prepared t q index arcs)
    (members : Members t S q.depth last rows) (A O : ℕ) (few : O < all_sets) (proved : provable t q S A O ≡ true)
    {person place : ℕ}
    (who : person ≡ get_or index goal_person 0) (role-at : place ≡ get_or index goal_role 0) where
  named : person < credentials t
  unfolding provable
  named = go (dec_lt person (credentials t))
    where
      go : Dec (person < credentials t) → person < credentials t
      go (yes l) = l
      go (no beyond) =
          let out : credentials t ≤ person = omega arith in
          let unnamed = rw (who ∙ prepared.aimed.goals_person) at out in
          absurd (false-true (sym (unnamed-unproved t S A O members nothing_above (starting_sets t) (goal_of q) O unnamed) ∙ proved))

  pub begins-stands : Stands t person place
  begins-stands = goal-stands prepared who named role-at

  found : proves_at t S A O q.depth nothing_above (starting_sets t) person place O ≡ true
  unfolding provable
  found = goal-found prepared who named role-at S A O O q.depth (starting_sets t) refl refl ∙ proved

  pub begins-there : place < credentials t
  unfolding proves_at
  begins-there = ltb-true place (credentials t) (and_first _ _ found)

  begins-goal : goal_at t person place ≡ goal_of q
  begins-goal =
      let at-person = who ∙ prepared.aimed.goals_person in
      let at-role = role-at ∙ prepared.aimed.goals_role in
      ap₂ goal
      (rw at-person (ap principal (person-stands t q.principal.0 (rw at-person at named)).1))
      (rw at-role (role-stands t (goal_of q).role (rw at-role at begins-there)))

  -- all that is owed is wanted, as the code has it
  module _ (wanted : Family) (only : FamilyOf (eqb O) wanted) where
    pub begins-wanted : Wanted O (in_family wanted)
    begins-wanted = wanted-alike O few (eqb O) (in_family wanted) (λ X l. sym (only X l)) (wanted-all O few)

    module _ (depth : ℕ) (s : StateSets) (levels : depth ≡ q.depth) (starts : s ≡ starting_sets t) where
      pub begins-suits : suits (proves t S A O depth nothing_above s) O (in_family wanted) (goal_at t person place ∷ []) ≡ true
      unfolding proves_at
      begins-suits =
          rw (levels, starts)
          (suits-alone begins-wanted (proves t S A O q.depth nothing_above (starting_sets t)) (goal_at t person place) O
          (omega arith)
          (only O few ∙ eq-eqb O O refl) (and_second _ _ found))

      pub begins-walked : (most : ℕ) (before after : List ℕ) (next : ℕ)
          → Walked 0 most (written (first_forest t S A O depth nothing_above s (in_family wanted) (goal_at t person place ∷ [])))
          before after next
          → Walked 0 most (written (first_forest t S A O q.depth nothing_above (starting_sets t) (eqb O) (goal_of q ∷ [])))
          before after next
      begins-walked most before after next walked =
          rw (
            levels,
            starts,
            begins-goal,
            first_alike t S A O few q.depth nothing_above (starting_sets t) (in_family wanted)
                (eqb O) only,
          )
          at walked
