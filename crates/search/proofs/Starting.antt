-- The search begins at the query's goal, by the places of its principal and role.
use mathlib.Core.Path.{◌≡◌, refl, sym, ap, ◌∙◌}
use mathlib.Core.List.{List}
use mathlib.Core.Bool.{Bool, true, false}
use Prim.Native.Nat.{ℕ, ◌<◌, ◌≤◌}
use native.Mathlib.Omega.{arith}
use lib.ListN.{get_or}
use borrow.Author.Tests.{lt-ltb}
use Rattle.sets.proofs.Tests.{and_both, and_second, same_test}
use Rattle.families.specs.Families.{FamilyOf, covers}
use Rattle.families.specs.declared.Family.{Family}
use Rattle.families.proofs.Covering.{covers-nothing, covers-shows}
use Rattle.table.specs.Layout.{credentials, principal}
use Rattle.table.specs.Holding.{WellFormed}
use Rattle.table.specs.Checks.{Valid}
use Rattle.table.specs.declared.Query.{Query}
use Rattle.moves.specs.Arcs.{Arcs}
use Rattle.automata.specs.Together.{starting_sets}
use Rattle.automata.specs.declared.StateSets.{StateSets}
use Rattle.derivation.specs.Rules.{goal, goal_of}
use Rattle.derivation.proofs.Depths.{depth-fits}
use Rattle.members.specs.Places.{person_at, role_at}
use Rattle.members.specs.Above.{nothing_above}
use Rattle.members.specs.Members.{Aimed, Indexed, Members, goal_person, goal_role, listed}
use Rattle.members.proofs.Places.{person-is, person-stands}
use Rattle.goals.specs.Goals.{may_be_proved}
use Rattle.search.specs.Search.{Prepared, Searchable, Stands, TellsMet, proves, provable, proves_at}
use Rattle.search.specs.Failing.{FoundBelow, goal_test}
use Rattle.search.proofs.Below.{goal-unlisted}
use Rattle.search.proofs.Owing.{proves-less}
use Rattle.search.proofs.Exact.{members-exact}
use Rattle.search.proofs.Searching.{provable-part}
use Rattle.search.proofs.Placing.{proves-at, stands_at, unnamed-unproved}

-- with the indexes of an accepted table and a valid query a search may be asked
pub prepared-by : {t : List ℕ} {q : Query} {index arcs : List ℕ} → WellFormed t × Valid q → Indexed t index × Aimed t q index
    → Arcs t arcs → Prepared t q index arcs
prepared-by (wf, valid) (indexed, aimed) moving =
    record { well_formed = wf; valid = valid; indexed = indexed; aimed = aimed; moving = moving }

-- the search may be asked with the members within the query's depth
pub goal-searched : {t : List ℕ} {q : Query} {index arcs : List ℕ} → Prepared t q index arcs → {S depth last : ℕ} {rows : List ℕ}
    → depth ≡ q.depth → Members t S q.depth last rows → Searchable t index arcs rows S depth last
goal-searched {q = q} prepared levels members =
    record {
      well_formed = prepared.well_formed;
      indexed = prepared.indexed;
      members = rw levels members;
      shallow = omega (arith, depth-fits q prepared.valid, levels);
      moving = prepared.moving;
    }

module _ {t : List ℕ} {q : Query} {index arcs : List ℕ} (prepared : Prepared t q index arcs) {person : ℕ}
    (who : person ≡ get_or index goal_person 0) where
  at-person : person ≡ person_at t q.principal.0
  at-person = who ∙ prepared.aimed.goals_person

  -- nobody names the principal
  pub goal-unnamed : (S A O : ℕ) {last : ℕ} {rows : List ℕ} → Members t S q.depth last rows → credentials t ≤ person
      → false ≡ provable t q S A O
  unfolding provable
  goal-unnamed S A O members beyond =
      sym (unnamed-unproved t S A O members nothing_above (starting_sets t) (goal_of q) O (rw (← at-person) beyond))

  module _ (there : person < credentials t) {place : ℕ} (role-at : place ≡ get_or index goal_role 0) where
    at_place : place ≡ role_at t (goal_of q).role
    at_place = role-at ∙ prepared.aimed.goals_role

    inside : person_at t q.principal.0 < credentials t
    inside = rw (← at-person) there

    pub goal-stands : Stands t person place
    goal-stands =
        rw (at-person, at_place)
        (stands_at t (person_at t q.principal.0) (goal_of q).role inside (person-is t q.principal.0 inside))

    pub goal-found : (S A O X depth : ℕ) (s : StateSets) → depth ≡ q.depth → s ≡ starting_sets t
        → proves_at t S A O depth nothing_above s person place X
        ≡ proves t S A O q.depth nothing_above (starting_sets t) (goal_of q) X
    goal-found S A O X depth s levels starts =
        let named = ap principal (person-stands t q.principal.0 inside).1 in
        rw (at-person, at_place, levels, starts)
        (proves-at t S A O q.depth nothing_above (starting_sets t) (person_at t q.principal.0) (goal_of q).role X
        ∙ ap (λ p. proves t S A O q.depth nothing_above (starting_sets t) (goal p (goal_of q).role) X) named)

    -- what is found of the goal
    pub goal-told : (S A O depth : ℕ) → depth ≡ q.depth
        → {found : Family} → FoundBelow O (goal_test t S A O depth (starting_sets t) person place) nothing_above found
        → TellsMet t q S A O found
    goal-told S A O depth levels {found} told X among =
        same_test (covers found X) (provable t q S A X)
        (λ is.
        let (Y, few, own, more) = covers-shows found X is in
        met.0 (proves-less t S A O q.depth nothing_above (starting_sets t) (goal_of q) Y X more
        (sym (at Y) ∙ told.finds.passes Y few own)))
        (λ h. told.all X among (at X ∙ met.1 h))
      where
        at : (X : ℕ) → proves_at t S A O depth nothing_above (starting_sets t) person place X
            ≡ proves t S A O q.depth nothing_above (starting_sets t) (goal_of q) X
        at X = goal-found S A O X depth (starting_sets t) levels refl

        met : (proves t S A O q.depth nothing_above (starting_sets t) (goal_of q) X ≡ true → provable t q S A X ≡ true)
            × (provable t q S A X ≡ true → proves t S A O q.depth nothing_above (starting_sets t) (goal_of q) X ≡ true)
        met =
            let same = provable-part t prepared.well_formed q S A O X among in
            ((λ h. sym same ∙ h), (λ h. same ∙ h))

    -- the row of the depth tells who is none, and where no automaton is asked for, who is one
    module _ (S depth : ℕ) {last : ℕ} {rows : List ℕ} (levels : depth ≡ q.depth) (members : Members t S q.depth last rows)
        {told : Bool} (e : told ≡ may_be_proved t rows last person place depth) where
      pub goal-missing : (A O : ℕ) → told ≡ false → false ≡ provable t q S A O
      unfolding provable
      goal-missing A O off =
          let searched = goal-searched prepared levels members in
          sym (goal-unlisted t S A O depth (starting_sets t) person place goal-stands searched (sym e ∙ off) O nothing_above)
          ∙ goal-found S A O O depth (starting_sets t) levels refl

      pub goal-listed : told ≡ provable t q S 0 0
      unfolding provable listed may_be_proved
      goal-listed = go told refl
        where
          go : (b : Bool) → told ≡ b → b ≡ provable t q S 0 0
          go false off = goal-missing 0 0 off
          go true on =
              let g = goal_of q in
              let row = rw (levels, at-person, at_place) at (and_second _ _ (and_second _ _ (sym e ∙ on))) in
              sym (members.only q.depth (omega arith) g (and_both (lt-ltb _ _ inside) row))
              ∙ members-exact t prepared.well_formed S q.depth (starting_sets t) g

-- where nothing can be proved nothing can be met
pub tells-nothing : (t : List ℕ) (q : Query) (S A O : ℕ) (found : Family) → FamilyOf (λ X. false) found
    → ((X : ℕ) → false ≡ provable t q S A X) → TellsMet t q S A O found
tells-nothing t q S A O found none unproved X among = covers-nothing found none X ∙ unproved X
