-- What is wanted: the answer to a search has a set of the wanted family exactly where what was asked can be proved such that a
-- set that is wanted is met. What goals meet together, and what a credential proves.
use mathlib.Core.Path.{◌≡◌, refl, sym, ◌∙◌}
use mathlib.Core.List.{List, [], ◌∷◌}
use mathlib.Core.Bool.{Bool, true, false}
use mathlib.Core.Option.{Option, none, some}
use Prim.Native.Nat.{ℕ, suc}
use native.Mathlib.Omega.{arith}
use lib.ListN.{length}
use lib.Bits.{or_self}
use lib.Dec.{eqb}
use borrow.Author.Tests.{eq-eqb}
use Rattle.sets.specs.Logic.{◌and◌, any_below, pick}
use Rattle.sets.specs.Sets.{part}
use Rattle.sets.proofs.Tests.{and_both, and_first, and_second, any-reached, any-shows, false-true, refuted, same_test}
use Rattle.sets.proofs.Members.{part-le, part-or-left}
use Rattle.families.specs.Families.{FamilyOf, all_sets, in_family, joins}
use Rattle.families.specs.declared.Family.{Family}
use Rattle.families.proofs.Covering.{covers-shows}
use Rattle.table.specs.Layout.{credential, credentials}
use Rattle.table.specs.declared.Goal.{Goal}
use Rattle.automata.specs.declared.StateSets.{StateSets}
use Rattle.derivation.specs.Rules.{premises}
use Rattle.members.specs.Places.{is_person}
use Rattle.members.specs.Above.{nothing_above}
use Rattle.members.specs.Trying.{proved_premises, proves_by}
use Rattle.members.specs.declared.above.Above.{Above}
use Rattle.members.proofs.Stepping.{all-by-mono}
use Rattle.members.proofs.Branching.{nothing-room}
use Rattle.search.specs.Failing.{Judged, FoundBelow, own_test}
use Rattle.search.specs.declared.asking.Pair.{Pair}
use Rattle.search.specs.Search.{ends, goal_at, proves, proves_at, shares}
use Rattle.search.proofs.Owing.{proves-less}
use Rattle.search.proofs.Sharing.{shares-alone, shares-reached}
use Rattle.search.proofs.Failing.{covers-none}
use Rattle.search.proofs.Judging.{judged-joined, judged-told}
use Rattle.choice.specs.Choice.{Wanted, ends_well, suits}

-- some set that is wanted is found exactly where the test passes some set that is wanted
pub meets-wanted : {O : ℕ} {wanted : Family} → Wanted O wanted → {test : ℕ → Above → Bool} {above : Above} {found : Family}
    → FoundBelow O test above found → {r : Bool} → r ≡ any_below (λ X. in_family found X and in_family wanted X) all_sets
    → r ≡ any_below (λ X. in_family wanted X and test X above) (suc O)
meets-wanted {O} {wanted} want {test} {above} {found} told e = e ∙ same_test _ _ on back
  where
    on : any_below (λ X. in_family found X and in_family wanted X) all_sets ≡ true
        → any_below (λ X. in_family wanted X and test X above) (suc O) ≡ true
    on h =
        let (X, l, both) = any-shows (λ X. in_family found X and in_family wanted X) all_sets h in
        let own = and_first _ _ both in
        any-reached _ (suc O) X (omega (arith, part-le X O (told.finds.inside X l own)))
        (and_both (and_second _ _ both) (told.finds.passes X l own))

    back : any_below (λ X. in_family wanted X and test X above) (suc O) ≡ true
        → any_below (λ X. in_family found X and in_family wanted X) all_sets ≡ true
    back h =
        let (X, l, both) = any-shows (λ X. in_family wanted X and test X above) (suc O) h in
        let this = and_first _ _ both in
        let owed = want.inside X (omega (arith, want.few)) this in
        let (Y, few, own, more) = covers-shows found X (told.all X owed (and_second _ _ both)) in
        any-reached _ all_sets Y few (and_both own (want.upward X Y more (told.finds.inside Y few own) this))

-- what a credential proves such that a set that is wanted is met, it proves for one of these sets
module _ (wants : ℕ → Bool) (n : ℕ) (all : ℕ → List Goal → Bool) (word : ℕ → Bool) where
  abbrev some_all : List Goal → Bool
  some_all = λ goals. any_below (λ X. wants X and all X goals) n

  abbrev some_word : Bool
  some_word = any_below (λ X. wants X and word X) n

  premises-wanted : (asked : Option (List Goal)) → proved_premises some_all some_word asked ≡ true
      → any_below (λ X. wants X and proved_premises (all X) (word X) asked) n ≡ true
  unfolding proved_premises pick
  premises-wanted none h = absurd (false-true h)
  premises-wanted (some goals) h = go (eqb (length goals) 0) h
    where
      go : (b : Bool) → pick b some_word (some_all goals) ≡ true
          → any_below (λ X. wants X and pick b (word X) (all X goals)) n ≡ true
      go true h = h
      go false h = h

  pub by-wanted : (t : List ℕ) (g : Goal) (c : ℕ)
      → any_below (λ X. wants X and proves_by t (all X) (word X) g c) n ≡ proves_by t some_all some_word g c
  unfolding proves_by pick
  by-wanted t g c = same_test _ _ on (back (eqb (credential t c).kind 3))
    where
      on : any_below (λ X. wants X and proves_by t (all X) (word X) g c) n ≡ true → proves_by t some_all some_word g c ≡ true
      on h =
          let (X, l, both) = any-shows (λ X. wants X and proves_by t (all X) (word X) g c) n h in
          let this = and_first _ _ both in
          all-by-mono (all X) some_all (λ goals is. any-reached _ n X l (and_both this is)) (word X) some_word
          (λ is. any-reached _ n X l (and_both this is)) t g c (and_second _ _ both)

      asks : ℕ → Option (List Goal)
      asks j = premises t g c (credential t (suc j)).first

      back : (b : Bool)
          → pick b (any_below (λ j. is_person t j and proved_premises some_all some_word (asks j)) (credentials t))
          (proved_premises some_all some_word (premises t g c 0)) ≡ true
          → any_below (λ X. wants X and pick b
          (any_below (λ j. is_person t j and proved_premises (all X) (word X) (asks j)) (credentials t))
          (proved_premises (all X) (word X) (premises t g c 0))) n ≡ true
      back true h =
          let (j, l, both) = any-shows (λ j. is_person t j and proved_premises some_all some_word (asks j)) (credentials t) h in
          let some = premises-wanted (asks j) (and_second _ _ both) in
          let (X, m, is) = any-shows (λ X. wants X and proved_premises (all X) (word X) (asks j)) n some in
          any-reached _ n X m
          (and_both (and_first _ _ is) (any-reached _ (credentials t) j l (and_both (and_first _ _ both) (and_second _ _ is))))
      back false h = premises-wanted (premises t g c 0) h

-- what is found of credential i + 1 tells whether it proves its goal such that what is wanted is met
pub own-wanted : (t : List ℕ) (S A levels : ℕ) (above : Above) (s : StateSets) (person i : ℕ) {O : ℕ} {wanted found : Family}
    → Wanted O wanted → FoundBelow O (own_test t S A O levels s person i) above found → {r : Bool}
    → r ≡ any_below (λ X. in_family found X and in_family wanted X) all_sets
    → r ≡ proves_by t (suits (proves t S A O levels above s) O (in_family wanted)) (ends_well t A O (in_family wanted) s)
    (goal_at t person i) (suc i)
unfolding suits ends_well
own-wanted t S A levels above s person i {O} {wanted} want told e =
    meets-wanted want told e
    ∙ by-wanted (in_family wanted) (suc O) (λ X goals. shares (proves t S A O levels above s) O goals X) (ends t A s)
    t (goal_at t person i) (suc i)

-- what is told of one branch
pub told_here : {O : ℕ} {test : ℕ → Above → Bool} {above : Above} {found : Family} → FoundBelow O test above found
    → FoundBelow O (λ X b. test X above) nothing_above found
told_here told =
    record { finds = record { inside = told.finds.inside; passes = told.finds.passes }; all = told.all }

-- who can meet more can meet less, by places
pub pair-less : (t : List ℕ) (S A O levels : ℕ) (above : Above) (s : StateSets) (Y Y' : ℕ) (p : Pair) → part Y' Y ≡ true
    → proves_at t S A O levels above s p.person p.place Y ≡ true
    → proves_at t S A O levels above s p.person p.place Y' ≡ true
unfolding proves_at
pair-less t S A O levels above s Y Y' p fewer h =
    and_both (and_first _ _ h) (proves-less t S A O levels above s _ Y Y' fewer (and_second _ _ h))

-- what goals meet together: one alone, and one before others
module _ {G : Type 0} (one : G → ℕ → Bool) (O : ℕ)
    (less : (Y Y' : ℕ) (g : G) → part Y' Y ≡ true → one g Y ≡ true → one g Y' ≡ true) where
  pub told-alone : (g : G) {found : Family} → FoundBelow O (λ X b. one g X) nothing_above found
      → FoundBelow O (λ X b. shares one O (g ∷ []) X) nothing_above found
  unfolding shares
  told-alone g told =
      record {
        finds =
            record {
              inside = told.finds.inside;
              passes = λ X few own.
                  let l = part-le X O (told.finds.inside X few own) in
                  let proved = told.finds.passes X few own in
                  shares-reached one O g [] X X 0 l (omega arith) proved (eq-eqb 0 0 refl) (part-or-left X 0);
            };
        all = λ X owed is. told.all X owed (shares-alone one O less g X is);
      }

  judged : {test : ℕ → Bool} {found : Family} → FoundBelow O (λ X b. test X) nothing_above found
      → Judged O (λ X b. test X) nothing_above found nothing_above
  judged told =
      record {
        finds = told.finds;
        covered = covers-none nothing_above;
        bounds = λ X owed missed b wide covers. refuted _ (λ is. false-true (sym missed ∙ told.all X owed is));
      }

  pub told-joined : (g : G) (goals : List G) {f rest r : Family} → FamilyOf (joins f rest) r
      → FoundBelow O (λ X b. one g X) nothing_above f → FoundBelow O (λ X b. shares one O goals X) nothing_above rest
      → FoundBelow O (λ X b. shares one O (g ∷ goals) X) nothing_above r
  told-joined g goals all first others =
      judged-told nothing-room
      (judged-joined O (λ b. one) g goals (λ b Y Y'. less Y Y' g) all {both = nothing_above} (λ r l. sym (or_self _))
      (judged first) (judged others))
