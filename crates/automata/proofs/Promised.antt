-- Ticket 2, as far as labels and moves go, proved sentence by sentence.
use mathlib.Core.Path.{◌≡◌, refl, sym, ap, ◌∙◌}
use mathlib.Core.List.{List, [], ◌∷◌, ◌++◌}
use mathlib.Core.Bool.{true, false}
use mathlib.Core.Logic.{◌↔◌}
use Prim.Native.Nat.{ℕ, suc, ◌<◌}
use native.Mathlib.Numerals.{sub-one}
use lib.ListN.{get_or}
use lib.Dec.{eqb}
use borrow.Author.Tests.{eq-eqb, eqb-true, leb-true, le-leb, lt-ltb, ltb-true}
use Rattle.sets.specs.Sets.{in_set, meets}
use Rattle.sets.proofs.Tests.{and_both, and_parts, false-true, refuted}
use Rattle.sets.proofs.Members.{in_set-zero, same-members, set_of-members}
use Rattle.table.specs.Limits.{most_principals}
use Rattle.table.specs.Layout.{Numbered, automata, edge, edges}
use Rattle.table.specs.Checks.{is_principal, is_principal_to, within}
use Rattle.table.specs.declared.Principal.{Principal}
use Rattle.table.specs.declared.Role.{Role}
use Rattle.table.proofs.Meanings as meanings
use Rattle.edges.specs.Edges.{leads}
use Rattle.edges.proofs.Labels.{label-4}
use Rattle.automata.specs.Automata.{accepts, accepts_from, moved, moved_by, run, run_by, starting}
use Rattle.automata.specs.Promised.{EmptyStays, EmptyWhere, MatchesOwner, NamesOwner, TellsEmpty}
use Rattle.automata.specs.Together.{dead_set, moved_on, moved_sets, set_for}
use Rattle.automata.specs.declared.StateSets.{StateSets}
use Rattle.automata.proofs.Moves.{moved-reached, moved-shows, run-empty}

pub matches-owner : MatchesOwner
matches-owner e r four =
    (λ on. eqb-true _ _ (sym (label-4 e r four) ∙ on), λ same. label-4 e r four ∙ eq-eqb _ _ same)

-- a principal is one of so many
principal-shows : (p : Principal) → is_principal p ≡ true → Numbered most_principals p.0
unfolding is_principal_to within
principal-shows p is =
    let (low, high) = and_parts (leb-true 1 p.0) (leb-true p.0 most_principals) is in
    record { first = low; last = high }

principal-is : (p : Principal) → Numbered most_principals p.0 → is_principal p ≡ true
unfolding is_principal_to within
principal-is p h = and_both (le-leb _ _ h.first) (le-leb _ _ h.last)

pub names-owner : NamesOwner
names-owner r =
    let fields = meanings.label-4 4 r refl in (
      (λ ok. and_parts (principal-shows r.owner) (eqb-true r.name.0 0) (sym fields ∙ ok)),
      (λ named. fields ∙ and_both (principal-is r.owner named.0) (eq-eqb _ _ named.1)),
    )

-- who is dead in any sets
pub dead-exact : (t : List ℕ) (s : StateSets) (k : ℕ)
    → (in_set (dead_set t s) k ≡ true) ↔ ((k < automata t) × (set_for s (suc k) ≡ 0))
unfolding dead_set
dead-exact t s k =
    let members = set_of-members (λ j. eqb (get_or s.sets j 0) 0) (automata t) k in
    rw (sub-one (suc k)) (
      (λ told. and_parts (ltb-true k (automata t)) (eqb-true _ 0) (sym members ∙ told)),
      (λ empty. members ∙ and_both (lt-ltb k (automata t) empty.0) (eq-eqb _ 0 empty.1)),
    )

pub tells-empty : TellsEmpty
unfolding moved_on
tells-empty t r s k = (refl, dead-exact t (moved_sets t r s) k)

module _ (t : List ℕ) (k : ℕ) (r : Role) (x : ℕ) where
  -- no edge leads to a state of an empty set
  empty-unled : moved t k r x ≡ 0 → (i : ℕ) → Numbered (edges t) i → leads k r x (edge t i) ≡ false
  unfolding moved
  empty-unled empty i there =
      let to = (edge t i).to in
      refuted (leads k r x (edge t i)) (λ on.
      let inside = moved-reached t k r x (edges t) to i there on refl in
      false-true (sym (in_set-zero to) ∙ ap (λ y. in_set y to) (sym empty) ∙ inside))

  -- and where no edge leads on no state is reached
  unled-empty : ((i : ℕ) → Numbered (edges t) i → leads k r x (edge t i) ≡ false) → moved t k r x ≡ 0
  unfolding moved
  unled-empty none = same-members _ 0 (λ s. refuted _ (outside s) ∙ sym (in_set-zero s))
    where
      outside : (s : ℕ) → in_set (moved_by (edge t) k r x (edges t)) s ≡ true → ⊥
      outside s inside =
          let (i, there, on, to) = moved-shows t k r x (edges t) s inside in
          false-true (sym (none i there) ∙ on)

pub empty-where : EmptyWhere
empty-where t k r x = (empty-unled t k r x, unled-empty t k r x)

run-append : (t : List ℕ) (k x : ℕ) (word more : List Role) → run t k x (word ++ more) ≡ run t k (run t k x word) more
unfolding run_by
run-append t k x [] more = refl
run-append t k x (r ∷ word) more = run-append t k (moved t k r x) word more

pub empty-stays : EmptyStays
unfolding accepts accepts_from meets
empty-stays t k word more empty = rw (run-append t k (starting t k) word more, empty, run-empty t k more)
