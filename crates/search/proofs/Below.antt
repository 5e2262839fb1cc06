-- The steps of the search below every branch: from credential to credential, from middle to middle, of a goal that comes on the
-- branch; and where nothing is owed, from part to part (Judging.antt has how answers are put together, Trying.antt what holds of one
-- branch).
use mathlib.Core.Path.{◌≡◌, refl, sym, ap, ◌∙◌}
use mathlib.Core.List.{List, [], ◌∷◌}
use mathlib.Core.Bool.{Bool, true, false, not}
use Prim.Native.Nat.{ℕ, suc, ◌+◌, ◌-◌, ◌<◌}
use native.Mathlib.Omega.{arith}
use lib.Bits.{bit_or}
use lib.Dec.{eqb, ltb}
use borrow.Author.Tests.{eqb-true, eqb-false, ltb-true, ltb-false, not-true}
use Rattle.sets.specs.Logic.{◌or◌, any_below}
use Rattle.sets.proofs.Tests.{and_both, and_first, and_is, and_none, and_second, any-reached, any-shows, false-true, or-either}
use Rattle.sets.proofs.Tests.{passed}
use Rattle.sets.proofs.Tests.{or-second, refuted}
use Rattle.sets.proofs.Members.{in_set-or, part-le, part-member}
use Rattle.sets.proofs.Without.{part-fails}
use Rattle.families.specs.Families.{FamilyOf, all_sets, in_family, is_part}
use Rattle.families.specs.declared.Family.{Family}
use Rattle.families.proofs.Covering.{covers_more}
use Rattle.families.proofs.Words.{part-within}
use Rattle.table.specs.Limits.{most_credentials}
use Rattle.table.specs.Layout.{credential, credentials}
use Rattle.automata.specs.declared.Moved.{Moved}
use Rattle.automata.specs.declared.StateSets.{StateSets}
use Rattle.members.specs.Above.{nothing_above, pair_above, with_pair}
use Rattle.members.specs.declared.above.Above.{Above}
use Rattle.members.specs.Members.{Indexed}
use Rattle.failures.specs.Failures.{Joined, Spared}
use Rattle.goals.specs.Goals.{Left, may_be_proved, stepped, stepped_on, usable}
use Rattle.search.specs.Asking.{pair}
use Rattle.search.specs.declared.asking.Pair.{Pair}
use Rattle.search.specs.Search.{Searchable, Stands, ends, goal_at, proves, proves_at, proves_with, shares}
use Rattle.search.specs.Failing.{Bounds, Covers, Fails, Finds, Judged, Sought, Wide, any_test, goal_test}
use Rattle.search.specs.Failing.{own_test, shared_test}
use Rattle.search.proofs.Failing.{covered-above, covers-none, failed-again, fails-above}
use Rattle.search.proofs.Judging.{finds-or, finds-so, judged-enough, judged-never, judged-or, judged-same}
use Rattle.goals.proofs.Testing.{steps}
use Rattle.search.proofs.Placing.{level-none, middle_tried, place_none, place-unlisted}
use Rattle.search.proofs.Leaving.{dead-tried}
use Rattle.search.proofs.Trying.{Middle, linked-skipped, linked-tried, next-tried, next-unused, place-again, place-step}

-- one of the first i credentials proves the goal at these places
abbrev pub tried_test : List ℕ → ℕ → ℕ → ℕ → ℕ → StateSets → ℕ → ℕ → ℕ → ℕ → Above → Bool
tried_test t S A O levels s person place i = λ X b.
    any_below (proves_with t S (λ goals. shares (proves t S A O levels b s) O goals X) (ends t A s X) (goal_at t person place)) i

-- from credential to credential
module _ {t index : List ℕ} (indexed : Indexed t index) {person place : ℕ} (stands : Stands t person place)
    (there : place < credentials t) (S A O levels : ℕ) (s : StateSets) where
  abbrev tried_of : ℕ → ℕ → Above → Bool
  tried_of = tried_test t S A O levels s person place

  pub tried-none : {above blocking : Above} {found : Family} → FamilyOf (λ X. false) found → blocking ≡ nothing_above
      → Judged O (tried_of 0) above found blocking
  unfolding any_below
  tried-none none nothing = judged-never none nothing (λ X owed b. refl)

  pub tried-all : (i : ℕ) → i ≡ credentials t → {above blocking : Above} {found : Family} → Judged O (tried_of i) above found blocking
      → Judged O (any_test t S A O levels s person place) above found blocking
  tried-all i e judged = rw e at judged

  module _ (i : ℕ) (l : i < credentials t) {may : Bool} (told : may ≡ usable index S place i) where
    pub tried-unused : may ≡ false → {above blocking : Above} {found : Family} → Judged O (tried_of i) above found blocking
        → Judged O (tried_of (i + 1)) above found blocking
    tried-unused off =
        judged-same (λ X b. sym (next-unused indexed stands there S i l (λ goals. shares (proves t S A O levels b s) O goals X)
        (ends t A s X) told off))

    one_more : may ≡ true → (X : ℕ) (b : Above)
        → tried_of (i + 1) X b ≡ (tried_of i X b or own_test t S A O levels s person i X b)
    one_more on X b =
        next-tried indexed stands there S i l (λ goals. shares (proves t S A O levels b s) O goals X) (ends t A s X) told on

    module _ (on : may ≡ true) {above : Above} {f g r : Family} (all : FamilyOf (λ X. in_family f X or in_family g X) r) where
      pub tried-next : {blocking blocking' both : Above} → Joined blocking blocking' both → Judged O (tried_of i) above f blocking
          → Judged O (own_test t S A O levels s person i) above g blocking' → Judged O (tried_of (i + 1)) above r both
      tried-next joined = judged-or (one_more on) all joined

      -- what is found so far some credential proves
      pub tried-finds : Finds O (tried_of i) above f → Finds O (own_test t S A O levels s person i) above g
          → Finds O (any_test t S A O levels s person place) above r
      tried-finds so_far own =
          finds-so (λ X h.
          let (c, less, is) = any-shows _ (i + 1) h in
          any-reached _ (credentials t) c (omega arith) is)
          (finds-or (one_more on) all so_far own)

-- all that can be met at best is found, or all that is wanted
pub sought-enough : (t : List ℕ) (S A O : ℕ) → O < all_sets → (levels person place : ℕ) (s : StateSets) {x : Moved}
    → x ≡ stepped_on t (bit_or A O) (credential t (suc place)).role s → {most : ℕ} → Left O x.dead most
    → {above blocking : Above} {wanted found : Family} {enough : Bool} → enough ≡ (in_family found most or is_part wanted found)
    → enough ≡ true → Finds O (any_test t S A O levels x.states person place) above found → blocking ≡ nothing_above
    → Sought O (any_test t S A O levels x.states person place) above wanted found blocking
sought-enough t S A O few levels person place s {x} told {most} left {above} {blocking} {wanted} {found} e on finds nothing =
    record {
      finds = finds;
      covered = rw nothing (covers-none above);
      bounds = λ less. (best less).bounds;
    }
  where
    best : is_part wanted found ≡ false → Judged O (any_test t S A O levels x.states person place) above found blocking
    best less =
        judged-enough most left.few finds nothing (at-best (in_family found most) (sym e ∙ on))
        (λ X owed more b.
        let l = part-le X O owed in
        let (k, in-X, out) = part-fails X most 8 (omega (arith, few)) more in
        dead-tried t S A O _ s told X l k (in_set-or A X k ∙ or-second _ in-X) (left.lost k (part-member X O k owed in-X) out) levels b
        (goal_at t person place))
      where
        at-best : (has : Bool) → (has or is_part wanted found) ≡ true → has ≡ true
        at-best has h = or-either (λ is. is) (λ all. absurd (false-true (sym less ∙ all))) h

-- an answer has more than what is wanted
pub sought-judged : {O : ℕ} {test : ℕ → Above → Bool} {above blocking : Above} {wanted found : Family} → Judged O test above found blocking
    → Sought O test above wanted found blocking
sought-judged judged = record { finds = judged.finds; covered = judged.covered; bounds = λ less. judged.bounds }

-- the state sets that the code holds are those behind the goal's role
pub sought-moved : (t : List ℕ) (S A O levels person place : ℕ) (s : StateSets) {x : Moved} {above blocking : Above} {wanted found : Family}
    → x ≡ stepped_on t (bit_or A O) (credential t (suc place)).role s
    → Sought O (any_test t S A O levels x.states person place) above wanted found blocking
    → Sought O (any_test t S A O levels (stepped t (bit_or A O) (credential t (suc place)).role s) person place) above wanted found blocking
sought-moved t S A O levels person place s told sought = rw (steps t (bit_or A O) _ s told) at sought

-- a goal that may be sought: levels are left, and principal and role have places
pub record Open (t : List ℕ) (levels person place : ℕ) : Type 0 where
  pub left : levels ≡ 0 → ⊥
  pub there : place < credentials t
  pub few-persons : person < most_credentials
  pub few-places : place < most_credentials

-- levels are left, the role is defined, and the rows have the principal
module _ (t rows : List ℕ) (last person place levels : ℕ) (may : may_be_proved t rows last person place levels ≡ true) where
  pub may-left : levels ≡ 0 → ⊥
  unfolding may_be_proved
  may-left = eqb-false levels 0 (not-true _ (and_first _ _ may))

  pub may-there : place < credentials t
  unfolding may_be_proved
  may-there = ltb-true place (credentials t) (and_first _ _ (and_second _ _ may))

pub opened : {t index arcs rows : List ℕ} {S levels last person place : ℕ} → Searchable t index arcs rows S levels last
    → Stands t person place → {told : Bool} → told ≡ may_be_proved t rows last person place levels → told ≡ true
    → Open t levels person place
opened {t} {rows = rows} {levels = levels} {last} {person} {place} searched stands e on =
    let may = passed e on in
    let there = may-there t rows last person place levels may in
    let few = searched.well_formed.sized.counted.few_credentials in
    record {
      left = may-left t rows last person place levels may;
      there = there;
      few-persons = omega (arith, stands.there, few);
      few-places = omega (arith, there, few);
    }

-- the goal at these places
module _ (t : List ℕ) (S A O levels : ℕ) (s : StateSets) (person place : ℕ) (stands : Stands t person place) where
  -- the rows do not have it
  pub goal-unlisted : {index arcs rows : List ℕ} {last : ℕ} → Searchable t index arcs rows S levels last
      → may_be_proved t rows last person place levels ≡ false → (X : ℕ) (b : Above)
      → goal_test t S A O levels s person place X b ≡ false
  unfolding may_be_proved
  goal-unlisted {rows = rows} {last} searched missing X b = sym (go (eqb levels 0) refl (ltb place (credentials t)) refl)
    where
      go : (none : Bool) → eqb levels 0 ≡ none → (defined : Bool) → ltb place (credentials t) ≡ defined
          → false ≡ proves_at t S A O levels b s person place X
      go true e defined f = level-none t S A O levels b s person place X (eqb-true levels 0 e)
      go false e false f = place_none t S A O levels b s person place X (ltb-false place (credentials t) f)
      go false e true f =
          place-unlisted t S A O levels b s person place X searched.members stands (ltb-true place (credentials t) f) refl
          (sym missing ∙ and_is (ap not e) (and_is f refl)) refl

  module _ (may : Open t levels person place) where
    -- it stands on the branch
    pub goal-again : (above : Above) → pair_above above person place ≡ true → (X : ℕ)
        → Covers (with_pair nothing_above person place) above
        × Fails (goal_test t S A O levels s person place X) (with_pair nothing_above person place)
    goal-again above on X =
        let failed = failed-again person place above may.few-places
        (λ b on'. sym (place-again t S A O levels b s person place X stands may.there may.left on')) on in
        (failed.covered, failed.fails)

    -- it does not, and comes there
    abbrev below : ℕ → Above → Bool
    below = any_test t S A O (levels - 1) (stepped t (bit_or A O) (credential t (suc place)).role s) person place

    module _ {above blocking : Above} {wanted found : Family} (new : pair_above above person place ≡ false)
        (sought : Sought O below (with_pair above person place) wanted found blocking) where
      finds-goal : Finds O (goal_test t S A O levels s person place) above found
      finds-goal =
          record {
            inside = sought.finds.inside;
            passes = λ X few is.
                sym (place-step t S A O levels above s person place X stands may.there may.left)
                ∙ and_both (ap not new) (sought.finds.passes X few is);
          }

      -- all that is known to be possible is found
      pub goal-known : {known : Above} → Covers known above → Bounds O (goal_test t S A O levels s person place) wanted known
          → {told : Bool} → told ≡ is_part wanted found → told ≡ true
          → Judged O (goal_test t S A O levels s person place) above found known
      goal-known covered bounds e on =
          record {
            finds = finds-goal;
            covered = covered;
            bounds = λ X owed missed.
                bounds X owed (refuted _ (λ is.
                false-true (sym missed ∙ covers_more wanted found (part-within wanted found (sym e ∙ on)) X is)));
          }

      -- or less
      pub goal-less : Wide above → (rest : Above) → Spared blocking person place rest → {told : Bool} → told ≡ is_part wanted found
          → told ≡ false → Judged O (goal_test t S A O levels s person place) above found rest
      goal-less wide rest spared e off =
          record {
            finds = finds-goal;
            covered = covered-above person place blocking rest spared above wide sought.covered;
            bounds = λ X owed missed.
                fails-above person place blocking rest spared
                (λ b none. sym (place-step t S A O levels b s person place X stands may.there may.left) ∙ and_none _ none)
                (sought.bounds (sym e ∙ off) X owed missed);
          }

-- from middle to middle
abbrev pub linked_test : List ℕ → List ℕ → ℕ → ℕ → ℕ → ℕ → StateSets → ℕ → ℕ → ℕ → ℕ → Above → Bool
linked_test t index S A O levels s person i j = λ X b.
    any_below (middle_tried t index (λ (p : Pair) Y. proves_at t S A O levels b s p.person p.place Y) O person i X) j

module _ {t index arcs rows : List ℕ} {S levels last person i row j first second : ℕ} {told : Bool}
    (middle : Middle t index arcs rows S levels last person i row j first second told) (A O : ℕ) (s : StateSets) where
  pub link-skipped : told ≡ false → {above blocking : Above} {found : Family}
      → Judged O (linked_test t index S A O levels s person i j) above found blocking
      → Judged O (linked_test t index S A O levels s person i (j + 1)) above found blocking
  link-skipped off = judged-same (λ X b. sym (linked-skipped middle A O b s X off))

  module _ (on : told ≡ true) {above : Above} {f g r : Family} (all : FamilyOf (λ X. in_family f X or in_family g X) r) where
    pub link-next : {blocking blocking' both : Above} → Joined blocking blocking' both
        → Judged O (linked_test t index S A O levels s person i j) above f blocking
        → Judged O (shared_test t S A O levels s (pair j first ∷ pair person second ∷ [])) above g blocking'
        → Judged O (linked_test t index S A O levels s person i (j + 1)) above r both
    link-next joined = judged-or (λ X b. linked-tried middle A O b s X on) all joined

    pub link-finds : Finds O (linked_test t index S A O levels s person i j) above f
        → Finds O (shared_test t S A O levels s (pair j first ∷ pair person second ∷ [])) above g
        → Finds O (linked_test t index S A O levels s person i (credentials t)) above r
    link-finds so_far one =
        finds-so (λ X h.
        let (k, less, is) = any-shows _ (j + 1) h in
        any-reached _ (credentials t) k (omega (arith, middle.there)) is)
        (finds-or (λ X b. linked-tried middle A O b s X on) all so_far one)
