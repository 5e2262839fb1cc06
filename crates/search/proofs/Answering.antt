-- The answers of the search's own steps, over plain variables: where nothing is owed, of the goals that a credential asks, of a word
-- that ends.
use mathlib.Core.Path.{◌≡◌, refl, sym, ap, ◌∙◌}
use mathlib.Core.List.{List, [], ◌∷◌}
use mathlib.Core.Bool.{Bool, true, false, not}
use mathlib.Core.Logic.{◌⊎◌, ⊎_elim}
use Prim.Native.Nat.{ℕ, zero, suc, ◌+◌, ◌<◌, ◌≤◌}
use native.Mathlib.Omega.{arith}
use native.Mathlib.Decide.{ℕ_discrete}
use native.Mathlib.Nat.{zero-add}
use lib.ListN.{drop, get_or, length, set}
use lib.Seq.{drop-cons, drop-length, get_or-set_same, get_or-set_other}
use lib.Bits.{bit_and, bit_or}
use lib.Dec.{eqb}
use borrow.Author.Tests.{ne_eqb}
use Rattle.sets.specs.Logic.{◌and◌, any_below}
use Rattle.sets.specs.Sets.{in_set, part}
use Rattle.sets.proofs.Tests.{and_both, and_first, and_is, and-is-off, and_none, and_second, any-shows, false-true, or-first, refuted}
use Rattle.sets.proofs.Members.{in_set-or, part-le, part-or, part-or-left, part-or-right, part-refl, part-trans, part-zero}
use Rattle.families.specs.Families.{FamilyOf, all_sets, in_family, joins}
use Rattle.families.specs.declared.Family.{Family}
use Rattle.table.specs.Layout.{credential, credentials}
use Rattle.automata.specs.Together.{accepting_set}
use Rattle.automata.specs.declared.StateSets.{StateSets}
use Rattle.members.specs.Above.{nothing_above}
use Rattle.members.specs.declared.above.Above.{Above}
use Rattle.members.specs.Members.{asked_cell}
use Rattle.failures.specs.Failures.{Joined}
use Rattle.goals.specs.Goals.{Trimmed}
use Rattle.search.specs.Asking.{SameLater, pair, role_pairs}
use Rattle.search.specs.declared.asking.Pair.{Pair}
use Rattle.search.specs.Search.{AllStand, Searchable, Stands, Tried, ends, proves_at, shares}
use Rattle.families.proofs.Covering.{covers-only}
use Rattle.search.specs.Failing.{Bounds, Covers, Fails, Finds, Judged, LaterJudged, goal_test, no_family, own_test, pair_test, shared_test}
use Rattle.search.proofs.Pairs.{roles-length}
use Rattle.search.proofs.Owing.{proves-less}
use Rattle.search.proofs.Sharing.{part_none, shares-member, shares-reached}
use Rattle.search.proofs.Placing.{cell-middles, cell-named}
use Rattle.search.proofs.Trying.{stands-part}
use Rattle.search.proofs.Below.{linked_test}
use Rattle.search.proofs.Failing.{covered-both, fails-first, fails-second}
use Rattle.search.proofs.Judging.{and_left, and_right, judged-enough, judged-failed, judged-joined, judged-more, judged-never, judged-only, part-and}
use Rattle.search.proofs.Judging.{judged-same, judged-trimmed, no-sets, none-covered}

-- where nothing is owed there is one set to be met, the empty one
module _ {O : ℕ} (unowed : O ≡ 0) {test : ℕ → Above → Bool} {above : Above} {found : Family} {blocking : Above} where
  pub zero-proved : FamilyOf (eqb 0) found → blocking ≡ nothing_above → test 0 above ≡ true → Judged O test above found blocking
  zero-proved only nothing is =
      judged-only 0 (omega arith) only (part-zero O) nothing is
      (λ X owed out b. absurd (false-true (sym out ∙ rw (part_none O X unowed owed) (part-refl 0))))

  pub zero-failed : FamilyOf (λ X. false) found → Covers blocking above → Fails (test 0) blocking → Judged O test above found blocking
  zero-failed none covered fails = judged-failed none covered (λ X owed. rw (part_none O X unowed owed) fails)

  pub zero-passes : Judged O test above found blocking → {told : Bool} → told ≡ not (any_below (in_family found) all_sets) → told ≡ false
      → test 0 above ≡ true
  zero-passes judged e some =
      let (X, few, is) = any-shows (in_family found) all_sets (has_some (any_below (in_family found) all_sets) (sym e ∙ some)) in
      ap (λ x. test x above) (sym (part_none O X unowed (judged.finds.inside X few is))) ∙ judged.finds.passes X few is
    where
      has_some : (b : Bool) → not b ≡ false → b ≡ true
      has_some true h = refl
      has_some false h = absurd (false-true (sym h))

-- nothing can be met: the goal fails
pub none-fails : {O : ℕ} {test : ℕ → Above → Bool} {above : Above} {found : Family} {blocking : Above} → Judged O test above found blocking
    → {told : Bool} → told ≡ not (any_below (in_family found) all_sets) → told ≡ true → Fails (test 0) blocking
none-fails {O} {found = found} judged {told} e none =
    judged.bounds 0 (part-zero O) (none-covered found (no-sets found told e none) 0)

-- goals by their places
module _ (t : List ℕ) (S A O levels : ℕ) (s : StateSets) where
  abbrev at : Above → Pair → ℕ → Bool
  at b = λ (p : Pair) Y. proves_at t S A O levels b s p.person p.place Y

  at_less : (b : Above) (p : Pair) (Y Y' : ℕ) → part Y' Y ≡ true → at b p Y ≡ true → at b p Y' ≡ true
  unfolding proves_at
  at_less b p Y Y' less h = and_both (and_first _ _ h) (proves-less t S A O levels b s _ Y Y' less (and_second _ _ h))

  -- one of them fails: they fail together
  pub shared-failed : (pairs : List Pair) (k : ℕ) → k < length pairs → {above blocking : Above} {found : Family}
      → FamilyOf (λ X. false) found → Covers blocking above
      → Fails (goal_test t S A O levels s (get_or pairs k (pair 0 0)).person (get_or pairs k (pair 0 0)).place 0) blocking
      → Judged O (shared_test t S A O levels s pairs) above found blocking
  shared-failed pairs k there none covered fails =
      judged-failed none covered (λ X owed b wide covers.
      refuted _ (λ h.
      false-true (sym (fails b wide covers)
      ∙ shares-member (at b) O (pair 0 0) (λ p Y. at_less b p Y 0 (part-zero Y)) pairs X h k there)))

  -- no goal at all
  pub shared-none : {above blocking : Above} {found : Family} → FamilyOf (eqb 0) found → blocking ≡ nothing_above
      → Judged O (shared_test t S A O levels s []) above found blocking
  unfolding shares
  shared-none only nothing =
      judged-only 0 (omega arith) only (part-zero O) nothing refl
      (λ X owed out b. ne_eqb X 0 (λ e. false-true (sym out ∙ rw e (part-refl 0))))

  -- two goals where nothing is owed: the first is proved, so the second decides
  pub second-decides : (unowed : O ≡ 0) (p q : Pair) {above blocking : Above} {found : Family} → at above p 0 ≡ true
      → Judged O (goal_test t S A O levels s q.person q.place) above found blocking
      → Judged O (shared_test t S A O levels s (p ∷ q ∷ [])) above found blocking
  unfolding shares
  second-decides unowed p q {above} is judged =
      record {
        finds =
            record {
              inside = judged.finds.inside;
              passes = λ X few here.
                  let nothing = part_none O X unowed (judged.finds.inside X few here) in
                  let second = shares-reached (at above) O q [] 0 0 0 (omega arith) (omega arith)
                  (rw nothing at (judged.finds.passes X few here)) refl (part-zero _) in
                  rw nothing (shares-reached (at above) O p (q ∷ []) 0 0 0 (omega arith) (omega arith) is second (part-zero _));
            };
        covered = judged.covered;
        bounds = λ X owed missed b wide covers.
            refuted _ (λ h.
            let nothing = part_none O X unowed owed in
            false-true (sym (judged.bounds 0 (part-zero O) (rw nothing at missed) b wide covers)
            ∙ shares-member (at b) O (pair 0 0) (λ r Y. at_less b r Y 0 (part-zero Y)) (p ∷ q ∷ []) X h 1 (omega arith)));
      }

  -- one goal before those that share already
  pub shared-next : (asked : List Pair) (k : ℕ) → k < length asked → {above blocking blocking' both : Above} {f rest r trimmed : Family}
      → FamilyOf (joins f rest) r → Trimmed r O trimmed → Joined blocking blocking' both
      → Judged O (pair_test t S A O levels s (get_or asked k (pair 0 0))) above f blocking
      → Judged O (shared_test t S A O levels s (drop (suc k) asked)) above rest blocking'
      → Judged O (shared_test t S A O levels s (drop k asked)) above trimmed both
  shared-next asked k there all trims joined one others =
      judged-trimmed trims
      (rw (drop-cons asked k (pair 0 0) there)
      (judged-joined O at (get_or asked k (pair 0 0)) (drop (suc k) asked) (λ b Y Y'. at_less b _ Y Y') all joined one others))

  -- what each of the goals can meet, with one more
  pub later-next : (asked : List Pair) (k : ℕ) → {above blocking blocking' both : Above} (each : List Family) {f : Family} → k < length each
      → Joined blocking blocking' both → Covers blocking above → Covers blocking' above
      → Judged O (pair_test t S A O levels s (get_or asked k (pair 0 0))) above f blocking
      → LaterJudged t S A O levels s asked (suc k) above each blocking'
      → LaterJudged t S A O levels s asked k above (set each k f) both
  later-next asked k {above} {blocking} {blocking'} {both} each {f} room joined covered covered' one later j from there = go (ℕ_discrete j k)
    where
      all-covered : Covers both above
      all-covered = covered-both blocking blocking' both joined above covered covered'

      go : Dec (j ≡ k) → Judged O (pair_test t S A O levels s (get_or asked j (pair 0 0))) above (get_or (set each k f) j no_family) both
      go (yes same) =
          rw (same, get_or-set_same each k f no_family room)
          (judged-more blocking both (λ test. fails-first blocking blocking' both joined) all-covered one)
      go (no other) =
          rw (get_or-set_other each k j f no_family other)
          (judged-more blocking' both (λ test. fails-second blocking blocking' both joined) all-covered (later j (omega (arith, other)) there))

  -- a goal that is the same as a later one
  pub same-judged : (asked : List Pair) (k r : ℕ) → SameLater asked k r → {above blocking : Above} (each : List Family)
      → LaterJudged t S A O levels s asked (suc k) above each blocking
      → Judged O (pair_test t S A O levels s (get_or asked k (pair 0 0))) above (get_or each r no_family) blocking
  same-judged asked k r same each later = rw (← same.same) (later r same.later same.there)

role-at : (index : List ℕ) (person i n k j : ℕ) → j < n
    → get_or (role_pairs index person i n k) j (pair 0 0) ≡ pair person (get_or index (asked_cell i (k + j)) 0)
unfolding role_pairs
role-at index person i zero k j l = absurd (omega arith)
role-at index person i (suc n) k zero l = let e : k + 0 ≡ k = omega arith in rw e
role-at index person i (suc n) k (suc j) l =
    let e : suc k + j ≡ k + suc j = omega arith in rw e at (role-at index person i n (suc k) j (omega arith))

-- the roles that a credential of kind 2 or 4 asks have places
pub roles-stand : {t index arcs rows : List ℕ} {S levels last : ℕ} → Searchable t index arcs rows S levels last → {person i : ℕ}
    → Tried t person i → ((credential t (suc i)).kind ≡ 2) ⊎ ((credential t (suc i)).kind ≡ 4) → (n : ℕ) → n ≤ 4
    → AllStand t (role_pairs index person i n 0)
roles-stand {index = index} searched {person} {i} tried kind n few k l =
    let there : k < n = rw (roles-length index person i n 0) at l in
    rw (role-at index person i n 0 k there, zero-add k) (stands-part searched tried kind k (omega arith) _ refl)

-- two goals
pub both-stand : {t : List ℕ} (p q : Pair) → Stands t p.person p.place → Stands t q.person q.place
    → AllStand t (p ∷ q ∷ [])
both-stand p q first second zero l = first
both-stand p q first second (suc zero) l = second
both-stand p q first second (suc (suc k)) l = absurd (omega arith)

-- a word that may end: the imposed automata accept it, and those that it meets
module _ (t : List ℕ) (A : ℕ) (s : StateSets) (X : ℕ) where
  ends-imposed : ends t A s X ≡ true → part A (accepting_set t s) ≡ true
  unfolding ends
  ends-imposed = part-trans A (bit_or A X) _ (part-or-left A X)

  ends-met : ends t A s X ≡ true → part X (accepting_set t s) ≡ true
  unfolding ends
  ends-met = part-trans X (bit_or A X) _ (part-or-right A X)

  ends-both : part A (accepting_set t s) ≡ true → part X (accepting_set t s) ≡ true → ends t A s X ≡ true
  unfolding ends
  ends-both = part-or A X _

-- a word ends: what it meets of the owed automata, where the credential names the principal and the imposed ones accept it
pub word-judged : {t index arcs rows : List ℕ} {S levels last : ℕ} → Searchable t index arcs rows S levels last → {person i : ℕ}
    → Tried t person i → (credential t (suc i)).kind ≡ 1 → (A O : ℕ) → O < all_sets → (s : StateSets) {above blocking : Above} {found : Family}
    → FamilyOf (λ X. eqb (get_or index (asked_cell i 0) 0) person and part A (accepting_set t s)
    and eqb (bit_and O (accepting_set t s)) X) found → blocking ≡ nothing_above
    → Judged O (own_test t S A O levels s person i) above found blocking
word-judged {t} {index} {S = S} {levels} searched {person} {i} tried kind A O few s {above} {blocking} {found} all nothing =
    go (eqb (get_or index (asked_cell i 0) 0) person) refl (part A acc) refl
  where
    acc : ℕ
    acc = accepting_set t s

    meets : ℕ
    meets = bit_and O acc

    own : ℕ → Above → Bool
    own = own_test t S A O levels s person i

    is : (X : ℕ) (b : Above) → own X b ≡ (eqb (get_or index (asked_cell i 0) 0) person and ends t A s X)
    is X b = cell-named searched tried A O b s X kind

    go : (a : Bool) → eqb (get_or index (asked_cell i 0) 0) person ≡ a → (b : Bool) → part A acc ≡ b
        → Judged O own above found blocking
    go false e b f =
        judged-never (λ X less. all X less ∙ and-is-off _ e) nothing (λ X owed b'. is X b' ∙ and-is-off _ e)
    go true e false f =
        judged-never (λ X less. all X less ∙ and_none _ (and-is-off _ f)) nothing
        (λ X owed b'. is X b' ∙ and_none _ (refuted _ (λ h. false-true (sym f ∙ ends-imposed t A s X h))))
    go true e true f =
        let within-O = and_left O acc in
        let l = part-le meets O within-O in
        judged-only meets (omega (arith, few)) (λ X less. all X less ∙ and_is e (and_is f refl)) within-O nothing
        (is meets above ∙ and_is e (ends-both t A s meets f (and_right O acc)))
        (λ X owed out b'. is X b' ∙ and_none _ (refuted _ (λ h.
        false-true (sym out ∙ part-and X O acc owed (ends-met t A s X h)))))

-- an imposed automaton is demanded, whatever is to be met
pub imposed-demanded : (A X k : ℕ) → in_set A k ≡ true → in_set (bit_or A X) k ≡ true
imposed-demanded A X k h = in_set-or A X k ∙ or-first _ h

-- all that is owed bounds what can be met
pub only-bounds : {O : ℕ} → O < all_sets → (test : ℕ → Above → Bool) (found : Family) (blocking : Above) → FamilyOf (eqb O) found
    → Bounds O test found blocking
only-bounds {O} few test found blocking only X owed missed =
    absurd (false-true (sym missed ∙ covers-only found O few only X ∙ owed))

-- no middle is tried yet
pub links-none : (t index : List ℕ) (S A O levels person i : ℕ) (s : StateSets) {above blocking : Above} {found : Family}
    → FamilyOf (λ X. false) found → blocking ≡ nothing_above → Judged O (linked_test t index S A O levels s person i 0) above found blocking
unfolding any_below
links-none t index S A O levels person i s none nothing = judged-never none nothing (λ X owed b. refl)

pub none_below : (p : ℕ → Bool) → any_below p 0 ≡ false
unfolding any_below
none_below p = refl

pub two-or-four : {k : ℕ} → (k ≡ 2) ⊎ (k ≡ 4) → k ≡ 3 → ⊥
two-or-four kind three = ⊎_elim (λ two. omega arith) (λ four. omega arith) kind

-- what some middle proves, credential i + 1 of kind 3 does
module _ {t index arcs rows : List ℕ} {S levels last : ℕ} (searched : Searchable t index arcs rows S levels last) {person i : ℕ}
    (tried : Tried t person i) (kind : (credential t (suc i)).kind ≡ 3) (A O : ℕ) (s : StateSets) where
  pub linked-all : (j : ℕ) → j ≡ credentials t → {above blocking : Above} {found : Family}
      → Judged O (linked_test t index S A O levels s person i j) above found blocking
      → Judged O (own_test t S A O levels s person i) above found blocking
  linked-all j all judged =
      judged-same (λ X b. sym (cell-middles searched tried A O b s X kind)) (rw all at judged)

  -- all that is owed is found
  pub linked-enough : O < all_sets → {above blocking : Above} {found : Family}
      → Finds O (linked_test t index S A O levels s person i (credentials t)) above found → {has : Bool} → has ≡ in_family found O
      → has ≡ true → blocking ≡ nothing_above → Judged O (own_test t S A O levels s person i) above found blocking
  linked-enough few finds e on nothing =
      linked-all (credentials t) refl (judged-enough O few finds nothing (sym e ∙ on)
      (λ X owed more b. absurd (false-true (sym more ∙ owed))))

-- the goals behind the last one are none
pub shared-end : (t : List ℕ) (S A O levels : ℕ) (s : StateSets) (asked : List Pair) {above blocking : Above} {found : Family}
    → FamilyOf (eqb 0) found → blocking ≡ nothing_above
    → Judged O (shared_test t S A O levels s (drop (length asked) asked)) above found blocking
shared-end t S A O levels s asked only nothing =
    rw (drop-length asked) (shared-none t S A O levels s only nothing)

-- no more than nothing is owed
pub none-owed : {O : ℕ} → O ≤ 0 → O ≡ 0
none-owed few = omega arith
