-- `admits` as the code decides it: the automata that cannot be met are done without at once, and the others are decided one after
-- the other, from the last down to the first.
use mathlib.Core.Path.{◌≡◌, refl, sym, ap, ◌∙◌}
use mathlib.Core.List.{List}
use mathlib.Core.Bool.{Bool, true, false}
use Prim.Native.Nat.{ℕ, zero, suc, ◌-◌, ◌^◌, ◌<◌, ◌≤◌}
use native.Mathlib.Omega.{arith}
use native.Mathlib.Numerals.{sub-one}
use lib.Bits.{and_self, bit_or, or_lt}
use lib.Pow.{pow-lt}
use lib.Dec.{eqb}
use borrow.Author.Tests.{eq-eqb, eqb-true, ltb-true, not-true}
use Rattle.sets.specs.Logic.{◌and◌, ◌or◌, pick}
use Rattle.sets.specs.Sets.{in_set, part}
use Rattle.sets.proofs.Tests.{and_both, and_first, and_is, and-is-off, and_none, and_second, false-true, or-false}
use Rattle.sets.proofs.Tests.{or-either, or-first, or_off, or-second, refuted}
use Rattle.sets.proofs.Members.{in_set-or, meets-common, meets-some, one-among, part-antisym, part-le}
use Rattle.sets.proofs.Members.{part-member, part-or, part-or-left, part-or-right, part-refl, part-trans, part-zero}
use Rattle.sets.proofs.Members.{set_of-members}
use Rattle.families.specs.Families.{FamilyOf, all_sets, covers}
use Rattle.families.specs.declared.Family.{Family}
use Rattle.families.proofs.Covering.{covers-only}
use Rattle.table.specs.Limits.{most_automata}
use Rattle.table.specs.Layout.{automata, automaton}
use Rattle.table.specs.Holding.{WellFormed}
use Rattle.table.specs.declared.Query.{Query}
use Rattle.table.proofs.WellFormed.{wf-credential}
use Rattle.attached.specs.Attached.{automata_of, owed_of}
use Rattle.derivation.proofs.Using.{automaton-shows}
use Rattle.members.specs.Members.{Members}
use Rattle.search.specs.Search.{TellsMet, provable}
use Rattle.search.specs.declared.prepared.Request.{Request}
use Rattle.search.proofs.Sharing.{part_none}
use Rattle.goals.specs.declared.Terms.{Terms}
use Rattle.settling.specs.Settling.{Asks, all_automata, is_lacking, lacking_of, without_all}
use Rattle.settling.proofs.Leaving.{among-reached, without-part, without-shows}
use Rattle.settling.proofs.Owed.{all_there, asked-few, marked-reached, marked-shows, owed-shows}
use Rattle.admission.specs.Admits.{admits_by, admits_to, with_every, with_owed}
use Rattle.admission.specs.Deciding.{Borne, Known, MetFound, Undecided}
use Rattle.admission.proofs.Admitting.{admits-without}

-- where a credential of S bears an automaton of L, fewer are left without them
without-less : (t : List ℕ) (S L j : ℕ) → in_set L j ≡ true → in_set (automata_of t S) j ≡ true → without_all t S L < S
without-less t S L j lost borne =
    let few = part-le _ S (without-part t S L) in
    omega (arith, few, other)
  where
    other : without_all t S L ≡ S → ⊥
    other same =
        let (i, l, member, own) = automaton-shows t S j borne in
        let left = (without-shows t S L i (rw same member)).1 in
        false-true (sym (rw own at left) ∙ among-reached L j lost)

-- automata of a set that demand some word and cannot be met beside O
module _ (t : List ℕ) (wf : WellFormed t) (q : Query) (S A O : ℕ) (found : Family)
    (tells : TellsMet t q S A (bit_or O (owed_of t S)) found) where
  pub tells-owed : covers found O ≡ provable t q S A O
  tells-owed = tells O (part-or-left O (owed_of t S))

  -- one automaton more
  more-asked : (j : ℕ) → in_set (bit_or O (owed_of t S)) j ≡ true → part (bit_or O (2 ^ j)) (bit_or O (owed_of t S)) ≡ true
  more-asked j there = part-or O (2 ^ j) _ (part-or-left O (owed_of t S)) (one-among j _ there)

  pub tells_more : (j : ℕ) → in_set (owed_of t S) j ≡ true
      → covers found (bit_or O (2 ^ j)) ≡ provable t q S A (bit_or O (2 ^ j))
  tells_more j owed = tells _ (more-asked j (part-member _ _ j (part-or-right O (owed_of t S)) owed))

  -- and what is told of what the set may owe is told with it
  pub tells-on : (j : ℕ) → in_set (owed_of t S) j ≡ true → TellsMet t q S A (bit_or (bit_or O (2 ^ j)) (owed_of t S)) found
  tells-on j owed X among =
      tells X (part-trans X _ _ among
      (part-or _ (owed_of t S) _ (more-asked j (part-member _ _ j (part-or-right O (owed_of t S)) owed))
      (part-or-right O (owed_of t S))))

  module _ (proved : covers found O ≡ true) (k : ℕ) {lost : ℕ} (is : lost ≡ lacking_of found O (bit_or O (owed_of t S)) k) where
    -- each of them is one that the set may owe
    lost-shows : (j : ℕ) → in_set lost j ≡ true
        → (j < k) × (in_set (owed_of t S) j ≡ true) × (covers found (bit_or O (2 ^ j)) ≡ false)
    unfolding lacking_of is_lacking
    lost-shows j h =
        let all = sym (set_of-members _ k j) ∙ (rw is at h) in
        let both = and_second _ _ all in
        let unmet = not-true _ (and_second _ _ both) in
        (ltb-true j k (and_first _ _ all), owed unmet (and_first _ _ both), unmet)
      where
        owed : covers found (bit_or O (2 ^ j)) ≡ false → in_set (bit_or O (owed_of t S)) j ≡ true → in_set (owed_of t S) j ≡ true
        owed unmet there =
            or-either
            (λ already.
            let same = part-antisym _ O (part-or O (2 ^ j) O (part-refl O) (one-among j O already)) (part-or-left O (2 ^ j)) in
            absurd (false-true (sym unmet ∙ ap (covers found) same ∙ proved)))
            (λ own. own) (sym (in_set-or O (owed_of t S) j) ∙ there)

    pub lost-without : admits_to t q (without_all t S lost) A O k ≡ admits_to t q S A O k
    lost-without =
        admits-without t wf q S A O k lost (λ j h.
        let (l, owed, unmet) = lost-shows j h in
        (l, (owed-shows t wf S j owed).2, sym (tells_more j owed) ∙ unmet))

    -- and leaving their credentials out leaves fewer
    pub lost-less : (lost ≡ 0 → ⊥) → without_all t S lost < S
    lost-less some =
        let (j, member, again) = meets-common lost lost (meets-some lost lost (λ none. some (sym (and_self lost) ∙ none))) in
        without-less t S lost j member (owed-shows t wf S j (lost-shows j member).1).1

-- an automaton that is borne and demands some word is one that the set may owe
pub may_owe : (t : List ℕ) → WellFormed t → (S k : ℕ) → Borne t S k → (automaton t (suc (k - 1))).mark ≡ 1
    → in_set (owed_of t S) (k - 1) ≡ true
unfolding owed_of
may_owe t wf S k is marked =
    let (i, l, member, own) = automaton-shows t S (k - 1) is.borne in
    let there = (wf-credential t wf (suc i) (record { first = omega arith; last = l })).automaton in
    marked-reached t wf (automata_of t S) (k - 1) (omega (arith, own, there)) is.borne marked

-- one automaton, number k, is decided: where it is borne it is done without, or met by its mark
unfoldable pub spared : List ℕ → Query → ℕ → ℕ → ℕ → ℕ → Bool
spared t q S A O k = admits_to t q (without_all t S (2 ^ (k - 1))) A O (k - 1)

unfoldable demanded : List ℕ → Query → ℕ → ℕ → ℕ → ℕ → Bool
demanded t q S A O k = admits_to t q S (with_every t A (k - 1)) (with_owed t O (k - 1)) (k - 1)

-- nothing is left to decide
pub decided-last : (t : List ℕ) (q : Query) (S A O k : ℕ) → k ≡ 0 → true ≡ admits_by t q S A O k
unfolding admits_by
decided-last t q S A O k none = rw none

decided : (t : List ℕ) (q : Query) (S A O k : ℕ) → (k ≡ 0 → ⊥)
    → admits_by t q S A O k
    ≡ pick (in_set (automata_of t S) (k - 1)) (spared t q S A O k or demanded t q S A O k) (admits_by t q S A O (k - 1))
unfolding admits_by admits_to spared demanded
decided t q S A O zero there = absurd (there refl)
decided t q S A O (suc k) there = rw (sub-one (suc k))

module _ (t : List ℕ) (q : Query) (S A O k : ℕ) where
  pub decided-unborne : (k ≡ 0 → ⊥) → in_set (automata_of t S) (k - 1) ≡ false → admits_by t q S A O (k - 1) ≡ admits_by t q S A O k
  unfolding pick
  decided-unborne there none = rw (decided t q S A O k there, none)

  module _ (is : Borne t S k) where
    by-either : admits_by t q S A O k ≡ (spared t q S A O k or demanded t q S A O k)
    unfolding pick
    by-either = rw (decided t q S A O k is.some, is.borne)

    -- it demands some word, and the code holds what is owed with it as O'
    module _ (marked : (automaton t (suc (k - 1))).mark ≡ 1) {O' : ℕ} (owes : O' ≡ bit_or O (2 ^ (k - 1))) where
      demanded-some : demanded t q S A O k ≡ (provable t q S A O' and admits_by t q S A O' (k - 1))
      unfolding demanded with_every with_owed admits_to pick
      demanded-some = rw (eq-eqb _ 1 marked, owes)

      pub owes-met : provable t q S A O' ≡ true → admits_by t q S A O' (k - 1) ≡ true → true ≡ admits_by t q S A O k
      owes-met proved met = sym (by-either ∙ or-second _ (demanded-some ∙ and_both proved met))

      -- it is not met
      by-sparing : (provable t q S A O' and admits_by t q S A O' (k - 1)) ≡ false → spared t q S A O k ≡ admits_by t q S A O k
      by-sparing unmet =
          sym (by-either ∙ ap (λ x. spared t q S A O k or x) (demanded-some ∙ unmet) ∙ or-false (spared t q S A O k))

      pub owes-unproved : provable t q S A O' ≡ false → spared t q S A O k ≡ admits_by t q S A O k
      owes-unproved unmet = by-sparing (and-is-off _ unmet)

      pub owes-unmet : admits_by t q S A O' (k - 1) ≡ false → spared t q S A O k ≡ admits_by t q S A O k
      owes-unmet unmet = by-sparing (and_none _ unmet)

    -- it demands every word, and the code holds what is imposed with it as A'
    module _ (unmarked : eqb (automaton t (suc (k - 1))).mark 1 ≡ false) {A' : ℕ} (holds : A' ≡ bit_or A (2 ^ (k - 1))) where
      pub imposes-spared : spared t q S A O k ≡ true → true ≡ admits_by t q S A O k
      imposes-spared out = sym (by-either ∙ or-first _ out)

      pub imposes-met : spared t q S A O k ≡ false → admits_to t q S A' O (k - 1) ≡ admits_by t q S A O k
      unfolding demanded with_every with_owed pick
      imposes-met stays = sym (by-either ∙ sym (or_off stays) ∙ rw (unmarked, holds))

-- the code has left the credentials of automaton k out, and asked of the others
pub spared-told : (t : List ℕ) (q : Query) (S A O k : ℕ) {fewer : ℕ} {out : Bool} → fewer ≡ without_all t S (2 ^ (k - 1))
    → out ≡ admits_to t q fewer A O (k - 1) → out ≡ spared t q S A O k
unfolding spared
spared-told t q S A O k left told = told ∙ rw left

-- the set proves, or does not
module _ (t : List ℕ) (q : Query) (S A O k : ℕ) where
  pub to-unproved : provable t q S A O ≡ false → false ≡ admits_to t q S A O k
  unfolding admits_to
  to-unproved off = sym (and-is-off _ off)

  pub to-proved : provable t q S A O ≡ true → {on : Bool} → on ≡ admits_by t q S A O k → on ≡ admits_to t q S A O k
  unfolding admits_to
  to-proved proved e = sym (and_is proved (sym e))

-- nothing is imposed, and nothing can be owed
module _ (t : List ℕ) (q : Query) (S A O : ℕ) (free : bit_or A (bit_or O (owed_of t S)) ≡ 0) where
  none-asked : bit_or O (owed_of t S) ≡ 0
  none-asked = part_none _ _ free (part-or-right A (bit_or O (owed_of t S)))

  none-imposed : A ≡ 0
  none-imposed = part_none _ A free (part-or-left A (bit_or O (owed_of t S)))

  pub free-tells : provable t q S 0 0 ≡ true → (found : Family) → FamilyOf (eqb 0) found
      → TellsMet t q S A (bit_or O (owed_of t S)) found
  free-tells proved found only X inside =
      let nothing : X ≡ 0 = part_none _ X none-asked inside in
      covers-only found 0 (omega arith) only X ∙ rw (none-imposed, nothing) (part-zero 0 ∙ sym proved)

  same-proved : provable t q S 0 0 ≡ provable t q S A O
  same-proved =
      let none-owed : O ≡ 0 = part_none _ O none-asked (part-or-left O (owed_of t S)) in
      rw (none-imposed, none-owed)

  pub free-unproved : (k : ℕ) → provable t q S 0 0 ≡ false → false ≡ admits_to t q S A O k
  free-unproved k off = to-unproved t q S A O k (sym same-proved ∙ off)

  pub free-proved : (k : ℕ) → provable t q S 0 0 ≡ true → {on : Bool} → on ≡ admits_by t q S A O k → on ≡ admits_to t q S A O k
  free-proved k proved e = to-proved t q S A O k (sym same-proved ∙ proved) e

-- one automaton fewer is to be decided, on the same terms, or on others that ask more
module _ {r : Request} {rows : List ℕ} {terms : Terms} {marks k : ℕ} (u : Undecided r rows terms marks k) where
  abbrev t : List ℕ
  t = r.table.now

  wf : WellFormed t
  wf = r.prepared.well_formed

  pub undecided-next : Undecided r rows terms marks (k - 1)
  undecided-next =
      record {
        members = u.members;
        marks-are = u.marks-are;
        there = omega (arith, u.there);
        few = u.few;
      }

  pub undecided-with : {A O : ℕ} {more : Terms} → Asks terms A O more → O < all_sets
      → Undecided r rows more marks (k - 1)
  undecided-with asks few =
      record {
        members = rw (asks.allowed-is, asks.last-is) u.members;
        marks-are = u.marks-are;
        there = omega (arith, u.there);
        few = rw asks.owed-is few;
      }

  -- it may be sought what can be met of all that the set may owe, and what is found tells it
  module _ {all : Terms} (asks : Asks terms terms.constraints (bit_or terms.owed (owed_of t terms.allowed)) all) where
    pub may-seek : Members t all.allowed r.query.depth all.last rows × (all.owed < all_sets)
    may-seek = (
      rw (asks.allowed-is, asks.last-is) u.members,
      rw asks.owed-is (asked-few t wf terms.allowed terms.owed u.few),
    )

    pub sought : {found : Family} → TellsMet t r.query all.allowed all.constraints all.owed found
        → MetFound t r.query terms all.owed found
    sought tells = record { asked_is = asks.owed-is; tells = rw (asks.allowed-is, asks.every-is, asks.owed-is) at tells }

  -- there are no more than eight
  pub few-left : k ≤ most_automata
  few-left = omega (arith, u.there, wf.sized.counted.few_automata)

  pub owing-few : (k ≡ 0 → ⊥) → bit_or terms.owed (2 ^ (k - 1)) < all_sets
  owing-few some = or_lt 8 terms.owed (2 ^ (k - 1)) u.few (pow-lt {i = k - 1} {j = 8} (omega (arith, some, few-left)))

  -- what automaton k demands, by the marks
  module _ (some : k ≡ 0 → ⊥) where
    pub by-mark : in_set marks (k - 1) ≡ true → (automaton t (suc (k - 1))).mark ≡ 1
    by-mark h = (marked-shows t wf all_automata (k - 1) (rw u.marks-are at h)).2

    pub by-no-mark : in_set marks (k - 1) ≡ false → eqb (automaton t (suc (k - 1))).mark 1 ≡ false
    by-no-mark h =
        let l : k - 1 < automata t = omega (arith, some, u.there) in
        refuted _ (λ one.
        false-true (sym (rw u.marks-are at h)
        ∙ marked-reached t wf all_automata (k - 1) l (all_there t wf (k - 1) l) (eqb-true _ 1 one)))

-- what can be met is known on the terms that owe automaton k too
pub known-with : {t : List ℕ} → WellFormed t → {q : Query} {terms more : Terms} {borne : ℕ} {found : Family} {k : ℕ}
    → Known t q terms borne found → Borne t terms.allowed k → (automaton t (suc (k - 1))).mark ≡ 1
    → Asks terms terms.constraints (bit_or terms.owed (2 ^ (k - 1))) more → Known t q more borne found
known-with {t} wf {q} {terms} {more} {borne} {found} {k} known is marked asks =
    record {
      bears = rw asks.allowed-is known.bears;
      tells =
          rw (asks.allowed-is, asks.every-is, asks.owed-is)
          (tells-on t wf q terms.allowed terms.constraints terms.owed found known.tells (k - 1) (may_owe t wf _ k is marked));
    }
