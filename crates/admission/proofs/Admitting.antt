-- Deciding automaton by automaton is exact: a derivation that complies either names no credential that bears the automaton, and
-- then it does without, or its words are what the automaton demands by its mark. So the used set of an accepted record admits,
-- and a set that does has such a used set as a part.
use mathlib.Core.Path.{◌≡◌, refl, sym, ◌∙◌}
use mathlib.Core.List.{List, [], ◌∷◌}
use mathlib.Core.Bool.{Bool, true, false}
use mathlib.Core.Logic.{◌↔◌}
use Prim.Native.Nat.{ℕ, zero, suc, ◌-◌, ◌^◌, ◌<◌}
use native.Mathlib.Omega.{arith}
use native.Mathlib.Numerals.{sub-one}
use native.Mathlib.Decide.{ℕ_discrete}
use lib.Bits.{bit_or}
use lib.Dec.{eqb}
use borrow.Author.Tests.{eqb-true}
use Rattle.table.specs.Layout.{automata, automaton, credential, credentials}
use Rattle.table.specs.Holding.{WellFormed}
use Rattle.table.specs.declared.Role.{Role}
use Rattle.table.specs.declared.Goal.{Goal}
use Rattle.table.specs.declared.Query.{Query}
use Rattle.table.proofs.WellFormed.{wf-credential}
use Rattle.sets.specs.Logic.{◌and◌, ◌or◌, pick}
use Rattle.sets.specs.Sets.{in_set, part}
use Rattle.sets.proofs.Tests.{and_both, and_first, and_second, false-true, or-either, or-first, or-second, refuted, same_test}
use Rattle.sets.proofs.Members.{in_set-or, in_set-pow, in_set-zero, members-below, own-bit, part-member}
use Rattle.sets.proofs.Members.{part-or-left, part-or-right, part-refl, part-shown}
use Rattle.derivation.specs.Forest.{Derives, Forest, names, used_set, written}
use Rattle.derivation.specs.Rules.{goal_of}
use Rattle.derivation.specs.Words.{Complies, accepts_all, accepts_some, demanded_by, is_met, uses_automaton, words}
use Rattle.attached.specs.Attached.{automata_of}
use Rattle.derivation.specs.Accepted.{Accepted}
use Rattle.search.specs.Search.{AllAccept, SomeAccept, UsesOnly, provable}
use Rattle.settling.specs.Settling.{among, without_all}
use Rattle.settling.proofs.Leaving.{among-reached, among-shows, without-part, without-reached, without-shows}
use Rattle.admission.specs.Admits.{Admits, admits, admits_by, admits_to, with_every, with_owed}
use Rattle.derivation.proofs.Using.{automaton-imposed, named-numbered, placed}
use Rattle.derivation.proofs.Using.{used-at, used-named, uses-reached, uses-shows}
use Rattle.search.proofs.Searching.{provable-by, provable-exact}

-- those that are owed, or those that are imposed, as the mark of automaton j + 1 asks
unfoldable pub demanding : List ℕ → ℕ → ℕ → ℕ → ℕ
demanding t A O j = pick (eqb (automaton t (suc j)).mark 1) O A

module _ (t : List ℕ) {l : ℕ} {b gs : List Goal} {f : Forest} (d : Derives t l b gs f) where
  -- a credential of the used set is named
  pub used-shows : (i : ℕ) → in_set (used_set f) i ≡ true → names f (suc i) ≡ true
  used-shows i h = sym (used-at t l b gs f d i) ∙ h

  -- a forest uses only credentials of a set exactly where its used set is a part of it
  pub used-part : (S : ℕ) → UsesOnly f S → part (used_set f) S ≡ true
  used-part S only = part-shown (used_set f) S (λ i h. rw sub-one at (only (suc i) (used-shows i h)))

  pub part-used : (S : ℕ) → part (used_set f) S ≡ true → UsesOnly f S
  part-used S among c named = part-member (used_set f) S (c - 1) among (used-named t l b gs f d c named)

  -- a forest within a set complies, where each automaton of the set is imposed or owed as its mark asks, and all are met
  pub accepts-complies : (S A O : ℕ) → UsesOnly f S → ((j : ℕ) → in_set (automata_of t S) j ≡ true → in_set (demanding t A O j) j ≡ true)
      → AllAccept t A (words t [] f) → SomeAccept t O (words t [] f) → Complies t f
  unfolding demanded_by demanding pick
  accepts-complies S A O only settled all some c named constrained =
      let k = (credential t c).automaton in
      let next : suc (k - 1) ≡ k = omega arith in
      let here = settled (k - 1) (automaton-imposed t S c (named-numbered t d c named) (only c named) (sym next)) in
      rw next at (go (k - 1) (eqb (automaton t (suc (k - 1))).mark 1) here)
    where
      go : (j : ℕ) (b : Bool) → in_set (pick b O A) j ≡ true
          → pick b (accepts_some t (suc j) (words t [] f)) (accepts_all t (suc j) (words t [] f)) ≡ true
      go j true owed = some j owed
      go j false imposed = all j imposed

-- what holds of each of X, and of k, holds of each of both
one_more : {P : ℕ → Type 0} (X k : ℕ) → ((j : ℕ) → in_set X j ≡ true → P j) → P k
    → (j : ℕ) → in_set (bit_or X (2 ^ k)) j ≡ true → P j
one_more X k all here j h =
    or-either (all j) (λ one. rw (eqb-true k j (sym (in_set-pow k j) ∙ one)) at here) (sym (in_set-or X (2 ^ k) j) ∙ h)

-- with automaton k + 1 each set has what it had
module _ (t : List ℕ) (A O k : ℕ) where
  every_more : part A (with_every t A k) ≡ true
  unfolding with_every pick
  every_more = go (eqb (automaton t (suc k)).mark 1)
    where
      go : (b : Bool) → part A (pick b A (bit_or A (2 ^ k))) ≡ true
      go true = part-refl A
      go false = part-or-left A (2 ^ k)

  owed_more : part O (with_owed t O k) ≡ true
  unfolding with_owed pick
  owed_more = go (eqb (automaton t (suc k)).mark 1)
    where
      go : (b : Bool) → part O (pick b (bit_or O (2 ^ k)) O) ≡ true
      go true = part-or-left O (2 ^ k)
      go false = part-refl O

  -- whose words meet what it demands then, meet what it demands
  demanded-met : (ws : List (List Role)) → AllAccept t (with_every t A k) ws → SomeAccept t (with_owed t O k) ws
      → is_met t (suc k) ws ≡ true
  unfolding demanded_by with_every with_owed pick
  demanded-met ws all some = go (eqb (automaton t (suc k)).mark 1) all some
    where
      has : (X : ℕ) → in_set (bit_or X (2 ^ k)) k ≡ true
      has X = part-member (2 ^ k) (bit_or X (2 ^ k)) k (part-or-right X (2 ^ k)) (own-bit k)

      go : (b : Bool) → AllAccept t (pick b A (bit_or A (2 ^ k))) ws → SomeAccept t (pick b (bit_or O (2 ^ k)) O) ws
          → pick b (accepts_some t (suc k) ws) (accepts_all t (suc k) ws) ≡ true
      go true every some = some k (has O)
      go false every some = every k (has A)

  met-demanded : (ws : List (List Role)) → AllAccept t A ws → SomeAccept t O ws → is_met t (suc k) ws ≡ true
      → AllAccept t (with_every t A k) ws × SomeAccept t (with_owed t O k) ws
  unfolding demanded_by with_every with_owed pick
  met-demanded ws all some met = go (eqb (automaton t (suc k)).mark 1) met
    where
      go : (b : Bool) → pick b (accepts_some t (suc k) ws) (accepts_all t (suc k) ws) ≡ true
          → AllAccept t (pick b A (bit_or A (2 ^ k))) ws × SomeAccept t (pick b (bit_or O (2 ^ k)) O) ws
      go true met = (all, one_more {P = λ j. accepts_some t (suc j) ws ≡ true} O k some met)
      go false met = (one_more {P = λ j. accepts_all t (suc j) ws ≡ true} A k all met, some)

-- a choice that holds, by the test that made it; and one between two that hold
pick-either : {A : Type 0} (b : Bool) {x y : Bool} → (x ≡ true → A) → (b ≡ false → y ≡ true → A) → pick b x y ≡ true → A
unfolding pick
pick-either true f g h = f h
pick-either false f g h = g refl h

pick-both : (b : Bool) {x y : Bool} → x ≡ true → y ≡ true → pick b x y ≡ true
unfolding pick
pick-both true h l = h
pick-both false h l = l

-- the automaton is one of the first k, and where the forest uses it, its words are what it demands
abbrev MeetsTo : List ℕ → Forest → ℕ → Type 0
MeetsTo t f k = (j : ℕ) → j < k → uses_automaton t f (suc j) ≡ true → is_met t (suc j) (words t [] f) ≡ true

meets-next : (t : List ℕ) (f : Forest) (k : ℕ) → MeetsTo t f k
    → (uses_automaton t f (suc k) ≡ true → is_met t (suc k) (words t [] f) ≡ true) → MeetsTo t f (suc k)
meets-next t f k before here j l = go (ℕ_discrete j k)
  where
    go : Dec (j ≡ k) → uses_automaton t f (suc j) ≡ true → is_met t (suc j) (words t [] f) ≡ true
    go (yes e) = rw e here
    go (no other) = before j (omega arith)

-- a derivation that uses only S, whose words are accepted by each of A and meet O, and which complies with the first k automata
record AdmitsTo (t : List ℕ) (q : Query) (S A O k : ℕ) : Type 0 where
  forest : Forest
  derives : Derives t q.depth [] (goal_of q ∷ []) forest
  uses_only : UsesOnly forest S
  accepted : AllAccept t A (words t [] forest)
  owed : SomeAccept t O (words t [] forest)
  meets : MeetsTo t forest k

-- a derivation within a set
module _ (t : List ℕ) {l : ℕ} {b gs : List Goal} {f : Forest} (d : Derives t l b gs f) (S : ℕ) (only : UsesOnly f S) where
  -- which uses no automaton of L does without their credentials
  only-without : (L : ℕ) → ((j : ℕ) → in_set L j ≡ true → uses_automaton t f (suc j) ≡ false) → UsesOnly f (without_all t S L)
  only-without L unused c named =
      let at = placed (named-numbered t d c named) in
      let x = (credential t c).automaton in
      let other : among L x ≡ false =
      refuted _ (λ own.
      let (some, member) = among-shows L x own in
      false-true (sym (unused (x - 1) member) ∙ uses-reached t (suc (x - 1)) f c named (omega (arith, some)))) in
      without-reached t S L (c - 1) at.0 (only c named) (rw at.1 other)

  -- and what it uses is borne by the set
  used-borne : (k : ℕ) → uses_automaton t f (suc k) ≡ true → in_set (automata_of t S) k ≡ true
  used-borne k used =
      let by = uses-shows t (suc k) f used in
      automaton-imposed t S by.0 (named-numbered t d by.0 by.1) (only by.0 by.1) by.2

-- a derivation without the credentials that bear an automaton does not use it
without-unused : (t : List ℕ) {l : ℕ} {b gs : List Goal} {f : Forest} → Derives t l b gs f → (S k : ℕ)
    → UsesOnly f (without_all t S (2 ^ k)) → uses_automaton t f (suc k) ≡ true → ⊥
without-unused t {f = f} d S k only used =
    let by = uses-shows t (suc k) f used in
    let at = placed (named-numbered t d by.0 by.1) in
    let left = (without-shows t S (2 ^ k) (by.0 - 1) (only by.0 by.1)).1 in
    false-true (sym (rw (at.1, by.2) at left) ∙ among-reached (2 ^ k) k (own-bit k))

module _ (t : List ℕ) (wf : WellFormed t) (q : Query) where
  -- what is decided of the first k automata is a derivation that complies with them
  to-shown : (k S A O : ℕ) → provable t q S A O ≡ true → admits_by t q S A O k ≡ true → AdmitsTo t q S A O k
  unfolding admits_by
  to-shown zero S A O proved h =
      let p = (provable-exact t wf q S A O).0 proved in
      record {
        forest = p.forest;
        derives = p.derives;
        uses_only = p.uses_only;
        accepted = p.accepted;
        owed = p.owed;
        meets = λ j l. absurd (omega (arith, l));
      }
  to-shown (suc k) S A O proved h =
      pick-either (in_set (automata_of t S) k)
      (or-either
      (λ out. spared (to-shown k (without_all t S (2 ^ k)) A O (and_first _ _ out) (and_second _ _ out)))
      (λ in'. imposed (to-shown k S (with_every t A k) (with_owed t O k) (and_first _ _ in') (and_second _ _ in'))))
      (λ none left. unborne none (to-shown k S A O proved left)) h
    where
      spared : AdmitsTo t q (without_all t S (2 ^ k)) A O k → AdmitsTo t q S A O (suc k)
      spared a =
          record {
            forest = a.forest;
            derives = a.derives;
            uses_only = λ c named. part-member _ S (c - 1) (without-part t S (2 ^ k)) (a.uses_only c named);
            accepted = a.accepted;
            owed = a.owed;
            meets = meets-next t a.forest k a.meets (λ used. absurd (without-unused t a.derives S k a.uses_only used));
          }

      imposed : AdmitsTo t q S (with_every t A k) (with_owed t O k) k → AdmitsTo t q S A O (suc k)
      imposed a =
          record {
            forest = a.forest;
            derives = a.derives;
            uses_only = a.uses_only;
            accepted = λ j h. a.accepted j (part-member A _ j (every_more t A O k) h);
            owed = λ j h. a.owed j (part-member O _ j (owed_more t A O k) h);
            meets = meets-next t a.forest k a.meets
                (λ used. demanded-met t A O k (words t [] a.forest) a.accepted a.owed);
          }

      unborne : in_set (automata_of t S) k ≡ false → AdmitsTo t q S A O k → AdmitsTo t q S A O (suc k)
      unborne none a =
          record {
            forest = a.forest;
            derives = a.derives;
            uses_only = a.uses_only;
            accepted = a.accepted;
            owed = a.owed;
            meets = meets-next t a.forest k a.meets
                (λ used. absurd (false-true (sym none ∙ used-borne t a.derives S a.uses_only k used)));
          }

  -- a derivation that complies with them is found
  module _ {f : Forest} (d : Derives t q.depth [] (goal_of q ∷ []) f) where
    found-by : (k S A O : ℕ) → UsesOnly f S → AllAccept t A (words t [] f) → SomeAccept t O (words t [] f) → MeetsTo t f k
        → admits_by t q S A O k ≡ true
    unfolding admits_by
    found-by zero S A O only all some meets = refl
    found-by (suc k) S A O only all some meets =
        pick-both _ (go (uses_automaton t f (suc k)) refl (λ S A O only all some. found-by k S A O only all some fewer))
        (found-by k S A O only all some fewer)
      where
        fewer : MeetsTo t f k
        fewer j l = meets j (omega arith)

        left : ℕ
        left = without_all t S (2 ^ k)

        every : ℕ
        every = with_every t A k

        owed : ℕ
        owed = with_owed t O k

        go : (b : Bool) → uses_automaton t f (suc k) ≡ b
            → ((S A O : ℕ) → UsesOnly f S → AllAccept t A (words t [] f) → SomeAccept t O (words t [] f)
            → admits_by t q S A O k ≡ true)
            → ((provable t q left A O and admits_by t q left A O k) or (provable t q S every owed and admits_by t q S every owed k))
            ≡ true
        go true used decided =
            let met = met-demanded t A O k (words t [] f) all some (meets k (omega arith) used) in
            or-second _ (and_both (provable-by t wf q S every owed d only met.0 met.1) (decided S every owed only met.0 met.1))
        go false unused decided =
            let one : (j : ℕ) → in_set (2 ^ k) j ≡ true → uses_automaton t f (suc j) ≡ false =
            λ j h. rw (← eqb-true k j (sym (in_set-pow k j) ∙ h)) unused in
            let kept = only-without t d S only (2 ^ k) one in
            or-first _ (and_both (provable-by t wf q left A O d kept all some) (decided left A O kept all some))

  to-exact : (S A O k : ℕ) → (admits_to t q S A O k ≡ true) ↔ AdmitsTo t q S A O k
  unfolding admits_to
  to-exact S A O k = (
    (λ h. to-shown k S A O (and_first _ _ h) (and_second _ _ h)),
    (λ a. and_both (provable-by t wf q S A O a.derives a.uses_only a.accepted a.owed)
        (found-by a.derives k S A O a.uses_only a.accepted a.owed a.meets)),
  )

  -- automata that demand some word and cannot be met beside O are done without
  pub admits-without : (S A O k L : ℕ)
      → ((j : ℕ) → in_set L j ≡ true
      → (j < k) × ((automaton t (suc j)).mark ≡ 1) × (provable t q S A (bit_or O (2 ^ j)) ≡ false))
      → admits_to t q (without_all t S L) A O k ≡ admits_to t q S A O k
  unfolding demanded_by pick
  admits-without S A O k L lost = same_test _ _ on back
    where
      on : admits_to t q (without_all t S L) A O k ≡ true → admits_to t q S A O k ≡ true
      on h =
          let a = (to-exact (without_all t S L) A O k).0 h in
          (to-exact S A O k).1 (record {
            forest = a.forest;
            derives = a.derives;
            uses_only = λ c named. part-member _ S (c - 1) (without-part t S L) (a.uses_only c named);
            accepted = a.accepted;
            owed = a.owed;
            meets = a.meets;
          })

      unused : (a : AdmitsTo t q S A O k) (j : ℕ) → in_set L j ≡ true → uses_automaton t a.forest (suc j) ≡ false
      unused a j member =
          let (l, mark, unmet) = lost j member in
          refuted _ (λ used.
          let met = rw mark at (a.meets j l used) in
          let some = one_more {P = λ i. accepts_some t (suc i) (words t [] a.forest) ≡ true} O j a.owed met in
          false-true (sym unmet ∙ provable-by t wf q S A (bit_or O (2 ^ j)) a.derives a.uses_only a.accepted some))

      back : admits_to t q S A O k ≡ true → admits_to t q (without_all t S L) A O k ≡ true
      back h =
          let a = (to-exact S A O k).0 h in
          (to-exact (without_all t S L) A O k).1 (record {
            forest = a.forest;
            derives = a.derives;
            uses_only = only-without t a.derives S a.uses_only L (unused a);
            accepted = a.accepted;
            owed = a.owed;
            meets = a.meets;
          })

  -- more credentials admit no less
  admits-more : (S S' : ℕ) → part S S' ≡ true → Admits t q S → Admits t q S'
  admits-more S S' more a =
      record {
        forest = a.forest;
        derives = a.derives;
        uses_only = λ c named. part-member S S' (c - 1) more (a.uses_only c named);
        complies = a.complies;
      }

  pub admits-exact : (S : ℕ) → (admits t q S ≡ true) ↔ Admits t q S
  unfolding admits
  admits-exact S = (
    (λ h.
        let a = (to-exact S 0 0 (automata t)).0 h in
        record {
          forest = a.forest;
          derives = a.derives;
          uses_only = a.uses_only;
          complies = λ c named constrained.
              let k = (credential t c).automaton in
              let next : suc (k - 1) ≡ k = omega (arith, constrained) in
              let there = (wf-credential t wf c (named-numbered t a.derives c named)).automaton in
              rw next at (a.meets (k - 1) (omega (arith, there, constrained))
              (uses-reached t (suc (k - 1)) a.forest c named (sym next)));
        }),
    (λ a.
        let f = a.forest in
        (to-exact S 0 0 (automata t)).1 (record {
          forest = f;
          derives = a.derives;
          uses_only = a.uses_only;
          accepted = λ k h. absurd (false-true (sym (in_set-zero k) ∙ h));
          owed = λ k h. absurd (false-true (sym (in_set-zero k) ∙ h));
          meets = λ j l used.
              let by = uses-shows t (suc j) f used in
              rw (← by.2) (a.complies by.0 by.1 (λ z. omega (arith, z, by.2)));
        })),
  )

  pub admits-mono : (S S' : ℕ) → part S S' ≡ true → admits t q S ≡ true → admits t q S' ≡ true
  admits-mono S S' more h = (admits-exact S').1 (admits-more S S' more ((admits-exact S).0 h))

  -- the used set of an accepted record admits, and a set that does has such a record's used set as a part
  pub accepted-admits : (rec : List ℕ) (S : ℕ) → Accepted t q rec S → admits t q S ≡ true
  accepted-admits rec S a =
      let d = a.derives in
      let only = part-used t d S (rw a.uses (part-refl S)) in
      (admits-exact S).1 (record { forest = a.forest; derives = d; uses_only = only; complies = a.complies })

  pub admits-accepted : (S : ℕ) → admits t q S ≡ true → (rec : List ℕ) × (T : ℕ) × Accepted t q rec T × (part T S ≡ true)
  admits-accepted S h =
      let a = (admits-exact S).0 h in (
        written a.forest,
        used_set a.forest,
        record { forest = a.forest; derives = a.derives; whole = refl; complies = a.complies; uses = refl },
        used-part t a.derives S a.uses_only,
      )

-- a used set has credentials of the table alone
pub accepted-fits : (t : List ℕ) (q : Query) (rec : List ℕ) (S : ℕ) → Accepted t q rec S → S < 2 ^ credentials t
accepted-fits t q rec S a =
    members-below S (credentials t)
    (λ i h.
    let d = a.derives in
    (named-numbered t d (suc i) (used-shows t d i (rw a.uses h))).last)
