-- The search decides `Provable`: it finds a derivation exactly where there is one that uses only credentials of the set, whose
-- words every imposed automaton accepts, and some word of which each owed one does. That it tries only principals whom a simple membership names as middles loses nothing
-- (Naming.antt), nor that it keeps the branch as pairs of places (members, proofs/Branching.antt).
use mathlib.Core.Path.{◌≡◌, refl, sym, ◌∙◌}
use mathlib.Core.List.{List, [], ◌∷◌, ◌++◌}
use mathlib.Core.Bool.{Bool, true, false, not}
use mathlib.Core.Option.{Option, none, some}
use mathlib.Core.Logic.{◌↔◌}
use Prim.Native.Nat.{ℕ, zero, suc, ◌-◌, ◌^◌, ◌≤◌, ◌<◌}
use native.Mathlib.Omega.{arith}
use native.Mathlib.Numerals.{sub-one}
use native.Mathlib.Decide.{dec_lt}
use native.Mathlib.Nat.{pow-suc}
use lib.ListN.{length}
use lib.Bits.{bit_or}
use lib.Dec.{eqb}
use borrow.Author.Tests.{eq-eqb, eqb-true, ne_eqb, lt-leb, le-leb, le-ltb, lt-ltb}
use Rattle.sets.specs.Logic.{◌and◌, any_below, pick}
use Rattle.table.specs.Layout.{automata, credential, credentials}
use Rattle.table.specs.Holding.{WellFormed}
use Rattle.table.specs.Checks.{within}
use Rattle.table.specs.declared.Role.{Role}
use Rattle.table.specs.declared.Goal.{Goal}
use Rattle.table.specs.declared.Query.{Query}
use Rattle.sets.proofs.Tests.{and_both, and_first, and_second, and-true, any-reached, any-shows, false-true}
use Rattle.sets.proofs.Tests.{or-either, or-false, or-first, or-second, refuted, same_test}
use Rattle.sets.specs.Sets.{in_set, meets, part, set_of}
use Rattle.automata.specs.Automata.{accepts, accepts_from, starting}
use Rattle.automata.specs.Together.{accepting_set, starting_sets}
use Rattle.automata.specs.declared.StateSets.{StateSets}
use Rattle.sets.proofs.Members.{in_set-or, in_set-zero, one-among, part-le, part-member, part-or-left, part-or-right}
use Rattle.sets.proofs.Members.{part-shown, same-members, set_of-members}
use Rattle.automata.proofs.Moves.{run-empty}
use Rattle.derivation.specs.Rules.{fresh, goal_of, premises}
use Rattle.derivation.specs.Forest.{Derives, Forest, names}
use Rattle.derivation.specs.Forest.Forest.{end, node}
use Rattle.derivation.specs.Forest.DerivesBy.{done, step}
use Rattle.derivation.specs.Words.{accepts_some, every_word, some_word, words, words_by}
use Rattle.members.specs.Places.{is_person}
use Rattle.members.specs.Above.{is_above, nothing_above, with_goal}
use Rattle.members.specs.declared.above.Above.{Above}
use Rattle.members.specs.Trying.{may_use, proved_premises, proves_by}
use Rattle.members.proofs.Places.{role-defined}
use Rattle.members.proofs.Branching.{HasPlace, OnBranch, on-next, on_none}
use Rattle.goals.specs.Goals.{stepped}
use Rattle.search.specs.Search.{AllAccept, Provable, SomeAccept, UsesOnly, ends, provable, proves, shares}
use Rattle.derivation.proofs.Applying.{applies-defines, applies-numbered, applies-role, asks-more}
use Rattle.derivation.proofs.Ruling.{asks_nothing}
use Rattle.derivation.proofs.Using.{placed}
use Rattle.derivation.proofs.Running.{accepting-member, accepts-all-append, accepts-some-append, sets-after-next}
use Rattle.derivation.proofs.Running.{sets-after-none, sets_after}
use Rattle.search.proofs.Naming.{IsMiddle, goal-named, middle-tried, tried-proves}
use Rattle.search.proofs.Within.{only_below, only_here, only-later, only-node}
use Rattle.search.proofs.Sharing.{shares-alone, shares-reached, shares-shows}
use Rattle.search.proofs.Owing.{proves-less}

-- an automaton that the table does not have starts in no state, so it accepts no word
rejects-all : (t : List ℕ) (k : ℕ) (word : List Role) → automata t ≤ k → accepts t (suc k) word ≡ false
unfolding accepts accepts_from starting within ◌and◌ pick meets
rejects-all t k word beyond =
    rw (le-leb 1 (suc k) (omega arith), lt-leb (suc k) (automata t) (omega arith), run-empty t (suc k) word)

-- the automata that accept where a word has led them are those that accept the word
pub accepting-exact : (t : List ℕ) → WellFormed t → (word : List Role) (k : ℕ)
    → in_set (accepting_set t (sets_after t word)) k ≡ accepts t (suc k) word
unfolding accepting_set ◌and◌
accepting-exact t wf word k = go (dec_lt k (automata t))
  where
    go : Dec (k < automata t) → in_set (accepting_set t (sets_after t word)) k ≡ accepts t (suc k) word
    go (yes there) =
        let few = wf.sized.counted.few_automata in
        rw sub-one at (accepting-member t (suc k) (record { first = omega arith; last = there }) few word)
    go (no beyond) =
        set_of-members _ (automata t) k ∙ rw (le-ltb k (automata t) (omega arith), rejects-all t k word (omega arith))

-- where automata are asked for, they have come to the state sets s along the word
abbrev pub Led : List ℕ → ℕ → StateSets → List Role → Type 0
Led t W s word = (W ≡ 0 → ⊥) → s ≡ sets_after t word

pub led_on : (t : List ℕ) (W : ℕ) (s : StateSets) (w : List Role) (r : Role) → Led t W s w
    → Led t W (stepped t W r s) (w ++ (r ∷ []))
unfolding stepped pick
led_on t W s w r led asked = rw (ne_eqb W 0 asked, led asked) (sets-after-next t w r)

-- an imposed automaton is one of some
pub some-imposed : (A k : ℕ) → in_set A k ≡ true → A ≡ 0 → ⊥
some-imposed A k h empty = false-true (sym (in_set-zero k) ∙ rw empty at h)

-- where something is imposed or owed, and no more is owed than O, automata are asked for
pub demanded-asked : (A O X k : ℕ) → X ≤ O → in_set (bit_or A X) k ≡ true → bit_or A O ≡ 0 → ⊥
demanded-asked A O X k few demanded empty =
    or-either
    (λ imposed. some-imposed (bit_or A O) k (in_set-or A O k ∙ or-first _ imposed) empty)
    (λ owed.
    let nothing = part-le O 0 (rw empty at (part-or-right A O)) in
    let unowed : X ≡ 0 = omega arith in
    some-imposed X k owed unowed)
    (sym (in_set-or A X k) ∙ demanded)

-- a word ends, where the automata of A are imposed and those of X owed, no more than O
module _ (t : List ℕ) (wf : WellFormed t) (A O X : ℕ) (few : X ≤ O) (s : StateSets) (word : List Role)
    (led : Led t (bit_or A O) s word) where
  led-accepts : (k : ℕ) → in_set (bit_or A X) k ≡ true → in_set (accepting_set t s) k ≡ accepts t (suc k) word
  led-accepts k h = rw (led (demanded-asked A O X k few h)) (accepting-exact t wf word k)

  pub one_word : ends t A s X ≡ true → AllAccept t A (word ∷ []) × SomeAccept t X (word ∷ [])
  unfolding ends every_word some_word
  one_word all =
      let each : (k : ℕ) → in_set (bit_or A X) k ≡ true → accepts t (suc k) word ≡ true =
      λ k h. sym (led-accepts k h) ∙ part-member (bit_or A X) _ k all h in (
        (λ k h. and-true _ ∙ each k (in_set-or A X k ∙ or-first _ h)),
        (λ k h. or-first _ (each k (in_set-or A X k ∙ or-second _ h))),
      )

  one-word-demanded : AllAccept t A (word ∷ []) → SomeAccept t X (word ∷ []) → ends t A s X ≡ true
  unfolding ends every_word some_word
  one-word-demanded all met =
      part-shown (bit_or A X) _ (λ k h. led-accepts k h ∙
      or-either (λ imposed. sym (and-true _) ∙ all k imposed) (λ owed. sym (or-false _) ∙ met k owed)
      (sym (in_set-or A X k) ∙ h))

module _ (t : List ℕ) (A : ℕ) (ws more : List (List Role)) where
  pub accept-both : AllAccept t A ws → AllAccept t A more → AllAccept t A (ws ++ more)
  accept-both here later k h = accepts-all-append t (suc k) ws more ∙ and_both (here k h) (later k h)

  accept-first : AllAccept t A (ws ++ more) → AllAccept t A ws
  accept-first all k h = and_first _ _ (sym (accepts-all-append t (suc k) ws more) ∙ all k h)

  accept-second : AllAccept t A (ws ++ more) → AllAccept t A more
  accept-second all k h = and_second _ _ (sym (accepts-all-append t (suc k) ws more) ∙ all k h)

-- what one part of the words meets and what the other does, together
module _ (t : List ℕ) (ws more : List (List Role)) where
  some-both : (X Y Z : ℕ) → part X (bit_or Y Z) ≡ true → SomeAccept t Y ws → SomeAccept t Z more → SomeAccept t X (ws ++ more)
  some-both X Y Z all here later k h =
      accepts-some-append t (suc k) ws more
      ∙ or-either (λ first. or-first _ (here k first)) (λ second. or-second _ (later k second))
      (sym (in_set-or Y Z k) ∙ part-member X _ k all h)

less-pow : (n : ℕ) → n < 2 ^ n
less-pow zero = omega arith
less-pow (suc n) = let less = less-pow n in omega (arith, pow-suc 2 n)

-- those of X that accept some of the words
unfoldable pub met_by : List ℕ → ℕ → List (List Role) → ℕ
met_by t X ws = set_of (λ k. in_set X k and accepts_some t (suc k) ws) X

module _ (t : List ℕ) (X : ℕ) (ws : List (List Role)) where
  pub met-accepts : SomeAccept t (met_by t X ws) ws
  unfolding met_by
  met-accepts k h = and_second _ _ (and_second _ _ (sym (set_of-members _ X k) ∙ h))

  pub met-few : part (met_by t X ws) X ≡ true
  unfolding met_by
  met-few = part-shown _ X (λ k h. and_first _ _ (and_second _ _ (sym (set_of-members _ X k) ∙ h)))

  pub met_has : (k : ℕ) → in_set X k ≡ true → accepts_some t (suc k) ws ≡ true → in_set (met_by t X ws) k ≡ true
  unfolding met_by
  met_has k h accepted =
      let less = part-le (2 ^ k) X (one-among k X h) in
      set_of-members _ X k ∙ and_both (lt-ltb k X (omega (arith, less-pow k))) (and_both h accepted)

-- what is owed of all words is shared out between two parts of them
pub met-shared : (t : List ℕ) (X : ℕ) (ws more : List (List Role)) → SomeAccept t X (ws ++ more)
    → part X (bit_or (met_by t X ws) (met_by t X more)) ≡ true
met-shared t X ws more met =
    part-shown X _ (λ k h.
    in_set-or (met_by t X ws) (met_by t X more) k
    ∙ or-either (λ first. or-first _ (met_has t X ws k h first)) (λ second. or-second _ (met_has t X more k h second))
    (sym (accepts-some-append t (suc k) ws more) ∙ met k h))

-- the words of a node: its own where it asks nothing, and otherwise those of its children
unfoldable pub node_words : List ℕ → List Goal → List Role → Forest → List (List Role)
node_words t goals word children = pick (eqb (length goals) 0) (word ∷ []) (words t word children)

pub node-words : (t : List ℕ) → WellFormed t → (g : Goal) (c m : ℕ) (goals : List Goal) → premises t g c m ≡ some goals
    → (w : List Role) (children siblings : Forest)
    → words t w (node c m children siblings) ≡ (node_words t goals (w ++ (g.role ∷ [])) children ++ words t w siblings)
unfolding words_by node_words pick
node-words t wf g c m [] applies w children siblings =
    rw (asks_nothing t wf g c m applies, applies-role t g c m [] applies)
node-words t wf g c m (h ∷ goals) applies w children siblings =
    rw (
      applies-role t g c m (h ∷ goals) applies,
      ne_eqb (credential t c).kind 1 (asks-more t g c m h goals applies),
      ne_eqb (suc (length goals)) 0 (λ e. omega arith),
    )

pub words-split : (t : List ℕ) → WellFormed t → (A : ℕ) (g : Goal) (c m : ℕ) (goals : List Goal) → premises t g c m ≡ some goals
    → (w : List Role) (children siblings : Forest) → AllAccept t A (words t w (node c m children siblings))
    → AllAccept t A (node_words t goals (w ++ (g.role ∷ [])) children) × AllAccept t A (words t w siblings)
words-split t wf A g c m goals applies w children siblings all =
    let own = node_words t goals (w ++ (g.role ∷ [])) children in
    let both = rw (node-words t wf g c m goals applies w children siblings) at all in
    (accept-first t A own (words t w siblings) both, accept-second t A own (words t w siblings) both)

-- the words of a node alone
pub words-alone : (t : List ℕ) → WellFormed t → (Y : ℕ) (g : Goal) (c m : ℕ) (goals : List Goal) → premises t g c m ≡ some goals
    → (w : List Role) (children siblings : Forest) {levels : ℕ} {branch : List Goal} → Derives t levels branch [] siblings
    → SomeAccept t Y (words t w (node c m children siblings))
    → SomeAccept t Y (node_words t goals (w ++ (g.role ∷ [])) children)
unfolding words_by some_word
words-alone t wf Y g c m goals applies w children siblings done met k h =
    sym (or-false _)
    ∙ sym (accepts-some-append t (suc k) (node_words t goals (w ++ (g.role ∷ [])) children) [])
    ∙ rw (node-words t wf g c m goals applies w children siblings) at (met k h)

-- a goal that is derived through a credential has a place: the credential defines its role, and some simple membership names its
-- principal
pub has-place : {t : List ℕ} → WellFormed t → {levels : ℕ} {branch : List Goal} {f : Forest} (g : Goal) (c m : ℕ) (goals : List Goal)
    → premises t g c m ≡ some goals → Derives t levels branch goals f → HasPlace t g
has-place {t} wf g c m goals applies d =
    let at = placed (applies-numbered t g c m goals applies) in
    record {
      defined = role-defined t g.role (c - 1) at.0 (rw at.1 (applies-defines t g c m goals applies));
      named = goal-named wf g c m goals applies d;
    }

-- with so many levels left, below a branch whose roles are the word w: a derivation of the goals that uses only credentials of
-- S, each automaton of A accepts its words, and each of X some of them
pub record Shown (t : List ℕ) (S A X levels : ℕ) (branch : List Goal) (w : List Role) (goals : List Goal) : Type 0 where
  pub forest : Forest
  pub derives : Derives t levels branch goals forest
  pub uses_only : UsesOnly forest S
  pub accepted : AllAccept t A (words t w forest)
  pub owed : SomeAccept t X (words t w forest)

module _ (t : List ℕ) (wf : WellFormed t) (S A O : ℕ) where
  shown-none : (levels : ℕ) (branch : List Goal) (w : List Role) → Shown t S A 0 levels branch w []
  unfolding names words_by every_word
  shown-none levels branch w =
      record {
        forest = end;
        derives = done;
        uses_only = λ c h. absurd (false-true h);
        accepted = λ k h. refl;
        owed = λ k h. absurd (false-true (sym (in_set-zero k) ∙ h));
      }

  -- a node over what it asks, beside what follows
  shown-node : (X Y Z levels : ℕ) → part X (bit_or Y Z) ≡ true
      → (branch : List Goal) (w : List Role) (g : Goal) (c m : ℕ) (goals rest : List Goal)
      → premises t g c m ≡ some goals → fresh branch g ≡ true → in_set S (c - 1) ≡ true
      → (f : Forest) → Derives t levels (g ∷ branch) goals f → UsesOnly f S
      → AllAccept t A (node_words t goals (w ++ (g.role ∷ [])) f) → SomeAccept t Y (node_words t goals (w ++ (g.role ∷ [])) f)
      → Shown t S A Z (suc levels) branch w rest → Shown t S A X (suc levels) branch w (g ∷ rest)
  shown-node X Y Z levels both branch w g c m goals rest applies new own f d only all met after =
      record {
        forest = node c m f after.forest;
        derives = step applies new d after.derives;
        uses_only = only-node S c m f after.forest own only after.uses_only;
        accepted = rw (node-words t wf g c m goals applies w f after.forest) (accept-both t A _ _ all after.accepted);
        owed =
            rw (node-words t wf g c m goals applies w f after.forest) (some-both t _ _ X Y Z both met after.owed);
      }

  -- what is shown of one goal, beside what follows
  shown-beside : {levels : ℕ} {branch rest : List Goal} {g : Goal} {f : Forest} (X Y Z : ℕ) → part X (bit_or Y Z) ≡ true
      → (w : List Role) → Derives t levels branch (g ∷ []) f → UsesOnly f S → AllAccept t A (words t w f)
      → SomeAccept t Y (words t w f) → Shown t S A Z levels branch w rest → Shown t S A X levels branch w (g ∷ rest)
  shown-beside {g = g} X Y Z both w
      (step {c = c} {m = m} {goals = goals} {children = ch} {siblings = si} applies new d later) only all met after =
      shown-node X Y Z _ both _ w g c m goals _ applies new (only_here S c m ch si only)
      ch d (only_below S c m ch si only) (words-split t wf A g c m goals applies w ch si all).0
      (words-alone t wf Y g c m goals applies w ch si later met) after

  -- goal by goal, each with its share
  shares-shown : (levels : ℕ) (branch : List Goal) (w : List Role) (one : Goal → ℕ → Bool)
      → ((g : Goal) (Y : ℕ) → Y ≤ O → one g Y ≡ true → Shown t S A Y levels branch w (g ∷ []))
      → (goals : List Goal) (X : ℕ) → shares one O goals X ≡ true → Shown t S A X levels branch w goals
  unfolding shares
  shares-shown levels branch w one each [] X h = rw (eqb-true X 0 h) (shown-none levels branch w)
  shares-shown levels branch w one each (g ∷ goals) X h =
      let by = shares-shows one O g goals X h in
      let first = each g by.first by.few by.proves-first in
      shown-beside X by.first by.others by.together w first.derives first.uses_only first.accepted first.owed
      (shares-shown levels branch w one each goals by.others by.proves-others)

  -- through a credential of the set, where the goals that it asks are shown, and where it asks nothing the word is accepted
  module _ (levels : ℕ) (branch : List Goal) (w : List Role) (g : Goal) (c : ℕ) (new : HasPlace t g → fresh branch g ≡ true)
      (own : in_set S (c - 1) ≡ true) (X : ℕ) where
    module _ (all : List Goal → Bool)
        (each : (goals : List Goal) → all goals ≡ true → Shown t S A X levels (g ∷ branch) (w ++ (g.role ∷ [])) goals) (word : Bool)
        (ended : word ≡ true → AllAccept t A ((w ++ (g.role ∷ [])) ∷ []) × SomeAccept t X ((w ++ (g.role ∷ [])) ∷ [])) where
      premises-shown : (m : ℕ) (found : Option (List Goal)) → premises t g c m ≡ found → proved_premises all word found ≡ true
          → Shown t S A X (suc levels) branch w (g ∷ [])
      unfolding proved_premises node_words pick names
      premises-shown m none applies h = absurd (false-true h)
      premises-shown m (some []) applies h =
          let there = has-place wf g c m [] applies (done {levels = levels} {branch = g ∷ branch}) in
          shown-node X X 0 levels (part-or-left X 0) branch w g c m [] [] applies (new there) own end done
          (λ x named. absurd (false-true named)) (ended h).0 (ended h).1 (shown-none (suc levels) branch w)
      premises-shown m (some (asked ∷ goals)) applies h =
          let nonzero = ne_eqb (suc (length goals)) 0 (λ e. omega arith) in
          let below = each (asked ∷ goals) (rw nonzero at h) in
          let there = has-place wf g c m (asked ∷ goals) applies below.derives in
          shown-node X X 0 levels (part-or-left X 0) branch w g c m (asked ∷ goals) [] applies (new there) own
          below.forest below.derives below.uses_only (rw nonzero below.accepted) (rw nonzero below.owed)
          (shown-none (suc levels) branch w)

      through-shown : proves_by t all word g c ≡ true → Shown t S A X (suc levels) branch w (g ∷ [])
      unfolding proves_by pick
      through-shown h = go (eqb (credential t c).kind 3) h
        where
          tries : ℕ → Bool
          tries j = is_person t j and proved_premises all word (premises t g c (credential t (suc j)).first)

          go : (linking : Bool) → pick linking (any_below tries (credentials t)) (proved_premises all word (premises t g c 0)) ≡ true
              → Shown t S A X (suc levels) branch w (g ∷ [])
          go true found =
              let by = any-shows tries (credentials t) found in
              premises-shown _ _ refl (and_second _ _ by.2)
          go false found = premises-shown 0 (premises t g c 0) refl found

  -- what the search finds is shown; the pairs `above` are those of the branch, and the automata have come to the state sets s along
  -- the word w
  pub proves-shown : (levels : ℕ) (branch : List Goal) (above : Above) → OnBranch t branch above
      → (w : List Role) (s : StateSets) → Led t (bit_or A O) s w
      → (g : Goal) (X : ℕ) → X ≤ O → proves t S A O levels above s g X ≡ true → Shown t S A X levels branch w (g ∷ [])
  unfolding proves may_use
  proves-shown zero branch above on w s led g X few h = absurd (false-true h)
  proves-shown (suc levels) branch above on w s led g X few h =
      let by = any-shows _ (credentials t) (and_second _ _ h) in
      let word = w ++ (g.role ∷ []) in
      let below = stepped t (bit_or A O) g.role s in
      let after = led_on t (bit_or A O) s w g.role led in
      let deeper = with_goal t above g in
      let on' = on-next t wf.sized.counted.few_credentials branch above g on in
      through-shown levels branch w g (suc by.0) (λ there. on.same g there ∙ and_first _ _ h)
      (and_first _ _ (and_first _ _ by.2)) X
      (λ goals. shares (proves t S A O levels deeper below) O goals X)
      (λ goals. shares-shown levels (g ∷ branch) word (proves t S A O levels deeper below)
      (proves-shown levels (g ∷ branch) deeper on' word below after) goals X)
      (ends t A below X) (one_word t wf A O X few below word after)
      (and_second _ _ by.2)

  -- a goal is proved through a credential of the set that applies to it, once its premises are
  proves-through : (levels : ℕ) (above : Above) (s : StateSets) (g : Goal) (X c m : ℕ) (goals : List Goal)
      → premises t g c m ≡ some goals → not (is_above t above g) ≡ true → in_set S (c - 1) ≡ true → IsMiddle t c m
      → let below = stepped t (bit_or A O) g.role s in
      let each = shares (proves t S A O levels (with_goal t above g) below) O goals X in
      pick (eqb (length goals) 0) (ends t A below X) each ≡ true
      → proves t S A O (suc levels) above s g X ≡ true
  unfolding proves may_use proved_premises
  proves-through levels above s g X c m goals applies new own tried below =
      let there = applies-numbered t g c m goals applies in
      let at = placed there in
      let defines = applies-defines t g c m goals applies in
      and_both new
      (any-reached _ (credentials t) (c - 1) at.0
      (rw at.1 (and_both (and_both own defines) (tried-proves t _ _ g c m tried (rw applies below)))))

  -- where every automaton of A accepts a node's words, and each of X some of them, the search accepts what the node asks
  pub node-accepted : (goals : List Goal) (all : List Goal → Bool) (s : StateSets) (word : List Role) (f : Forest) (X : ℕ) → X ≤ O
      → Led t (bit_or A O) s word
      → AllAccept t A (node_words t goals word f) → SomeAccept t X (node_words t goals word f)
      → (AllAccept t A (words t word f) → SomeAccept t X (words t word f) → all goals ≡ true)
      → pick (eqb (length goals) 0) (ends t A s X) (all goals) ≡ true
  unfolding node_words pick
  node-accepted [] all s word f X few led accepted met below = one-word-demanded t wf A O X few s word led accepted met
  node-accepted (h ∷ goals) all s word f X few led accepted met below =
      let nonzero = ne_eqb (suc (length goals)) 0 (λ e. omega arith) in
      rw nonzero (below (rw nonzero at accepted) (rw nonzero at met))

  -- what a forest derives is found, below any branch, set of places, word and state sets that belong together
  abbrev Found : ℕ → List Goal → List Goal → Forest → Type 0
  Found levels branch goals f =
      (above : Above) → OnBranch t branch above → (w : List Role) (s : StateSets) → Led t (bit_or A O) s w
      → AllAccept t A (words t w f) → (X : ℕ) → X ≤ O → SomeAccept t X (words t w f)
      → shares (proves t S A O levels above s) O goals X ≡ true

  -- a node is found, once what it asks is
  node-proves : {levels : ℕ} {branch goals : List Goal} {f : Forest} (above : Above) → OnBranch t branch above
      → (w : List Role) (s : StateSets) (g : Goal) (c m : ℕ)
      → premises t g c m ≡ some goals → fresh branch g ≡ true → in_set S (c - 1) ≡ true → Derives t levels (g ∷ branch) goals f
      → Led t (bit_or A O) s w → AllAccept t A (node_words t goals (w ++ (g.role ∷ [])) f)
      → (X : ℕ) → X ≤ O → SomeAccept t X (node_words t goals (w ++ (g.role ∷ [])) f)
      → Found levels (g ∷ branch) goals f
      → proves t S A O (suc levels) above s g X ≡ true
  node-proves {levels} {branch} {goals} {f} above on w s g c m applies new own d led all X few met each =
      let word = w ++ (g.role ∷ []) in
      let below = stepped t (bit_or A O) g.role s in
      let after = led_on t (bit_or A O) s w g.role led in
      let deeper = with_goal t above g in
      let on' = on-next t wf.sized.counted.few_credentials branch above g on in
      proves-through levels above s g X c m goals applies (sym (on.same g (has-place wf g c m goals applies d)) ∙ new) own
      (middle-tried wf g c m goals applies d)
      (node-accepted goals (λ gs. shares (proves t S A O levels deeper below) O gs X) below word f X few after all met
      (λ all' met'. each deeper on' word below after all' X few met'))

  -- what is derived is found
  pub derived-proves : {levels : ℕ} {branch goals : List Goal} {f : Forest} → Derives t levels branch goals f → UsesOnly f S
      → Found levels branch goals f
  unfolding shares words_by some_word
  derived-proves done only above on w s led all X few met = eq-eqb X 0 (nothing-met X met)
    where
      nothing-met : (X : ℕ) → ((k : ℕ) → in_set X k ≡ true → false ≡ true) → X ≡ 0
      nothing-met X never = same-members X 0 (λ k. refuted (in_set X k) (λ h. false-true (never k h)) ∙ sym (in_set-zero k))
  derived-proves (step {c = c} {m = m} {goals = goals} {rest = rest} {g = g} {children = ch} {siblings = si} applies new d later)
      only above on w s led all X few met =
      let own = node_words t goals (w ++ (g.role ∷ [])) ch in
      let each = words-split t wf A g c m goals applies w ch si all in
      let Y = met_by t X own in
      let Z = met_by t X (words t w si) in
      let less = part-le Y X (met-few t X own) in
      let less' = part-le Z X (met-few t X (words t w si)) in
      shares-reached (proves t S A O _ above s) O g rest X Y Z (omega arith) (omega arith)
      (node-proves above on w s g c m applies new (only_here S c m ch si only) d led each.0 Y (omega arith)
      (met-accepts t X own) (derived-proves d (only_below S c m ch si only)))
      (derived-proves later (only-later S c m ch si only) above on w s led each.1 Z (omega arith)
      (met-accepts t X (words t w si)))
      (met-shared t X own (words t w si) (rw (node-words t wf g c m goals applies w ch si) at met))

module _ (t : List ℕ) (wf : WellFormed t) (q : Query) where
  -- with O owed, a part X of it can be met exactly where a derivation meets X
  proved-exact : (S A O X : ℕ) → X ≤ O
      → (proves t S A O q.depth nothing_above (starting_sets t) (goal_of q) X ≡ true) ↔ Provable t q S A X
  proved-exact S A O X few = (
    (λ h.
        let found =
        proves-shown t wf S A O q.depth [] nothing_above (on_none t) [] (starting_sets t) starts (goal_of q) X few h in
        record {
          forest = found.forest;
          derives = found.derives;
          uses_only = found.uses_only;
          accepted = found.accepted;
          owed = found.owed;
        }),
    (λ h.
        shares-alone (proves t S A O q.depth nothing_above (starting_sets t)) O less (goal_of q) X
        (derived-proves t wf S A O h.derives h.uses_only nothing_above (on_none t) [] (starting_sets t) starts h.accepted
        X few h.owed)),
  )
    where
      starts : Led t (bit_or A O) (starting_sets t) []
      starts asked = sym (sets-after-none t)

      less : (Y Y' : ℕ) (g : Goal) → part Y' Y ≡ true → proves t S A O q.depth nothing_above (starting_sets t) g Y ≡ true
          → proves t S A O q.depth nothing_above (starting_sets t) g Y' ≡ true
      less Y Y' g = proves-less t S A O q.depth nothing_above (starting_sets t) g Y Y'

  pub provable-exact : (S A O : ℕ) → (provable t q S A O ≡ true) ↔ Provable t q S A O
  unfolding provable
  provable-exact S A O = proved-exact S A O O (omega arith)

  pub provable-part : (S A O X : ℕ) → part X O ≡ true
      → proves t S A O q.depth nothing_above (starting_sets t) (goal_of q) X ≡ provable t q S A X
  provable-part S A O X among =
      let (on, back) = proved-exact S A O X (part-le X O among) in
      same_test _ _ (λ h. (provable-exact S A X).1 (on h)) (λ h. back ((provable-exact S A X).0 h))

  pub provable-by : (S A O : ℕ) {f : Forest} → Derives t q.depth [] (goal_of q ∷ []) f → UsesOnly f S
      → AllAccept t A (words t [] f) → SomeAccept t O (words t [] f)
      → provable t q S A O ≡ true
  provable-by S A O {f} d only all met =
      (provable-exact S A O).1 (record { forest = f; derives = d; uses_only = only; accepted = all; owed = met })

  -- more credentials prove no less, and fewer automata forbid no more
  pub provable-mono : (S S' A A' O O' : ℕ) → part S S' ≡ true → part A' A ≡ true → part O' O ≡ true → provable t q S A O ≡ true
      → provable t q S' A' O' ≡ true
  provable-mono S S' A A' O O' more fewer less h =
      let shown = (provable-exact S A O).0 h in
      provable-by S' A' O' shown.derives (λ c named. part-member S S' (c - 1) more (shown.uses_only c named))
      (λ k demanded. shown.accepted k (part-member A' A k fewer demanded))
      (λ k demanded. shown.owed k (part-member O' O k less demanded))
