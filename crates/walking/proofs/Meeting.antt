-- What a forest's words meet of the automata that are owed, as it is read along the state sets: just those that accept some word,
-- and so what the search can meet with the same goals.
use mathlib.Core.Path.{◌≡◌, refl, sym, ap, ap₂, ◌∙◌}
use mathlib.Core.List.{List, [], ◌∷◌, ◌++◌}
use mathlib.Core.Bool.{Bool, true, false}
use mathlib.Core.Option.{some}
use Prim.Native.Nat.{ℕ, suc}
use native.Mathlib.Omega.{arith}
use lib.ListN.{length}
use lib.Bits.{bit_and, bit_or, or_zero_r}
use lib.Dec.{eqb}
use borrow.Author.Tests.{ne_eqb}
use Rattle.sets.specs.Logic.{◌and◌, ◌or◌, pick}
use Rattle.sets.specs.Sets.{in_set, part}
use Rattle.sets.proofs.Tests.{and_first, and-is-off, and_none, and_second, or-false, or-second}
use Rattle.sets.proofs.Members.{in_set-and, in_set-or, in_set-zero, part-le, part-or, part-shown, part-zero}
use Rattle.table.specs.Layout.{credential}
use Rattle.table.specs.Holding.{WellFormed}
use Rattle.table.specs.declared.Role.{Role}
use Rattle.table.specs.declared.Goal.{Goal}
use Rattle.automata.specs.Automata.{accepts}
use Rattle.automata.specs.Together.{accepting_set}
use Rattle.automata.specs.declared.StateSets.{StateSets}
use Rattle.derivation.specs.Rules.{premises}
use Rattle.derivation.specs.Forest.{Derives, Forest}
use Rattle.derivation.specs.Forest.Forest.{end, node}
use Rattle.derivation.specs.Words.{accepts_some, some_word, words, words_by}
use Rattle.derivation.proofs.Applying.{applies-role, asks-more}
use Rattle.derivation.proofs.Ruling.{asks_nothing}
use Rattle.derivation.proofs.Running.{accepts-some-append}
use Rattle.members.specs.declared.above.Above.{Above}
use Rattle.members.proofs.Branching.{OnBranch}
use Rattle.goals.specs.Goals.{stepped}
use Rattle.search.specs.Search.{AllAccept, SomeAccept, UsesOnly, proves, shares}
use Rattle.search.proofs.Searching.{Led, accepting-exact, derived-proves, led_on, node_words, some-imposed}
use Rattle.walking.specs.First.{met_from}

-- what the words of a node meet: its own where it asks nothing, and otherwise those of its children
unfoldable pub node_met : List ℕ → ℕ → ℕ → StateSets → List Goal → Forest → ℕ
node_met t A O s goals children = pick (eqb (length goals) 0) (bit_and O (accepting_set t s)) (met_from t A O s children)

module _ (t : List ℕ) (A O : ℕ) where
  pub met-end : (s : StateSets) → met_from t A O s end ≡ 0
  unfolding met_from
  met-end s = refl

  -- what a node's words meet, and what those of its later siblings do
  pub met-node : WellFormed t → (g : Goal) (c m : ℕ) (goals : List Goal) → premises t g c m ≡ some goals
      → (s : StateSets) (children siblings : Forest)
      → met_from t A O s (node c m children siblings)
      ≡ bit_or (node_met t A O (stepped t (bit_or A O) g.role s) goals children) (met_from t A O s siblings)
  unfolding met_from node_met pick
  met-node wf g c m [] applies s children siblings =
      rw (asks_nothing t wf g c m applies, applies-role t g c m [] applies)
  met-node wf g c m (h ∷ goals) applies s children siblings =
      rw (
        applies-role t g c m (h ∷ goals) applies,
        ne_eqb (credential t c).kind 1 (asks-more t g c m h goals applies),
        ne_eqb (suc (length goals)) 0 (λ e. omega arith),
      )

  pub met-split : (s : StateSets) (c m : ℕ) (children siblings : Forest)
      → met_from t A O s (node c m children siblings) ≡ bit_or (met_from t A O s (node c m children end)) (met_from t A O s siblings)
  unfolding met_from
  met-split s c m children siblings =
      let below = stepped t (bit_or A O) (credential t c).role s in
      let own = pick (eqb (credential t c).kind 1) (bit_and O (accepting_set t below)) (met_from t A O below children) in
      ap (λ x. bit_or x (met_from t A O s siblings)) (sym (or_zero_r own))

  -- a node alone
  pub met-alone : WellFormed t → (g : Goal) (c m : ℕ) (goals : List Goal) → premises t g c m ≡ some goals
      → (s : StateSets) (children : Forest)
      → met_from t A O s (node c m children end) ≡ node_met t A O (stepped t (bit_or A O) g.role s) goals children
  met-alone wf g c m goals applies s children =
      let own = node_met t A O (stepped t (bit_or A O) g.role s) goals children in
      met-node wf g c m goals applies s children end ∙ ap (bit_or own) (met-end s) ∙ or_zero_r own

  -- no more than is owed
  picked-few : (b : Bool) (x y : ℕ) → part y O ≡ true → part (pick b (bit_and O x) y) O ≡ true
  unfolding pick
  picked-few true x y few = part-shown (bit_and O x) O (λ k h. and_first _ _ (sym (in_set-and O x k) ∙ h))
  picked-few false x y few = few

  pub met-few : (f : Forest) (s : StateSets) → part (met_from t A O s f) O ≡ true
  unfolding met_from
  met-few end s = part-zero O
  met-few (node c m children siblings) s =
      part-or _ _ O (picked-few _ _ _ (met-few children _)) (met-few siblings s)

  pub node-few : (s : StateSets) (goals : List Goal) (children : Forest) → part (node_met t A O s goals children) O ≡ true
  unfolding node_met
  node-few s goals children = picked-few _ _ _ (met-few children s)

  pub node-asks : (s : StateSets) (goals : List Goal) (f : Forest) → (length goals ≡ 0 → ⊥)
      → node_met t A O s goals f ≡ met_from t A O s f
  unfolding node_met pick
  node-asks s goals f asks = rw (ne_eqb (length goals) 0 asks)

module _ (t : List ℕ) (wf : WellFormed t) (A O : ℕ) where
  -- the automata of O that accept the word
  own-exact : (s : StateSets) (word : List Role) → Led t (bit_or A O) s word → (k : ℕ)
      → in_set (bit_and O (accepting_set t s)) k ≡ (in_set O k and accepts_some t (suc k) (word ∷ []))
  unfolding some_word
  own-exact s word led k = in_set-and O (accepting_set t s) k ∙ go (in_set O k) refl
    where
      go : (b : Bool) → in_set O k ≡ b
          → (in_set O k and in_set (accepting_set t s) k) ≡ (in_set O k and (accepts t (suc k) word or false))
      go true owed =
          let asked = some-imposed (bit_or A O) k (in_set-or A O k ∙ or-second _ owed) in
          ap (λ b. in_set O k and b)
          (ap (λ x. in_set (accepting_set t x) k) (led asked) ∙ accepting-exact t wf word k ∙ sym (or-false _))
      go false other = and-is-off _ other ∙ sym (and-is-off _ other)

  none-accepted : (k : ℕ) → accepts_some t k [] ≡ false
  unfolding some_word
  none-accepted k = refl

  both-exact : (a x y : Bool) → ((a and x) or (a and y)) ≡ (a and (x or y))
  unfolding ◌and◌ ◌or◌
  both-exact true x y = refl
  both-exact false x y = refl

  one-exact : (b : Bool) (x y k : ℕ) (u v : List (List Role)) → in_set x k ≡ (in_set O k and accepts_some t (suc k) u)
      → in_set y k ≡ (in_set O k and accepts_some t (suc k) v)
      → in_set (pick b x y) k ≡ (in_set O k and accepts_some t (suc k) (pick b u v))
  unfolding pick
  one-exact true x y k u v e e' = e
  one-exact false x y k u v e e' = e'

  -- just those that accept some word of the forest
  pub met-exact : (f : Forest) (s : StateSets) (w : List Role) → Led t (bit_or A O) s w → (k : ℕ)
      → in_set (met_from t A O s f) k ≡ (in_set O k and accepts_some t (suc k) (words t w f))
  unfolding met_from words_by
  met-exact end s w led k = in_set-zero k ∙ sym (and_none (in_set O k) (none-accepted (suc k)))
  met-exact (node c m children siblings) s w led k =
      let below = stepped t (bit_or A O) (credential t c).role s in
      let word = w ++ ((credential t c).role ∷ []) in
      let here = led_on t (bit_or A O) s w (credential t c).role led in
      in_set-or _ (met_from t A O s siblings) k
      ∙ ap₂ ◌or◌ (one-exact (eqb (credential t c).kind 1) _ _ k _ _ (own-exact below word here k)
      (met-exact children below word here k))
      (met-exact siblings s w led k)
      ∙ both-exact (in_set O k) _ _
      ∙ ap (λ b. in_set O k and b) (sym (accepts-some-append t (suc k) _ (words t w siblings)))

  pub met-accepts : (f : Forest) (s : StateSets) (w : List Role) → Led t (bit_or A O) s w
      → SomeAccept t (met_from t A O s f) (words t w f)
  met-accepts f s w led k h = and_second _ _ (sym (met-exact f s w led k) ∙ h)

  -- what a node's words meet
  pub node-exact : (s : StateSets) (goals : List Goal) (word : List Role) (f : Forest) → Led t (bit_or A O) s word → (k : ℕ)
      → in_set (node_met t A O s goals f) k ≡ (in_set O k and accepts_some t (suc k) (node_words t goals word f))
  unfolding node_met node_words
  node-exact s goals word f led k = one-exact _ _ _ k _ _ (own-exact s word led k) (met-exact f s word led k)

  pub node-accepts : (s : StateSets) (goals : List Goal) (word : List Role) (f : Forest) → Led t (bit_or A O) s word
      → SomeAccept t (node_met t A O s goals f) (node_words t goals word f)
  node-accepts s goals word f led k h = and_second _ _ (sym (node-exact s goals word f led k) ∙ h)

  -- what is derived can be met
  pub met-shared : (S : ℕ) {levels : ℕ} {branch goals : List Goal} {f : Forest} → Derives t levels branch goals f → UsesOnly f S
      → (above : Above) → OnBranch t branch above → (w : List Role) (s : StateSets) → Led t (bit_or A O) s w
      → AllAccept t A (words t w f) → shares (proves t S A O levels above s) O goals (met_from t A O s f) ≡ true
  met-shared S {f = f} d only above on w s led all =
      derived-proves t wf S A O d only above on w s led all (met_from t A O s f) (part-le _ O (met-few t A O f s))
      (met-accepts f s w led)
