-- The state sets of all automata along a word: moved role by role they are what each automaton's own run says, and the automata
-- that accept there are those that accept the word.
use mathlib.Core.Path.{◌≡◌, refl, sym, ap, ◌∙◌}
use mathlib.Core.List.{List, [], ◌∷◌, ◌++◌}
use Prim.Native.Nat.{ℕ, suc, ◌-◌, ◌≤◌}
use native.Mathlib.Omega.{arith}
use lib.ListN.{get_or}
use borrow.Author.Tests.{lt-ltb}
use Rattle.sets.specs.Logic.{◌and◌, ◌or◌}
use Rattle.sets.specs.Sets.{in_set}
use Rattle.sets.proofs.Tests.{and_assoc, or_assoc}
use Rattle.sets.proofs.Members.{set_of-members}
use Rattle.table.specs.Limits.{most_automata}
use Rattle.table.specs.Layout.{Numbered, automata}
use Rattle.table.specs.declared.Role.{Role}
use Rattle.automata.specs.Automata.{accepts, moved, run, run_by, starting}
use Rattle.automata.specs.Together.{accepting_set, each, moved_sets, starting_sets, together}
use Rattle.automata.specs.declared.StateSets.{StateSets}
use Rattle.automata.proofs.Each.{each-length, each_at, each-ext}
use Rattle.derivation.specs.Words.{accepts_all, accepts_some, every_word, some_word}

-- eight sets that are alike one by one
together-ext : (f g : ℕ → ℕ) → ((k : ℕ) → Numbered most_automata k → f k ≡ g k) → together f ≡ together g
unfolding together
together-ext f g same =
    ap (λ (x : List ℕ). record { sets = x })
    (each-ext g most_automata (each f most_automata) (each-length f most_automata)
    (λ k h. each_at f most_automata k h ∙ same (suc k) (record { first = omega arith; last = h })))

together_at : (f : ℕ → ℕ) (k : ℕ) → Numbered most_automata k → get_or (together f).sets (k - 1) 0 ≡ f k
unfolding together
together_at f k own =
    let next : suc (k - 1) ≡ k = omega arith in
    each_at f most_automata (k - 1) (omega arith) ∙ ap f next

run-next : (t : List ℕ) (k x : ℕ) (word : List Role) (r : Role) → run t k x (word ++ (r ∷ [])) ≡ moved t k r (run t k x word)
unfolding run_by
run-next t k x [] r = refl
run-next t k x (s ∷ word) r = run-next t k (moved t k s x) word r

-- the state sets of all eight automata along a word
unfoldable pub sets_after : List ℕ → List Role → StateSets
sets_after t word = together (λ k. run t k (starting t k) word)

pub sets-after-none : (t : List ℕ) → sets_after t [] ≡ starting_sets t
unfolding sets_after starting_sets run_by
sets-after-none t = refl

pub sets-after-next : (t : List ℕ) (word : List Role) (r : Role)
    → moved_sets t r (sets_after t word) ≡ sets_after t (word ++ (r ∷ []))
unfolding sets_after moved_sets
sets-after-next t word r =
    together-ext _ _ (λ k own. rw (together_at (λ i. run t i (starting t i) word) k own, run-next t k (starting t k) word r))

pub accepts-all-append : (t : List ℕ) (k : ℕ) (a b : List (List Role))
    → accepts_all t k (a ++ b) ≡ (accepts_all t k a and accepts_all t k b)
unfolding every_word ◌and◌
accepts-all-append t k [] b = refl
accepts-all-append t k (word ∷ a) b = rw (accepts-all-append t k a b) (sym (and_assoc (accepts t k word) _ _))

pub accepts-some-append : (t : List ℕ) (k : ℕ) (a b : List (List Role))
    → accepts_some t k (a ++ b) ≡ (accepts_some t k a or accepts_some t k b)
unfolding some_word ◌or◌
accepts-some-append t k [] b = refl
accepts-some-append t k (word ∷ a) b = rw (accepts-some-append t k a b) (sym (or_assoc (accepts t k word) _ _))

module _ (t : List ℕ) (k : ℕ) (own : Numbered (automata t) k) (few : automata t ≤ most_automata) where
  pub accepting-member : (word : List Role) → in_set (accepting_set t (sets_after t word)) (k - 1) ≡ accepts t k word
  unfolding accepting_set accepts sets_after ◌and◌
  accepting-member word =
      let next : suc (k - 1) ≡ k = omega arith in
      let eight : Numbered most_automata k = omega arith in
      set_of-members _ (automata t) (k - 1)
      ∙ rw (lt-ltb (k - 1) (automata t) (omega arith), together_at (λ i. run t i (starting t i) word) k eight, next)
