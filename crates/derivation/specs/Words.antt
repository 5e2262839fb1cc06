-- docs/DEFINITION.md, "Words": the words of a derivation, and whether every used automaton is met.
use Rattle.std.specs.Prelude.{ℕ, ◌≡◌, List, [], ◌∷◌, ◌++◌, Bool, true, false, not, eqb}
use Rattle.sets.specs.Logic.{◌and◌, ◌or◌, pick}
use Rattle.table.specs.Layout.{automaton, credential}
use Rattle.table.specs.declared.Role.{Role}
use Rattle.automata.specs.Automata.{accepts}
use Rattle.derivation.specs.Forest.{Forest, names}
use Rattle.derivation.specs.Forest.Forest.{end, node}

-- a word is the list of roles from the goal down to a node at which it ends; `above` are the roles on the way to the forest
unfoldable pub words_by : (ℕ → Role) → (ℕ → Bool) → List Role → Forest → List (List Role)
words_by role ends above end = []
words_by role ends above (node c m children siblings) =
    let word = above ++ (role c ∷ []) in
    pick (ends c) (word ∷ []) (words_by role ends word children) ++ words_by role ends above siblings

-- it ends at a kind 1 node
abbrev pub words : List ℕ → List Role → Forest → List (List Role)
words t = words_by (λ c. (credential t c).role) (λ c. eqb (credential t c).kind 1)

-- a used automaton is one attached to a used credential, whichever branch uses it
unfoldable pub uses_by : (ℕ → ℕ) → Forest → ℕ → Bool
uses_by attached end k = false
uses_by attached (node c m children siblings) k = eqb (attached c) k or uses_by attached children k or uses_by attached siblings k

abbrev pub uses_automaton : List ℕ → Forest → ℕ → Bool
uses_automaton t f k = uses_by (λ c. (credential t c).automaton) f k

-- every word passes the test, and some word does
unfoldable pub every_word : (List Role → Bool) → List (List Role) → Bool
every_word test [] = true
every_word test (word ∷ more) = test word and every_word test more

unfoldable pub some_word : (List Role → Bool) → List (List Role) → Bool
some_word test [] = false
some_word test (word ∷ more) = test word or some_word test more

abbrev pub accepts_all : List ℕ → ℕ → List (List Role) → Bool
accepts_all t k words = every_word (accepts t k) words

abbrev pub accepts_some : List ℕ → ℕ → List (List Role) → Bool
accepts_some t k words = some_word (accepts t k) words

-- by its mark an automaton demands that it accepts some word, which is 1, or that it accepts every word
unfoldable pub demanded_by : (mark : ℕ) → (List Role → Bool) → List (List Role) → Bool
demanded_by mark accepts words = pick (eqb mark 1) (some_word accepts words) (every_word accepts words)

abbrev pub is_met : List ℕ → ℕ → List (List Role) → Bool
is_met t k words = demanded_by (automaton t k).mark (accepts t k) words

-- the automaton is not used, or the words are what it demands
unfoldable pub met : List ℕ → Forest → ℕ → Bool
met t f k = not (uses_automaton t f k) or is_met t k (words t [] f)

-- a record complies if its words are what the automaton of every credential that it uses demands
abbrev pub Complies : List ℕ → Forest → Type 0
Complies t f =
    (c : ℕ) → names f c ≡ true → ((credential t c).automaton ≡ 0 → ⊥)
    → is_met t (credential t c).automaton (words t [] f) ≡ true
