-- docs/DEFINITION.md, "Misreadings": each as what a verifier or a lister would tell that reads the text so.
-- Each is ours but for one notion, and comes with a table, a query and a record (the fourth: a list) on which it tells something
-- else.
use Rattle.std.specs.Prelude.{ℕ, suc, ◌^◌, ◌≤◌, ◌≡◌, List, [], ◌∷◌, ◌++◌, Bool, true, not, length, eqb, ltb}
use Rattle.sets.specs.Logic.{◌and◌, ◌or◌, any_below}
use Rattle.table.specs.Outcome.{Outcome, ◌and_then◌}
use Rattle.table.specs.Outcome.Outcome.{accepted, refused}
use Rattle.table.specs.Layout.{automata, credential, credentials}
use Rattle.table.specs.Checks.{request_outcome}
use Rattle.table.specs.Encoded.{automaton_of, edge_of}
use Rattle.table.specs.Shop.{ann_asks, shop, tableT, tableU}
use Rattle.table.specs.declared.Role.{Role}
use Rattle.table.specs.declared.Query.{Query}
use Rattle.sets.specs.Sets.{in_set}
use Rattle.automata.specs.Automata.{accepts}
use Rattle.derivation.specs.Rules.{goal_of}
use Rattle.derivation.specs.Forest.{Forest}
use Rattle.derivation.specs.Forest.Forest.{end, node}
use Rattle.derivation.specs.Words.{is_met, met, uses_automaton, words}
use Rattle.reader.specs.Reading.{reader}
use Rattle.verifier.specs.Verdict.{judged_by, verdict}
use Rattle.sorted.specs.Sorted.{those}
use Rattle.admission.specs.Admits.{admits}
use Rattle.listing.specs.Minimal.{minimal_sets}
use Rattle.listing.specs.Demands.{Minimal, Used}

-- the verifier, with another notion of when a derivation meets an automaton of the table than our `met`
unfoldable pub verdict_by : (List ℕ → Forest → ℕ → Bool) → List ℕ → Query → List ℕ → Outcome
verdict_by is_met t q rec = request_outcome t q and_then judged_by (is_met t) (automata t) (reader t q.depth [] (goal_of q ∷ []) rec 1)

-- at each node whose credential has automaton k, the roles above the node and the node with all below it pass the test
unfoldable pub at_each_use : List ℕ → ℕ → (List Role → Forest → Bool) → List Role → Forest → Bool
at_each_use t k test above end = true
at_each_use t k test above (node c m children siblings) =
    (not (eqb (credential t c).automaton k) or test above (node c m children end))
    and at_each_use t k test (above ++ ((credential t c).role ∷ [])) children
    and at_each_use t k test above siblings

-- 1. An automaton starts at its own credential's node: it reads the words as they go on from there
unfoldable pub met_from_own_node : List ℕ → Forest → ℕ → Bool
met_from_own_node t f k = at_each_use t k (λ above below. is_met t k (words t [] below)) [] f

-- 2. Only the words that pass through the constrained credential are tested, each from the goal on
unfoldable pub met_through_own_node : List ℕ → Forest → ℕ → Bool
met_through_own_node t f k = at_each_use t k (λ above below. is_met t k (words t above below)) [] f

-- 3. The automata of credentials that the record does not use are imposed: all that the table attaches to some credential
unfoldable pub is_attached : List ℕ → ℕ → Bool
is_attached t k = any_below (λ c. eqb (credential t (suc c)).automaton k) (credentials t)

unfoldable pub met_used_or_not : List ℕ → Forest → ℕ → Bool
met_used_or_not t f k = not (is_attached t k) or is_met t k (words t [] f)

-- 4. Minimal means fewest credentials: how many of the table's credentials are in the set
unfoldable pub how_many : List ℕ → ℕ → ℕ
how_many t S = length (those (in_set S) (credentials t))

-- the used set of an accepted record, where no accepted record uses fewer credentials
pub record Fewest (t : List ℕ) (q : Query) (S : ℕ) : Type 0 where
  pub used : Used t q S
  pub fewest : (T : ℕ) → Used t q T → how_many t S ≤ how_many t T

-- and the list of such sets, made as `minimal_sets` makes ours
unfoldable pub is_fewest : List ℕ → Query → ℕ → Bool
is_fewest t q S = admits t q S and not (any_below (λ T. ltb (how_many t T) (how_many t S) and admits t q T) (2 ^ credentials t))

unfoldable pub fewest_sets : List ℕ → Query → List ℕ
fewest_sets t q = those (is_fewest t q) (2 ^ credentials t)

-- Besides, no misreading of the text: a verifier that judges only the first word, in the order of the record
unfoldable pub first_accepted : List ℕ → ℕ → List (List Role) → Bool
first_accepted t k [] = true
first_accepted t k (word ∷ more) = accepts t k word

unfoldable pub met_first_word : List ℕ → Forest → ℕ → Bool
met_first_word t f k = not (uses_automaton t f k) or first_accepted t k (words t [] f)

-- of this record our verifier and the one that misreads tell different things
pub record Apart (is_met : List ℕ → Forest → ℕ → Bool) (t : List ℕ) (q : Query) (rec : List ℕ)
    (ours theirs : Outcome) : Type 0 where
  pub verifier : verdict t q rec ≡ ours
  pub misreader : verdict_by is_met t q rec ≡ theirs
  pub differ : verdict t q rec ≡ verdict_by is_met t q rec → ⊥

-- the shop with another automaton attached to credential 3: it accepts the words that begin with Shop.discount
unfoldable pub discount_first : List ℕ
discount_first = shop 1 (automaton_of 1 2 0 ∷ []) (edge_of 1 0 1 1 1 1 ∷ edge_of 1 1 2 0 0 1 ∷ [])

-- and with one that accepts the words in which Shop.accredited does not occur
unfoldable pub not_accredited : List ℕ
not_accredited = shop 1 (automaton_of 1 1 0 ∷ []) (edge_of 1 0 3 1 3 0 ∷ [])

-- and with one that accepts the words in which School.student does not occur
unfoldable pub not_student : List ℕ
not_student = shop 1 (automaton_of 1 1 0 ∷ []) (edge_of 1 0 3 2 2 0 ∷ [])

-- Ann is in Shop.discount as a student of the school, which Shop has accredited: words Shop.discount Shop.accredited and
-- Shop.discount School.student, the second through credential 3
abbrev pub as_student : List ℕ
as_student = 1 ∷ 2 ∷ 2 ∷ 0 ∷ 3 ∷ 0 ∷ []

-- and outright, by credential 4, which has no automaton: word Shop.discount
abbrev pub outright : List ℕ
outright = 4 ∷ 0 ∷ []

pub record Misreadings : Type 0 where
  -- with our own notion of when a derivation meets an automaton the verifier is ours
  pub ours : (t : List ℕ) (q : Query) (rec : List ℕ) → verdict_by met t q rec ≡ verdict t q rec
  -- 1. U's automaton rejects both words, and accepts School.student alone; the other way round where it wants Shop.discount first
  pub own-node-accepts : Apart met_from_own_node tableU (ann_asks 2) as_student (refused 14 1) (accepted 7)
  pub own-node-refuses : Apart met_from_own_node discount_first (ann_asks 2) as_student (accepted 7) (refused 14 1)
  -- 2. the automaton rejects the first word, which does not pass through credential 3. It tests fewer words than we do
  pub own-words-accept : Apart met_through_own_node not_accredited (ann_asks 2) as_student (refused 14 1) (accepted 7)
  -- 3. U's automaton rejects the word, and its credential is not used. It imposes more automata than we do
  pub unused-refuses : Apart met_used_or_not tableU (ann_asks 2) outright (accepted 8) (refused 14 1)
  -- 4. 7 has three credentials, 8 has one, both are listed
  pub both-listed : minimal_sets tableT (ann_asks 2) ≡ 7 ∷ 8 ∷ []
  pub fewest-listed : fewest_sets tableT (ann_asks 2) ≡ 8 ∷ []
  pub lists-differ : minimal_sets tableT (ann_asks 2) ≡ fewest_sets tableT (ann_asks 2) → ⊥
  pub minimal : Minimal tableT (ann_asks 2) 7
  pub not-fewest : Fewest tableT (ann_asks 2) 7 → ⊥
  -- the first word alone: the automaton accepts it and rejects the second
  pub first-word-accepts : Apart met_first_word not_student (ann_asks 2) as_student (refused 14 1) (accepted 7)
