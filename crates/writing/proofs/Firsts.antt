-- A minimal set has one first record. Every accepted record within the set uses all of it, so that its words are what each
-- automaton of the set demands by its mark; and of the derivations within the set of which that holds, the first is
-- `first_forest`.
use mathlib.Core.Path.{◌≡◌, refl, sym, ◌∙◌}
use mathlib.Core.List.{List, [], ◌∷◌, List-discrete}
use mathlib.Core.Bool.{true}
use Prim.Native.Nat.{ℕ}
use native.Mathlib.Omega.{arith}
use native.Mathlib.Decide.{ℕ_discrete}
use lib.Bits.{bit_or}
use lib.Dec.{eqb}
use borrow.Author.Tests.{eq-eqb, eqb-true}
use Rattle.sets.specs.Sets.{part}
use Rattle.sets.proofs.Members.{part-antisym, part-refl, part-shown}
use Rattle.sets.proofs.Tests.{and_both}
use Rattle.table.specs.Outcome.Outcome.{accepted}
use Rattle.table.specs.Holding.{WellFormed}
use Rattle.table.specs.Checks.{Valid}
use Rattle.table.specs.declared.Query.{Query}
use Rattle.automata.specs.Together.{starting_sets}
use Rattle.derivation.specs.Rules.{goal_of}
use Rattle.derivation.specs.Forest.{Forest, used_set}
use Rattle.derivation.specs.Words.{words}
use Rattle.derivation.specs.Accepted.{Accepted}
use Rattle.attached.specs.Attached.{every_of, owed_of}
use Rattle.derivation.specs.Bounds.{Holdable}
use Rattle.derivation.proofs.Running.{sets-after-none}
use Rattle.verifier.specs.Verdict.{verdict}
use Rattle.verifier.proofs.DemandTwo.{demand-two}
use Rattle.members.specs.Above.{nothing_above}
use Rattle.members.proofs.Branching.{on_none}
use Rattle.search.specs.Search.{SomeAccept, UsesOnly, provable, proves}
use Rattle.search.proofs.Searching.{Led, provable-by}
use Rattle.admission.proofs.Admitting.{accepts-complies, part-used, used-part}
use Rattle.listing.specs.Minimal.{is_minimal}
use Rattle.listing.specs.Demands.{Minimal}
use Rattle.listing.proofs.Minimals.{is-minimal-set}
use Rattle.listing.proofs.Demanding.{accepted-holdable}
use Rattle.choice.specs.Choice.{suits}
use Rattle.walking.specs.First.{first_forest, first_record, met_from}
use Rattle.walking.proofs.Wanting.{suits-alone, wanted-all}
use Rattle.walking.proofs.Meeting.{met-accepts, met-exact, met-few}
use Rattle.walking.proofs.FirstMet.{first-met}
use Rattle.writing.specs.Writes.{First}
use Rattle.writing.proofs.Settling.{meets-every, meets-owed, owed-few, settled}
use Rattle.writing.proofs.FirstShown.{Shows, first-shows}
use Rattle.writing.proofs.FirstBefore.{first-order}
use Rattle.writing.proofs.Ordering.{Order, apart-before, before-once}

starts : (t : List ℕ) (W : ℕ) → Led t W (starting_sets t) []
starts t W asked = sym (sets-after-none t)

uses-only : (t : List ℕ) (q : Query) (rec : List ℕ) (S : ℕ) (a : Accepted t q rec S) → UsesOnly a.forest S
uses-only t q rec S a = part-used t a.derives S (rw a.uses (part-refl S))

-- some word meets each automaton that is owed exactly where all of them are what the forest meets
module _ (t : List ℕ) (wf : WellFormed t) (A O : ℕ) (f : Forest) where
  met_all : SomeAccept t O (words t [] f) → eqb O (met_from t A O (starting_sets t) f) ≡ true
  met_all some =
      eq-eqb O _ (part-antisym O _
      (part-shown O _ (λ k h. met-exact t wf A O f (starting_sets t) [] (starts t (bit_or A O)) k ∙ and_both h (some k h)))
      (met-few t A O f (starting_sets t)))

  all-met : eqb O (met_from t A O (starting_sets t) f) ≡ true → SomeAccept t O (words t [] f)
  all-met e k h =
      met-accepts t wf A O f (starting_sets t) [] (starts t (bit_or A O)) k (rw (eqb-true O _ e) at h)

module _ (t : List ℕ) (wf : WellFormed t) (q : Query) (valid : Valid q) (S : ℕ) where
  abbrev every : ℕ
  every = every_of t S

  abbrev owed : ℕ
  owed = owed_of t S

  module _ (m : Minimal t q S) where
    -- every record that is accepted within the set uses all of it
    uses-all : (rec : List ℕ) (T : ℕ) → verdict t q rec ≡ accepted T → part T S ≡ true → Accepted t q rec S
    uses-all rec T e within =
        rw (m.least T (rec, e) within) at ((demand-two t q rec T wf.accepted valid).0 e)

    proved : provable t q S every owed ≡ true
    proved =
        let (rec, e) = m.used in
        let a = (demand-two t q rec S wf.accepted valid).0 e in
        provable-by t wf q S every owed a.derives (uses-only t q rec S a) (meets-every t q rec S a) (meets-owed t q rec S a)

    suited : suits (proves t S every owed q.depth nothing_above (starting_sets t)) owed (eqb owed) (goal_of q ∷ []) ≡ true
    unfolding provable
    suited =
        suits-alone (wanted-all owed (owed-few t wf S)) _ (goal_of q) owed (omega arith) (eq-eqb owed owed refl) proved

    abbrev the_forest : Forest
    the_forest = first_forest t S every owed q.depth nothing_above (starting_sets t) (eqb owed) (goal_of q ∷ [])

    first-shown : Shows t S every q.depth [] [] (goal_of q ∷ []) the_forest
    first-shown =
        first-shows t wf S every owed q.depth [] nothing_above (on_none t) [] (starting_sets t) (starts t (bit_or every owed))
        (eqb owed) (wanted-all owed (owed-few t wf S)) (goal_of q ∷ []) suited

    first-accepted : Accepted t q (first_record t q S) (used_set the_forest)
    unfolding first_record
    first-accepted =
        let shown = first-shown in
        record {
          forest = the_forest;
          derives = shown.derives;
          whole = refl;
          complies =
              accepts-complies t shown.derives S every owed shown.uses_only (settled t wf S) shown.accepted
              (all-met t wf every owed the_forest
              (first-met t wf S every owed q.depth nothing_above (starting_sets t) (eqb owed) (wanted-all owed (owed-few t wf S))
              (goal_of q ∷ []) suited));
          uses = refl;
        }

    first-verdict : verdict t q (first_record t q S) ≡ accepted S
    first-verdict =
        let told = (demand-two t q (first_record t q S) (used_set the_forest) wf.accepted valid).1 first-accepted in
        let within = used-part t first-shown.derives S first-shown.uses_only in
        rw (m.least (used_set the_forest) (first_record t q S, told) within) at told

    first-before : (rec : List ℕ) → Accepted t q rec S → Order (first_record t q S) rec
    unfolding first_record
    first-before rec a =
        rw a.whole at
        (first-order t wf S every owed a.derives (uses-only t q rec S a) nothing_above (on_none t) [] (starting_sets t)
        (starts t (bit_or every owed)) (meets-every t q rec S a) (eqb owed) (wanted-all owed (owed-few t wf S))
        (λ asks. met_all t wf every owed a.forest (meets-owed t q rec S a)))

    pub first-is : First t q S (first_record t q S)
    first-is =
        record {
          uses = first-verdict;
          first = λ rec T e within other. apart-before (first-before rec (uses-all rec T e within)) other;
        }

  -- the code's search finds that the goal can meet all that is owed
  pub minimal-provable : is_minimal t q S ≡ true → provable t q S every owed ≡ true
  minimal-provable h = proved (is-minimal-set t wf q valid S h)

  pub first-holdable : (rec : List ℕ) → First t q S rec → Holdable rec
  first-holdable rec first = accepted-holdable t wf q valid rec S first.uses

-- two first records are one: otherwise each would come before the other
pub one-first : (t : List ℕ) (q : Query) (S : ℕ) (rec rec' : List ℕ) → First t q S rec → First t q S rec' → rec ≡ rec'
one-first t q S rec rec' first first' = go (List-discrete ℕ_discrete rec rec')
  where
    go : Dec (rec ≡ rec') → rec ≡ rec'
    go (yes e) = e
    go (no e) =
        absurd (before-once (first.first rec' S first'.uses (part-refl S) (λ e'. e (sym e')))
        (first'.first rec S first.uses (part-refl S) e))
