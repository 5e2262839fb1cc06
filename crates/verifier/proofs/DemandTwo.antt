-- Demand 2, proved: the verifier accepts exactly the records that derive and comply, a record has at most one derivation, and a
-- refused record is told the number and the position that come first.
use mathlib.Core.Path.{◌≡◌, refl, sym, ◌∙◌}
use mathlib.Core.List.{List, [], ◌∷◌, ◌++◌, append-nil}
use mathlib.Core.Logic.{⊎_elim}
use Prim.Native.Nat.{ℕ}
use Rattle.table.specs.Outcome.{◌and_then◌, demand_each}
use Rattle.table.specs.Outcome.Outcome.{accepted, refused}
use Rattle.table.specs.Layout.{automata}
use Rattle.table.specs.Holding.{WellFormed}
use Rattle.table.proofs.WellFormed.{well-formed}
use Rattle.table.specs.Checks.{AcceptedTable, Valid, request_outcome}
use Rattle.table.specs.declared.Query.{Query}
use Rattle.table.proofs.Stages.{FirstFailure, each_all, each_first, each-ok, each-refused}
use Rattle.table.proofs.Stages.{refused-accepted, then-first, then-refused, then-second}
use Rattle.derivation.specs.Rules.{goal_of}
use Rattle.derivation.specs.Forest.{Derives, Forest, written}
use Rattle.derivation.specs.Words.{met}
use Rattle.derivation.proofs.Complying.{complies-met, met-complies}
use Rattle.reader.specs.Reading.{Reading}
use Rattle.derivation.specs.Accepted.{Accepted}
use Rattle.verifier.specs.Verdict.{judged, judged_by, verdict}
use Rattle.verifier.specs.DemandTwo.{DemandTwo, EveryRefusal, FirstRefusal, OneDerivation, Refuses}
use Rattle.verifier.specs.DemandTwo.Refuses.{stops as reading, leftover, rejected}
use Rattle.verifier.proofs.Readings.{Ends, ends-stop, queried, reader-complete, reader-ends, reader-stops}
use Rattle.verifier.proofs.Readings.Ends.{reads, stops}

same-value : {v w : ℕ} → accepted v ≡ accepted w → v ≡ w
same-value e = cc

-- on an accepted table and a valid query the verdict is the reading's
verdict-judged : (t : List ℕ) (q : Query) (rec : List ℕ) → AcceptedTable t → Valid q
    → verdict t q rec ≡ judged t (queried t q rec)
unfolding verdict request_outcome ◌and_then◌
verdict-judged t q rec table valid = rw (table, valid)

-- how the reading of a whole record ends
abbrev EndsFor : List ℕ → Query → List ℕ → Reading → Type 0
EndsFor t q rec r = Ends t q.depth [] (goal_of q ∷ []) 1 rec r

ends-for : (t : List ℕ) (q : Query) (rec : List ℕ) → EndsFor t q rec (queried t q rec)
ends-for t q rec = reader-ends t q.depth [] (goal_of q ∷ []) rec 1

module _ (t : List ℕ) (wf : WellFormed t) (q : Query) (S : ℕ) where
  judged-accepts : {rec : List ℕ} {r : Reading} → EndsFor t q rec r → judged t r ≡ accepted S → Accepted t q rec S
  unfolding judged_by
  judged-accepts (reads {rest = []} {f} d) e =
      record {
        forest = f;
        derives = d;
        whole = sym (append-nil (written f));
        complies = met-complies wf d (each-ok (met t f) 14 (automata t) _ (then-first _ _ S e).1);
        uses = same-value (then-second (demand_each (met t f) (automata t) 14) _ S e);
      }
  judged-accepts (reads {rest = x ∷ more} d) e = absurd (refused-accepted e)
  judged-accepts (stops s) e = absurd (refused-accepted e)

  accepts-judged : {rec : List ℕ} → Accepted t q rec S → judged t (queried t q rec) ≡ accepted S
  unfolding judged_by ◌and_then◌
  accepts-judged a =
      let all-met = each_all (met t a.forest) 14 (automata t) (complies-met wf a.derives a.complies) in
      rw (← a.whole, ← append-nil (written a.forest), reader-complete t a.derives [] 1, all-met, a.uses)

pub demand-two : DemandTwo
demand-two t q rec S table valid =
    let told = verdict-judged t q rec table valid in
    let wf = well-formed t table in
    ((λ e. judged-accepts t wf q S (ends-for t q rec) (sym told ∙ e)), (λ a. told ∙ accepts-judged t wf q S a))

pub one-derivation : OneDerivation
one-derivation t levels branch goals f f' d d' same =
    let one = reader-complete t d [] 1 in
    let two = reader-complete t d' [] 1 in
    cc

pub first-refusal : FirstRefusal
first-refusal t levels branch goals rec at number position =
    (ends-stop (reader-ends t levels branch goals rec at), reader-stops)

-- what is told where a reading is refused, both ways
module _ (t : List ℕ) (q : Query) where
  same-refusal : {rec : List ℕ} {number position number' position' : ℕ} → refused number position ≡ refused number' position'
      → Refuses t q rec number position → Refuses t q rec number' position'
  same-refusal {number} {position} {number'} {position'} e r =
      let one : number ≡ number' = cc in
      let two : position ≡ position' = cc in
      rw (one, two) at r

  -- the row of automata stops: 14, and the first that is not met
  rejects : {f : Forest} {number position : ℕ} → Derives t q.depth [] (goal_of q ∷ []) f
      → (14 ≡ number) × FirstFailure (met t f) (automata t) position
      → Refuses t q (written f ++ []) number position
  rejects {f} d (own, first) =
      rw own at (rejected d (append-nil (written f)) first.within first.fails first.before)

  judged-refuses : {rec : List ℕ} {r : Reading} {number position : ℕ} → EndsFor t q rec r → judged t r ≡ refused number position
      → Refuses t q rec number position
  unfolding judged_by
  judged-refuses (reads {rest = []} {f} d) e =
      ⊎_elim (λ row. rejects d (each-refused (met t f) 14 (automata t) _ _ row))
      (λ (w, passed, last). absurd (refused-accepted (sym last)))
      (then-refused (demand_each (met t f) (automata t) 14) _ _ _ e)
  judged-refuses (reads {rest = x ∷ more} d) e = same-refusal e (leftover x more d refl)
  judged-refuses (stops s) e = same-refusal e (reading s)

  refuses-judged : {rec : List ℕ} {number position : ℕ} → Refuses t q rec number position
      → judged t (queried t q rec) ≡ refused number position
  unfolding judged_by ◌and_then◌
  refuses-judged (reading s) = rw (reader-stops s)
  refuses-judged (leftover x more d whole) = rw (whole, reader-complete t d (x ∷ more) 1)
  refuses-judged (rejected {f} {k} d whole within fails before) =
      let row = each_first (met t f) 14 (automata t) k (record { within = within; fails = fails; before = before }) in
      rw (whole, ← append-nil (written f), reader-complete t d [] 1, row)

pub every-refusal : EveryRefusal
every-refusal t q rec number position table valid =
    let told = verdict-judged t q rec table valid in
    ((λ e. judged-refuses t q (ends-for t q rec) (sym told ∙ e)), (λ r. told ∙ refuses-judged t q r))
