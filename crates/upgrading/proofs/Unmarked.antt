-- A table of the base layout and the table that it is upgraded to have the same records (crates/table/proofs/Upgrading.antt), so
-- they have the same answers.
use mathlib.Core.Path.{◌≡◌, refl, ap, ◌∙◌}
use mathlib.Core.List.{List}
use Prim.Native.Nat.{ℕ}
use lib.ListN.{length}
use borrow.Author.Tests.{eqb-true}
use Rattle.table.specs.Limits.{most_principals}
use Rattle.table.specs.Outcome.{Outcome, ◌and_then◌}
use Rattle.table.specs.Outcome.Outcome.{accepted, refused}
use Rattle.table.specs.Layout.{automata, cell, cells, credential, credentials, edges}
use Rattle.table.specs.Checks.{AcceptedTable, request_outcome}
use Rattle.table.specs.Upgraded.{base_automaton, base_edge, base_head_outcome, base_length, base_outcome, upgraded}
use Rattle.table.specs.declared.Query.{Query}
use Rattle.table.proofs.Stages.{demand-true, each-value, then-alike, then-first, then-second}
use Rattle.table.proofs.Upgrading.{upgrading}
use Rattle.table.proofs.WellFormed.{well-formed}
use Rattle.verifier.specs.Verdict.{judged, verdict}
use Rattle.verifier.proofs.Readings.{queried}
use Rattle.agreement.specs.Opened.{opened}
use Rattle.agreement.proofs.Opening.{opened-same}
use Rattle.upgrading.specs.Verdicts.{FirstBy, MinimalBy, told_of}
use Rattle.upgrading.specs.Unmarked.{SameFirst, SameMinimal, SameVerdicts, opened_base, verdict_before}
use Rattle.upgrading.proofs.Verdicts.{either_way, told-open}

upgraded-opened : (t : List ℕ) → length t ≡ base_length t → opened (upgraded t) ≡ opened_base t
upgraded-opened t exact =
    let same = (upgrading t).1 exact in
    rw (same.credentials, same.cells, same.automata, same.edges)
    (opened-same (credentials t) (cells t) (automata t) (edges t) _ (credential t) _ (cell t) _ (base_automaton t) _ (base_edge t)
    same.credential same.cell same.automaton (λ x h. same.edge x))

-- an accepted table of the base layout has its length
exact-length : (t : List ℕ) (v : ℕ) → base_outcome t ≡ accepted v → length t ≡ base_length t
unfolding base_outcome base_head_outcome
exact-length t v e =
    let (w, head) = then-first (base_head_outcome t) _ v e in
    eqb-true _ _ (demand-true _ 3 0 w (then-second _ _ w (then-second _ _ w head)))

-- and its value is 0, that of the last row
value-zero : (t : List ℕ) (v : ℕ) → base_outcome t ≡ accepted v → v ≡ 0
unfolding base_outcome
value-zero t v e =
    each-value _ _ 7 v (then-second _ _ v (then-second _ _ v (then-second _ _ v (then-second _ _ v e))))

read_same : (t : List ℕ) (v : ℕ) → base_outcome t ≡ accepted v → (q : Query) (rec : List ℕ)
    → judged (upgraded t) (queried (upgraded t) q rec) ≡ told_of most_principals (opened_base t) q rec
read_same t v passed q rec =
    let table : AcceptedTable (upgraded t) = (upgrading t).0 ∙ passed ∙ ap accepted (value-zero t v passed) in
    told-open (upgraded t) (well-formed (upgraded t) table) q rec
    ∙ ap (λ o. told_of most_principals o q rec) (upgraded-opened t (exact-length t v passed))

then-then : (a b c : Outcome) → ((a and_then b) and_then c) ≡ (a and_then b and_then c)
unfolding ◌and_then◌
then-then (accepted v) b c = refl
then-then (refused number position) b c = refl

pub same-verdicts : SameVerdicts
unfolding verdict verdict_before request_outcome
same-verdicts t q rec =
    rw then-then (then-alike (upgrading t).0 λ v table. then-alike refl λ w query. read_same t v table q rec)

pub same-minimal : SameMinimal
same-minimal t q S =
    let (now-before, before-now) = either_way (same-verdicts t q) (λ tells. MinimalBy tells S) in (
      λ m. now-before (record { used = m.used; least = m.least }),
      λ m. let now = before-now m in record { used = now.used; least = now.least },
    )

pub same_first : SameFirst
same_first Before t q S rec = either_way (same-verdicts t q) (λ tells. FirstBy Before tells S rec)
