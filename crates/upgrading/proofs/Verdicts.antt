-- An accepted table's verdicts are those of its records.
use mathlib.Core.Path.{◌≡◌, refl, sym, fun_ext, subst, subst⁻¹}
use mathlib.Core.List.{List, [], ◌∷◌}
use mathlib.Core.Logic.{◌↔◌}
use Prim.Native.Nat.{ℕ}
use lib.Dec.{eqb}
use Rattle.table.specs.Limits.{most_principals}
use Rattle.table.specs.Outcome.{Outcome}
use Rattle.table.specs.Layout.{Numbered, automata}
use Rattle.table.specs.Holding.{WellFormed}
use Rattle.table.specs.declared.Goal.{Goal}
use Rattle.table.specs.declared.Role.{Role}
use Rattle.table.specs.declared.Query.{Query}
use Rattle.table.proofs.Stages.{each-alike}
use Rattle.derivation.specs.Rules.{premises}
use Rattle.derivation.specs.Forest.{Derives, Forest}
use Rattle.derivation.specs.Forest.DerivesBy.{done, step}
use Rattle.derivation.specs.Words.{met, uses_automaton, uses_by, words, words_by}
use Rattle.derivation.proofs.Applying.{applies-numbered}
use Rattle.reader.specs.Reading.{Reading}
use Rattle.verifier.specs.Verdict.{judged, judged_by}
use Rattle.verifier.proofs.Readings.{Ends, queried, reader-ends}
use Rattle.verifier.proofs.Readings.Ends.{reads, stops}
use Rattle.agreement.specs.Opened.{opened, premises_of}
use Rattle.agreement.proofs.Opening.{open-credential, open-met, open-premises}
use Rattle.upgrading.specs.Verdicts.{met_of, told_of}

module _ (t : List ℕ) (wf : WellFormed t) where
  rules-same : premises t ≡ premises_of most_principals (opened t)
  rules-same = fun_ext λ g. fun_ext λ c. fun_ext λ m. sym (open-premises t wf g c m)

  -- the words of a derivation and the automata that it uses go by its credentials
  words_open : {levels : ℕ} {branch goals : List Goal} {f : Forest} → Derives t levels branch goals f
      → (above : List Role)
      → words_by (λ c. ((opened t).credential c).role) (λ c. eqb ((opened t).credential c).kind 1) above f ≡ words t above f
  unfolding words_by
  words_open done above = refl
  words_open (step {c = c} {m} {goals = goals} {g = g} fits new children siblings) above =
      rw (open-credential t wf c (applies-numbered t g c m goals fits), words_open children _, words_open siblings above)

  uses-open : {levels : ℕ} {branch goals : List Goal} {f : Forest} → Derives t levels branch goals f
      → (k : ℕ) → uses_by (λ c. ((opened t).credential c).automaton) f k ≡ uses_automaton t f k
  unfolding uses_by
  uses-open done k = refl
  uses-open (step {c = c} {m} {goals = goals} {g = g} fits new children siblings) k =
      rw (open-credential t wf c (applies-numbered t g c m goals fits), uses-open children k, uses-open siblings k)

  met-open : {levels : ℕ} {branch goals : List Goal} {f : Forest} → Derives t levels branch goals f
      → (k : ℕ) → Numbered (automata t) k → met t f k ≡ met_of (opened t) f k
  unfolding met met_of
  met-open derived k there = rw (uses-open derived k, words_open derived [], open-met t wf k there)

  judged-open : {levels : ℕ} {branch goals : List Goal} {at : ℕ} {rec : List ℕ} {r : Reading}
      → Ends t levels branch goals at rec r → judged t r ≡ judged_by (met_of (opened t)) (automata t) r
  unfolding judged_by
  judged-open (reads {rest = []} derived) = rw (each-alike _ _ (automata t) 14 (met-open derived))
  judged-open (reads {rest = x ∷ more} derived) = refl
  judged-open (stops s) = refl

  pub told-open : (q : Query) (rec : List ℕ) → judged t (queried t q rec) ≡ told_of most_principals (opened t) q rec
  unfolding told_of
  told-open q rec = rw (← rules-same) (judged-open (reader-ends t q.depth [] _ rec 1))

-- where two verifiers tell the same of every record, what goes by what they tell is the same
pub either_way : {tells tells' : List ℕ → Outcome} → ((rec : List ℕ) → tells rec ≡ tells' rec)
    → (P : (List ℕ → Outcome) → Type 0) → P tells ↔ P tells'
either_way same P = (subst P (fun_ext same), subst⁻¹ P (fun_ext same))
