-- What is carried from one meaning to another: derivations, words, compliance.
use mathlib.Core.Path.{◌≡◌, refl, sym, ap, ◌∙◌}
use mathlib.Core.List.{List, [], ◌∷◌, ◌++◌, append_assoc, append-nil}
use mathlib.Core.Bool.{true}
use Prim.Native.Nat.{ℕ}
use lib.Dec.{eqb}
use borrow.Author.Tests.{eqb-true, eq-eqb}
use Rattle.sets.proofs.Tests.{false-true, or-either, or-first, or-second}
use Rattle.table.specs.declared.Goal.{Goal}
use Rattle.table.specs.declared.Role.{Role}
use Rattle.derivation.specs.Forest.{DerivesBy, Forest, names, written}
use Rattle.derivation.specs.Forest.Forest.{end, node}
use Rattle.derivation.specs.Forest.DerivesBy.{done, step}
use Rattle.derivation.specs.Words.{words_by}
use Rattle.agreement.specs.Meaning.{CompliesIn, Meaning, words_in}
use Rattle.agreement.specs.Agrees.{Carries, Within, renamed, renamed_record}
use Rattle.agreement.specs.Agrees.Within.{each, none}

module _ (w w' : Meaning) (P : ℕ → ℕ → Type 0) (to : ℕ → ℕ) (carries : Carries w w' P to) where
  pub derives-carried : {l : ℕ} {b gs : List Goal} {f : Forest} → DerivesBy w.asks l b gs f → Within P f
      → DerivesBy w'.asks l b gs (renamed to f)
  unfolding renamed
  derives-carried done none = done
  derives-carried (step {c = c} {m = m} {goals = goals} {g = g} applies new below later) (each here under behind) =
      step (carries.asks g c m goals here applies) new (derives-carried below under) (derives-carried later behind)

  pub words-carried : {f : Forest} → Within P f → (above : List Role) → words_in w' above (renamed to f) ≡ words_in w above f
  unfolding words_by renamed
  words-carried none above = refl
  words-carried (each {c} {m} here under behind) above =
      rw (carries.role c m here, carries.ends c m here, words-carried under, words-carried behind)

  -- a credential that the renumbered forest names is the counterpart of one that the forest names
  pub named_back : {f : Forest} → Within P f → (c' : ℕ) → names (renamed to f) c' ≡ true
      → (c m : ℕ) × (names f c ≡ true) × P c m × (to c ≡ c')
  unfolding names renamed
  named_back none c' h = absurd (false-true h)
  named_back (each {c} {m} {children} {siblings} here under behind) c' h =
      or-either
      (λ e. (c, m, or-first _ (eq-eqb c c refl), here, eqb-true (to c) c' e))
      (or-either
      (λ e. let (d, k, named, p, same) = named_back under c' e in (d, k, or-second (eqb c d) (or-first _ named), p, same))
      (λ e. let (d, k, named, p, same) = named_back behind c' e in
      (d, k, or-second (eqb c d) (or-second (names children d) named), p, same)))
      h

  pub complies-carried : {f : Forest} → Within P f → CompliesIn w f → CompliesIn w' (renamed to f)
  complies-carried {f} within met c' named =
      let (c, m, there, p, same) = named_back within c' named in
      rw (← same, words-carried within [], carries.demands c m p) (met c there)

-- whatever the numbers are
pub named-on : (to : ℕ → ℕ) (f : Forest) (c : ℕ) → names f c ≡ true → names (renamed to f) (to c) ≡ true
unfolding names renamed
named-on to end c h = absurd (false-true h)
named-on to (node d m children siblings) c h =
    or-either
    (λ e. or-first _ (eq-eqb (to d) (to c) (ap to (eqb-true d c e))))
    (or-either
    (λ e. or-second _ (or-first _ (named-on to children c e)))
    (λ e. or-second _ (or-second _ (named-on to siblings c e))))
    h

-- a forest whose named credentials are all of a kind is within it
pub all-within : (P : ℕ → Type 0) (f : Forest) → ((c : ℕ) → names f c ≡ true → P c) → Within (λ c m. P c) f
unfolding names
all-within P end all = none
all-within P (node c m children siblings) all =
    each (all c (or-first _ (eq-eqb c c refl)))
    (all-within P children (λ d h. all d (or-second _ (or-first _ h))))
    (all-within P siblings (λ d h. all d (or-second _ (or-second _ h))))

-- a renumbered forest is written as the record, renumbered
pub written_on : (to : ℕ → ℕ) (f : Forest) (rest : List ℕ)
    → renamed_record to (written f ++ rest) ≡ written (renamed to f) ++ renamed_record to rest
unfolding written renamed renamed_record
written_on to end rest = refl
written_on to (node c m children siblings) rest =
    ap (λ (l : List ℕ). to c ∷ m ∷ l)
    (ap (renamed_record to) (append_assoc (written children) (written siblings) rest)
    ∙ written_on to children (written siblings ++ rest)
    ∙ ap (λ (l : List ℕ). written (renamed to children) ++ l) (written_on to siblings rest)
    ∙ sym (append_assoc (written (renamed to children)) (written (renamed to siblings)) (renamed_record to rest)))

pub written-renamed : (to : ℕ → ℕ) (f : Forest) → written (renamed to f) ≡ renamed_record to (written f)
unfolding renamed_record
written-renamed to f =
    sym (append-nil (written (renamed to f))) ∙ sym (written_on to f []) ∙ ap (renamed_record to) (append-nil (written f))
