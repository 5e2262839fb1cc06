-- A C call tells what its callee answers. No refusal has the number 0, so the result tells it from acceptance.
use Prim.Native.Nat.{ℕ}
use mathlib.Core.Path.{◌≡◌, refl, sym, ap, ◌∙◌}
use Rattle.std.specs.Prelude.{Result, Ok, Err, MatchResult, IsOkAnd}
use Rattle.table.specs.Outcome.{Outcome}
use Rattle.table.specs.Outcome.Outcome.{accepted, refused}
use Rattle.table.specs.Checks.{number_of, outcome_of}
use Rattle.table.specs.declared.Reason.{Reason}
use Rattle.table.specs.declared.Refusal.{Refusal}
use Rattle.table.specs.declared.Reason.TheVariants as reason
use Rattle.answers.specs.Answer.{answered}

pub answered-refusal : (r : Reason) (position : ℕ) → answered (number_of r) position ≡ refused (number_of r) position
unfolding answered number_of
answered-refusal reason.ShortHead position = refl
answered-refusal reason.CountOverLimit position = refl
answered-refusal reason.WrongLength position = refl
answered-refusal reason.Credential position = refl
answered-refusal reason.Cell position = refl
answered-refusal reason.Chain position = refl
answered-refusal reason.Edge position = refl
answered-refusal reason.Query position = refl
answered-refusal reason.NoMinimalSet position = refl
answered-refusal reason.LongerThanBuffer position = refl
answered-refusal reason.RecordLength position = refl
answered-refusal reason.Node position = refl
answered-refusal reason.Branch position = refl
answered-refusal reason.Word position = refl
answered-refusal reason.NotListed position = refl
answered-refusal reason.LongerRecord position = refl
answered-refusal reason.Mark position = refl

-- the callee's answer r, which the call finds to be r' and tells, has the outcome p
pub told-as : {A : Type 0} (answer : A → Outcome) {r r' : A} {o p : Outcome} → o ≡ answer r' → r ≡ r' → answer r ≡ p → o ≡ p
told-as answer own found outcome = own ∙ ap answer (sym found) ∙ outcome

-- a result whose value was turned into a number tells what it told before
pub told-mapped : {A : Type 0} (value : A → ℕ) (P : A → ℕ → Type 0) → ((a : A) (n : ℕ) → P a n → n ≡ value a)
    → (r : Result A Refusal) (m : Result ℕ Refusal) → MatchResult r (λ a. IsOkAnd m (P a)) (λ why. m ≡ Err why)
    → outcome_of (λ v. v) m ≡ outcome_of value r
unfolding outcome_of
told-mapped value P same (Ok a) (Ok n) h = ap accepted (same a n h)
told-mapped value P same (Ok a) (Err why) h = absurd h
told-mapped value P same (Err why) m h = rw h
