-- What a call tells by its result: a refusal by its parts, and one stage of the checks whose refusal is handed on.
use mathlib.Core.Path.{◌≡◌, refl, sym, ap, ◌∙◌}
use Prim.Native.Nat.{ℕ}
use Rattle.std.specs.Prelude.{Result, Ok, Err}
use Rattle.table.specs.Outcome.{Outcome, ◌and_then◌}
use Rattle.table.specs.Outcome.Outcome.{accepted, refused}
use Rattle.table.specs.Checks.{number_of, outcome_of, told}
use Rattle.table.specs.declared.Reason.{Reason}
use Rattle.table.specs.declared.Refusal.{Refusal}

-- a refusal tells the number of its reason, and its position
pub told-at : (r : Reason) (position : ℕ) → told (record { reason = r; position = position }) ≡ refused (number_of r) position
unfolding told
told-at r position = refl

module _ {A : Type 0} (value : A → ℕ) where
  pub tells-value : (a : A) → outcome_of value (Ok a) ≡ accepted (value a)
  unfolding outcome_of
  tells-value a = refl

  pub tells-refusal : (why : Refusal) → outcome_of value (Err why) ≡ told why
  unfolding outcome_of
  tells-refusal why = refl

  -- refused for this reason, at this position
  pub tells-at : (r : Reason) (position : ℕ) → outcome_of value (Err (record { reason = r; position = position })) ≡ refused (number_of r) position
  unfolding outcome_of told
  tells-at r position = refl

  -- refused for this reason as a whole, as the conversion makes it
  pub tells-whole : {r : Reason} {why : Refusal} → why ≡ record { reason = r; position = 0 } → outcome_of value (Err why) ≡ refused (number_of r) 0
  unfolding outcome_of told
  tells-whole whole = rw whole

-- a call that makes one stage of the checks, and what its result says of the stage's outcome
module _ {A : Type 0} (value : A → ℕ) {answer : Result A Refusal} {stage : Outcome} (meets : outcome_of value answer ≡ stage) where
  pub stage-passed : {a : A} → answer ≡ Ok a → stage ≡ accepted (value a)
  unfolding outcome_of
  stage-passed h = sym meets ∙ ap (outcome_of value) h

  -- a refusal is the whole call's, whatever follows
  pub stage-stops : {B : Type 0} (value' : B → ℕ) {why : Refusal} (later : Outcome) → answer ≡ Err why
      → outcome_of value' (Err why) ≡ (stage and_then later)
  unfolding outcome_of told ◌and_then◌
  stage-stops value' later h = rw (← meets, h)

  -- and so it is where `?` hands it on
  pub stage-hands-on : {B : Type 0} (value' : B → ℕ) {why : Refusal} {handed : Result B Refusal} (later : Outcome)
      → answer ≡ Err why → handed ≡ Err why → outcome_of value' handed ≡ (stage and_then later)
  stage-hands-on value' later h on = rw on (stage-stops value' later h)
