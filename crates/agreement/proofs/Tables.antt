-- A table accepts what its meaning accepts.
use mathlib.Core.Path.{◌≡◌, refl}
use mathlib.Core.List.{List}
use mathlib.Core.Bool.{Bool, true, false}
use Prim.Native.Nat.{ℕ}
use lib.Dec.{eqb}
use borrow.Author.Tests.{eqb-false, ne_eqb}
use Rattle.sets.specs.Logic.{◌or◌}
use Rattle.table.specs.Layout.{credential, credentials}
use Rattle.table.specs.declared.Query.{Query}
use Rattle.derivation.specs.Forest.{Forest}
use Rattle.derivation.specs.Words.{Complies}
use Rattle.derivation.specs.Accepted.{Accepted}
use Rattle.derivation.proofs.Applying.{applies-numbered}
use Rattle.agreement.specs.Meaning.{AcceptedIn, CompliesIn, demands_of, meaning}
use Rattle.agreement.specs.Agrees.{Numbers}

pub table-numbers : (t : List ℕ) → Numbers (meaning t) (credentials t)
table-numbers t g c m goals applies = applies-numbered t g c m goals applies

-- no automaton, or one that is met
either : (k : ℕ) (met : Bool) → ((k ≡ 0 → ⊥) → met ≡ true) → (eqb k 0 or met) ≡ true
unfolding ◌or◌
either k met h = go (eqb k 0) refl
  where
    go : (b : Bool) → eqb k 0 ≡ b → (b or met) ≡ true
    go true e = refl
    go false e = h (eqb-false k 0 e)

constrained : (k : ℕ) (met : Bool) → (eqb k 0 or met) ≡ true → (k ≡ 0 → ⊥) → met ≡ true
unfolding ◌or◌
constrained k met h some = rw (ne_eqb k 0 some) at h

complies-in : (t : List ℕ) (f : Forest) → Complies t f → CompliesIn (meaning t) f
unfolding demands_of
complies-in t f met c named = either (credential t c).automaton _ (met c named)

in-complies : (t : List ℕ) (f : Forest) → CompliesIn (meaning t) f → Complies t f
unfolding demands_of
in-complies t f met c named some = constrained (credential t c).automaton _ (met c named) some

module _ (t : List ℕ) (q : Query) (rec : List ℕ) (S : ℕ) where
  pub accepted-in : Accepted t q rec S → AcceptedIn (meaning t) q rec S
  accepted-in a =
      record {
        forest = a.forest;
        derives = a.derives;
        whole = a.whole;
        complies = complies-in t a.forest a.complies;
        uses = a.uses;
      }

  pub in-accepted : AcceptedIn (meaning t) q rec S → Accepted t q rec S
  in-accepted a =
      record {
        forest = a.forest;
        derives = a.derives;
        whole = a.whole;
        complies = in-complies t a.forest a.complies;
        uses = a.uses;
      }
