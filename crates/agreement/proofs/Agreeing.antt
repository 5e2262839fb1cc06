-- Two meanings that agree accept the same records, renumbered, as far as these use none but the credentials on which they agree.
-- So they have the same used sets, the same sets that admit a record, and the same minimal sets, renumbered.
use mathlib.Core.Path.{◌≡◌, ap, ◌∙◌}
use mathlib.Core.List.{List}
use mathlib.Core.Bool.{Bool, true}
use Prim.Native.Nat.{ℕ, suc, ◌-◌}
use native.Mathlib.Omega.{arith}
use borrow.Author.Tests.{eqb-true}
use Rattle.sets.proofs.Tests.{false-true, or-either}
use Rattle.sets.proofs.Members.{part-member}
use Rattle.table.specs.Layout.{Numbered}
use Rattle.table.specs.declared.Goal.{Goal}
use Rattle.table.specs.declared.Query.{Query}
use Rattle.derivation.specs.Forest.{DerivesBy, Forest, names, used_set}
use Rattle.derivation.specs.Forest.DerivesBy.{done, step}
use Rattle.agreement.specs.Meaning.{AcceptedIn, Meaning, UsedIn}
use Rattle.agreement.specs.Agrees.{AdmittedOf, Agrees, Among, MinimalOf, Numbers, renamed_record, renumbered}
use Rattle.agreement.proofs.Carrying.{all-within, complies-carried, derives-carried, named_back, written-renamed}
use Rattle.agreement.proofs.Renumbering.{minimal-carried, on-part, used-is, used-renamed}

pub named-numbered : (w : Meaning) (n : ℕ) → Numbers w n → {l : ℕ} {b gs : List Goal} {f : Forest} → DerivesBy w.asks l b gs f
    → (c : ℕ) → names f c ≡ true → Numbered n c
unfolding names
named-numbered w n numbers done c h = absurd (false-true h)
named-numbered w n numbers (step {c = d} {m} {goals = goals} {g = g} applies new below later) c h =
    or-either
    (λ e. rw (eqb-true d c e) at (numbers g d m goals applies))
    (or-either (named-numbered w n numbers below c) (named-numbered w n numbers later c))
    h

-- a derivation whose used set has none but such credentials names none but such
pub named-among : (w : Meaning) (n : ℕ) → Numbers w n → {l : ℕ} {b gs : List Goal} {f : Forest} → DerivesBy w.asks l b gs f
    → (mine : ℕ → Bool) → Among mine (used_set f) → (c : ℕ) → names f c ≡ true → mine c ≡ true
named-among w n numbers {f = f} derived mine among c named =
    let first = (named-numbered w n numbers derived c named).first in
    let same : suc (c - 1) ≡ c = omega arith in
    let all = used-is f (λ d h. (named-numbered w n numbers derived d h).first) (c - 1) in
    rw same at (among (c - 1) (all ∙ rw same named))

-- agreement is the same seen from the other side
abbrev pub turned : {w w' : Meaning} {n n' : ℕ} {mine theirs : ℕ → Bool} {to from : ℕ → ℕ}
    → Agrees w w' n n' mine theirs to from → Agrees w' w n' n theirs mine from to
turned a =
    record {
      numbers = a.numbers';
      numbers' = a.numbers;
      renumbers = record { onward = a.renumbers.backward; backward = a.renumbers.onward };
      carries = a.carries-back;
      carries-back = a.carries;
    }

module _ (w w' : Meaning) (n n' : ℕ) (mine theirs : ℕ → Bool) (to from : ℕ → ℕ) (a : Agrees w w' n n' mine theirs to from)
    (q : Query) where
  pub accepted-carried : (rec : List ℕ) (S : ℕ) → Among mine S → AcceptedIn w q rec S
      → AcceptedIn w' q (renamed_record to rec) (renumbered theirs from n' S)
  accepted-carried rec S among u =
      let f = u.forest in
      let all = named-among w n a.numbers u.derives mine (rw u.uses among) in
      let within = all-within (λ c. mine c ≡ true) f all in
      record {
        forest = _;
        derives = derives-carried w w' _ to a.carries u.derives within;
        whole = written-renamed to f ∙ ap (renamed_record to) u.whole;
        complies = complies-carried w w' _ to a.carries within u.complies;
        uses = rw (← u.uses) (used-renamed n n' mine theirs to from a.renumbers f all
            (λ c' h. let (c, m, named, p, same) = named_back w w' _ to a.carries within c' h in (c, named, same)));
      }

  pub used-carried : (S : ℕ) → Among mine S → UsedIn w q S → UsedIn w' q (renumbered theirs from n' S)
  used-carried S among (rec, u) = (renamed_record to rec, accepted-carried rec S among u)

  -- a set of such credentials admits a record exactly if its counterpart does; `admitted-carried` of `turned a` is the way back
  pub admitted-carried : (S : ℕ) → Among mine S → AdmittedOf (UsedIn w q) S
      → AdmittedOf (UsedIn w' q) (renumbered theirs from n' S)
  admitted-carried S among (T, used, within) =
      let own : Among mine T = λ i h. among i (part-member T S i within h) in (
        renumbered theirs from n' T,
        used-carried T own used,
        on-part n n' mine theirs to from a.renumbers T S within,
      )

pub minimal-agrees : (w w' : Meaning) (n n' : ℕ) (mine theirs : ℕ → Bool) (to from : ℕ → ℕ)
    → Agrees w w' n n' mine theirs to from
    → (q : Query) (S : ℕ) → Among mine S → MinimalOf (UsedIn w q) S → MinimalOf (UsedIn w' q) (renumbered theirs from n' S)
minimal-agrees w w' n n' mine theirs to from a q S among =
    minimal-carried n n' mine theirs to from a.renumbers (UsedIn w q) (UsedIn w' q)
    (used-carried w w' n n' mine theirs to from a q) (used-carried w' w n' n theirs mine from to (turned a) q) S among
