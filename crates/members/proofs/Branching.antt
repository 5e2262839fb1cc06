-- The branch above a node as a search holds it: one pair more, and that it has just the pairs of the branch.
use mathlib.Core.Path.{◌≡◌, refl, sym, ap, ◌∙◌}
use mathlib.Core.List.{List, [], ◌∷◌}
use mathlib.Core.Bool.{Bool, true, false, not}
use Prim.Native.Nat.{ℕ, suc, ◌^◌, ◌<◌, ◌≤◌}
use native.Mathlib.Omega.{arith}
use native.Mathlib.Decide.{ℕ_discrete}
use lib.ListN.{get_or, length, length-replicate, length-set, set}
use lib.Seq.{get_or-set_other, get_or-set_same}
use lib.Bits.{bit_or}
use lib.Dec.{eqb}
use borrow.Author.Tests.{eq-eqb, eqb-true, ne_eqb}
use Rattle.sets.specs.Logic.{◌and◌, ◌or◌}
use Rattle.sets.specs.Sets.{in_set}
use Rattle.sets.proofs.Tests.{and_both, and_none, and-true, same_test}
use Rattle.sets.proofs.Members.{in_set-or, in_set-pow, in_set-zero}
use Rattle.table.specs.Limits.{most_credentials}
use Rattle.table.specs.Layout.{credential, credentials, same_role}
use Rattle.table.specs.declared.Role.{Role}
use Rattle.table.specs.declared.Goal.{Goal}
use Rattle.derivation.specs.Rules.{fresh, same_goal}
use Rattle.members.specs.Places.{person_at, role_at}
use Rattle.members.specs.Above.{is_above, nothing_above, pair_above, with_goal, with_pair}
use Rattle.members.specs.declared.above.Above.{Above}
use Rattle.members.proofs.Reading.{zeros}
use Rattle.members.proofs.Places.{person-stands, place_same, same_place}

-- the pair at these places stands there now, and who stood there before
pub with_pair_lem : (above : Above) (person place p r : ℕ) → r < length above.persons
    → pair_above (with_pair above person place) p r ≡ (pair_above above p r or (eqb person p and eqb place r))
unfolding pair_above with_pair ◌or◌
with_pair_lem above person place p r inside = go (ℕ_discrete r place)
  where
    more : ℕ
    more = bit_or (get_or above.persons place 0) (2 ^ person)

    go : Dec (r ≡ place) → in_set (get_or (set above.persons place more) r 0) p
        ≡ (in_set (get_or above.persons r 0) p or (eqb person p and eqb place r))
    go (yes e) =
        rw (e, get_or-set_same above.persons place more 0 (rw e at inside), eq-eqb place place refl, and-true (eqb person p))
        (in_set-or (get_or above.persons place 0) (2 ^ person) p
        ∙ ap (λ b. in_set (get_or above.persons place 0) p or b) (in_set-pow person p))
    go (no e) =
        rw (
          get_or-set_other above.persons place r more 0 e,
          and_none (eqb person p) (ne_eqb place r (λ same. e (sym same))),
        )
        (sym (or-none _))
      where
        or-none : (b : Bool) → (b or false) ≡ b
        or-none true = refl
        or-none false = refl

pub pair-room : (above : Above) (person place : ℕ) → length (with_pair above person place).persons ≡ length above.persons
unfolding with_pair
pair-room above person place = length-set above.persons place _

-- two principals, the second of whom has a place, are the same exactly where they stand at one
same-person : (t : List ℕ) (p q : ℕ) → person_at t q < credentials t → eqb p q ≡ eqb (person_at t p) (person_at t q)
same-person t p q there =
    same_test _ _ (λ e. eq-eqb _ _ (ap (person_at t) (eqb-true p q e)))
    (λ e.
    let at = eqb-true (person_at t p) (person_at t q) e in
    let first = (person-stands t p (rw at there)).1 in
    eq-eqb p q (sym first ∙ ap (λ (k : ℕ). (credential t (suc k)).first) at ∙ (person-stands t q there).1))

-- two roles likewise
same-eqb : (t : List ℕ) (r s : Role) → role_at t s < credentials t → same_role r s ≡ eqb (role_at t r) (role_at t s)
unfolding same_role
same-eqb t r s there =
    same_test _ _ (λ same. eq-eqb _ _ (same_place t r s same))
    (λ e.
    let at = eqb-true (role_at t r) (role_at t s) e in
    let same = place_same t r s at (rw at there) in
    rw same (and_both (eq-eqb s.owner.0 s.owner.0 refl) (eq-eqb s.name.0 s.name.0 refl)))

-- the goal's principal and role have places
pub record HasPlace (t : List ℕ) (g : Goal) : Type 0 where
  pub defined : role_at t g.role < credentials t
  pub named : person_at t g.principal.0 < credentials t

-- the pairs `above` are just those that stand on the branch
pub record OnBranch (t : List ℕ) (branch : List Goal) (above : Above) : Type 0 where
  pub room : length above.persons ≡ most_credentials
  pub same : (g : Goal) → HasPlace t g → fresh branch g ≡ not (is_above t above g)

pub nothing-pair : (p r : ℕ) → pair_above nothing_above p r ≡ false
unfolding pair_above nothing_above
nothing-pair p r = rw (zeros most_credentials r) (in_set-zero p)

pub nothing_above_lem : (t : List ℕ) (g : Goal) → is_above t nothing_above g ≡ false
unfolding is_above
nothing_above_lem t g = nothing-pair (person_at t g.principal.0) (role_at t g.role)

pub nothing-room : length nothing_above.persons ≡ most_credentials
unfolding nothing_above
nothing-room = length-replicate {A = ℕ} most_credentials 0

pub on_none : (t : List ℕ) → OnBranch t [] nothing_above
unfolding fresh
on_none t =
    record {
      room = nothing-room;
      same = λ g there. sym (ap not (nothing_above_lem t g));
    }

pub on-next : (t : List ℕ) → credentials t ≤ most_credentials → (branch : List Goal) (above : Above) (g : Goal)
    → OnBranch t branch above → OnBranch t (g ∷ branch) (with_goal t above g)
unfolding fresh same_goal is_above with_goal ◌and◌ ◌or◌
on-next t few branch above g on =
    record {
      room = pair-room above (person_at t g.principal.0) (role_at t g.role) ∙ on.room;
      same = λ h there.
          rw (
            with_pair_lem above (person_at t g.principal.0) (role_at t g.role) (person_at t h.principal.0) (role_at t h.role)
                (omega (arith, there.defined, on.room)),
            same-person t g.principal.0 h.principal.0 there.named,
            same-eqb t g.role h.role there.defined,
            on.same h there,
          )
          (apart (is_above t above h) _);
    }
  where
    apart : (a b : Bool) → (not b and not a) ≡ not (a or b)
    apart true true = refl
    apart true false = refl
    apart false true = refl
    apart false false = refl
