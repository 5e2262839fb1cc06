-- The least number that passes a test, and by it where roles and principals stand.
use mathlib.Core.Path.{◌≡◌, refl, sym, ap, ◌∙◌}
use mathlib.Core.List.{List}
use mathlib.Core.Bool.{Bool, true, false}
use Prim.Native.Nat.{ℕ, zero, suc, ◌≤◌, ◌<◌}
use native.Mathlib.Omega.{arith}
use native.Mathlib.Decide.{ℕ_discrete}
use borrow.Author.Tests.{eq-eqb, eqb-true, leb-false, leb-true}
use lib.Dec.{leb}
use Rattle.sets.specs.Logic.{any_below, pick}
use Rattle.sets.proofs.Tests.{and_both, and_first, and_second, any-not, any-shows, false-true}
use Rattle.table.specs.Layout.{credential, credentials, same_role}
use Rattle.table.specs.declared.Role.{Role}
use Rattle.derivation.proofs.Applying.{same-role}
use Rattle.members.specs.Places.{defines, is_naming, is_person, least, person_at, role_at}

pub same_self : (r : Role) → same_role r r ≡ true
unfolding same_role
same_self r = and_both (eq-eqb r.owner.0 _ refl) (eq-eqb r.name.0 _ refl)

-- m is the least number below n that passes, or n
record Least (p : ℕ → Bool) (n m : ℕ) : Type 0 where
  few : m ≤ n
  passes : m < n → p m ≡ true
  below : (k : ℕ) → k < m → p k ≡ false

-- what the least number below n gives the least one below n + 1
module _ (p : ℕ → Bool) (n m : ℕ) (before : Least p n m) where
  before-n : any_below p n ≡ true → m < n
  before-n some = go (leb n m) refl
    where
      go : (b : Bool) → leb n m ≡ b → m < n
      go false e = leb-false n m e
      go true e =
          let (k, l, passes) = any-shows p n some in
          absurd (false-true (sym (before.below k (omega (arith, leb-true n m e))) ∙ passes))

  least-older : any_below p n ≡ true → Least p (suc n) m
  least-older some =
      let l = before-n some in
      record { few = omega arith; passes = λ h. before.passes l; below = before.below }

least-here : (p : ℕ → Bool) (n : ℕ) → any_below p n ≡ false → p n ≡ true → Least p (suc n) n
least-here p n none here =
    record { few = omega arith; passes = λ h. here; below = λ k l. any-not p n k none l }

least-nowhere : (p : ℕ → Bool) (n : ℕ) → any_below p n ≡ false → p n ≡ false → Least p (suc n) (suc n)
least-nowhere p n none here = record { few = omega arith; passes = λ h. absurd (omega arith); below = below }
  where
    below : (k : ℕ) → k < suc n → p k ≡ false
    below k l = go (ℕ_discrete k n)
      where
        go : Dec (k ≡ n) → p k ≡ false
        go (yes same) = ap p same ∙ here
        go (no other) = any-not p n k none (omega arith)

least-is : (p : ℕ → Bool) (n : ℕ) → Least p n (least p n)
unfolding least pick
least-is p zero =
    record { few = omega arith; passes = λ h. absurd (omega arith); below = λ k l. absurd (omega arith) }
least-is p (suc n) = go (least-is p n) (any_below p n) refl (p n) refl
  where
    go : Least p n (least p n) → (some : Bool) → any_below p n ≡ some → (here : Bool) → p n ≡ here
        → Least p (suc n) (pick some (least p n) (pick here n (suc n)))
    go before true any here e = least-older p n (least p n) before any
    go before false any true e = least-here p n any e
    go before false any false e = least-nowhere p n any e

module _ (p : ℕ → Bool) (n : ℕ) where
  pub least-le : least p n ≤ n
  least-le = (least-is p n).few

  pub least-passes : least p n < n → p (least p n) ≡ true
  least-passes l = (least-is p n).passes l

  pub least-below : (k : ℕ) → k < least p n → p k ≡ false
  least-below k l = (least-is p n).below k l

  pub least-reached : (k : ℕ) → k < n → p k ≡ true → least p n ≤ k
  least-reached k l passes = go (leb (least p n) k) refl
    where
      go : (b : Bool) → leb (least p n) k ≡ b → least p n ≤ k
      go true e = leb-true (least p n) k e
      go false e = absurd (false-true (sym (least-below k (leb-false (least p n) k e)) ∙ passes))

  -- a search in ascending order that stops at i, or finds nothing
  pub least-found : (i : ℕ) → i < n → any_below p i ≡ false → p i ≡ true → i ≡ least p n
  least-found i l none passes =
      let reached = least-reached i l passes in go (leb i (least p n)) refl
    where
      go : (b : Bool) → leb i (least p n) ≡ b → i ≡ least p n
      go true e = omega (arith, leb-true i (least p n) e, least-reached i l passes)
      go false e =
          let before = leb-false i (least p n) e in
          absurd (false-true (sym (any-not p i (least p n) none before) ∙ least-passes (omega arith)))

  pub least-none : any_below p n ≡ false → n ≡ least p n
  least-none none = go (leb n (least p n)) refl
    where
      go : (b : Bool) → leb n (least p n) ≡ b → n ≡ least p n
      go true e = omega (arith, leb-true n (least p n) e, least-le)
      go false e =
          let before = leb-false n (least p n) e in
          absurd (false-true (sym (any-not p n (least p n) none before) ∙ least-passes before))

-- roles
module _ (t : List ℕ) (r : Role) where
  pub role-few : role_at t r ≤ credentials t
  unfolding role_at
  role-few = least-le (defines t r) (credentials t)

  pub role-stands : role_at t r < credentials t → (credential t (suc (role_at t r))).role ≡ r
  unfolding role_at defines
  role-stands l = same-role _ _ (least-passes (defines t r) (credentials t) l)

  pub role-first : (c : ℕ) → c < credentials t → same_role (credential t (suc c)).role r ≡ true → role_at t r ≤ c
  unfolding role_at defines
  role-first c l same = least-reached (defines t r) (credentials t) c l same

  pub role-defined : (c : ℕ) → c < credentials t → same_role (credential t (suc c)).role r ≡ true → role_at t r < credentials t
  role-defined c l same = omega (arith, role-first c l same)

pub same_place : (t : List ℕ) (r s : Role) → same_role r s ≡ true → role_at t r ≡ role_at t s
same_place t r s same = ap (role_at t) (same-role r s same)

pub place_same : (t : List ℕ) (r s : Role) → role_at t r ≡ role_at t s → role_at t r < credentials t → r ≡ s
place_same t r s same there =
    sym (role-stands t r there) ∙ ap (λ (k : ℕ). (credential t (suc k)).role) same ∙ role-stands t s (rw same at there)

-- principals
module _ (t : List ℕ) (p : ℕ) where
  pub person-stands : person_at t p < credentials t
      → ((credential t (suc (person_at t p))).kind ≡ 1) × ((credential t (suc (person_at t p))).first ≡ p)
  unfolding person_at is_naming
  person-stands l =
      let passes = least-passes (is_naming t p) (credentials t) l in
      (eqb-true _ _ (and_first _ _ passes), eqb-true _ _ (and_second _ _ passes))

  pub person-first : (c : ℕ) → c < credentials t → (credential t (suc c)).kind ≡ 1 → (credential t (suc c)).first ≡ p
      → person_at t p ≤ c
  unfolding person_at is_naming
  person-first c l one names =
      least-reached (is_naming t p) (credentials t) c l (and_both (eq-eqb _ _ one) (eq-eqb _ _ names))

  pub person-named : (c : ℕ) → c < credentials t → (credential t (suc c)).kind ≡ 1 → (credential t (suc c)).first ≡ p
      → person_at t p < credentials t
  person-named c l one names = omega (arith, person-first c l one names)

  pub person-is : person_at t p < credentials t → is_person t (person_at t p) ≡ true
  unfolding is_person
  person-is l =
      let (one, names) = person-stands l in
      and_both (eq-eqb _ _ one) (eq-eqb _ _ (ap (person_at t) names))

pub is-person : (t : List ℕ) (j : ℕ) → is_person t j ≡ true
    → ((credential t (suc j)).kind ≡ 1) × (person_at t (credential t (suc j)).first ≡ j)
unfolding is_person
is-person t j h = (eqb-true _ _ (and_first _ _ h), eqb-true _ _ (and_second _ _ h))
