-- The rules, case by case: what a credential asks once the code's tests are known.
use mathlib.Core.Path.{◌≡◌, refl, sym, ap, ◌∙◌}
use mathlib.Core.List.{List}
use mathlib.Core.Bool.{Bool, true, false, not, ◌&&◌}
use mathlib.Core.Option.{none, some}
use Prim.Native.Nat.{ℕ, ◌≤◌, ◌<◌}
use native.Mathlib.Omega.{arith}
use lib.Dec.{eqb}
use borrow.Author.Tests.{ne_eqb, le-leb, lt-leb, not-true, not-false}
use Rattle.sets.specs.Logic.{◌and◌, pick}
use Rattle.table.specs.Limits.{most_principals}
use Rattle.table.specs.Layout.{Numbered, cells, credential, credentials, parts, principal, same_role}
use Rattle.table.specs.Holding.{WellFormed}
use Rattle.table.specs.Checks.{chain_ok, is_principal, is_principal_to, within}
use Rattle.table.proofs.WellFormed.{wf-chain-ok, wf-credential}
use Rattle.table.specs.declared.Goal.{Goal}
use Rattle.table.specs.declared.Credential.{Credential}
use Rattle.sets.proofs.Tests.{and_is, and-is-off, passed}
use Rattle.table.proofs.Equality.{role-eq}
use Rattle.derivation.proofs.Usable.{usable-numbered}
use Rattle.derivation.specs.Rules.{asks, asks_by, containment_asks, intersection_asks}
use Rattle.derivation.specs.Rules.{linking_asks, membership_asks, premises, premises_by, usable, when}

pub when-off : {test : Bool} (goals : List Goal) → test ≡ false → none ≡ when test goals
unfolding pick
when-off goals h = rw h

pub when-on : {test : Bool} (goals : List Goal) → test ≡ true → some goals ≡ when test goals
unfolding pick
when-on goals h = rw h

pub principal-none : (m : ℕ) → m ≡ 0 → is_principal (principal m) ≡ false
unfolding is_principal_to within ◌and◌
principal-none m h = rw h

pub principal-over : (m : ℕ) → most_principals < m → is_principal (principal m) ≡ false
unfolding is_principal_to within
principal-over m h = and_is (le-leb 1 m (omega arith)) (lt-leb m most_principals h)

pub principal-there : (m : ℕ) → (m ≡ 0 → ⊥) → m ≤ most_principals → is_principal (principal m) ≡ true
unfolding is_principal_to within
principal-there m nz h = and_is (le-leb 1 m (omega arith)) (le-leb m most_principals h)

-- by kind, for a credential that defines the goal's role
module _ (t : List ℕ) (g : Goal) (c : Credential) (m : ℕ) where
  pub asks-1 : c.kind ≡ 1 → membership_asks g c m ≡ asks t g c m
  unfolding asks_by pick
  asks-1 h = rw h

  pub asks-2 : c.kind ≡ 2 → containment_asks g c m ≡ asks t g c m
  unfolding asks_by pick
  asks-2 h = rw h

  pub asks-3 : c.kind ≡ 3 → linking_asks g c m ≡ asks t g c m
  unfolding asks_by pick
  asks-3 h = rw h

  pub asks-4 : c.kind ≡ 4 → intersection_asks g (parts t c.first) m ≡ asks t g c m
  unfolding asks_by pick
  asks-4 h = rw h

  pub asks_none : (c.kind ≡ 1 → ⊥) → (c.kind ≡ 2 → ⊥) → (c.kind ≡ 3 → ⊥) → (c.kind ≡ 4 → ⊥) → none ≡ asks t g c m
  unfolding asks_by pick
  asks_none h1 h2 h3 h4 = rw (ne_eqb c.kind 1 h1, ne_eqb c.kind 2 h2, ne_eqb c.kind 3 h3, ne_eqb c.kind 4 h4)

-- credential number c
module _ (t : List ℕ) (g : Goal) (c m : ℕ) where
  pub not-usable : usable t c ≡ false → none ≡ premises t g c m
  unfolding premises premises_by pick
  not-usable off = rw (and-is-off (same_role (credential t c).role g.role) off)

  -- which the code has read as x
  module _ (may : usable t c ≡ true) (x : Credential) (read : x ≡ credential t c) where
    pub other-role : same_role x.role g.role ≡ false → none ≡ premises t g c m
    unfolding premises premises_by pick
    other-role h = rw (and_is may (rw read at h))

    pub own-role : same_role x.role g.role ≡ true → asks t g x m ≡ premises t g c m
    unfolding premises premises_by pick
    own-role h = rw (and_is may (rw read at h), read)

-- the same by what the code's calls and tests tell: whether c is usable, and the number by which it is read
module _ (t : List ℕ) {c at : ℕ} {can : Bool} (usables : can ≡ usable t c) (may : can ≡ true) (place : at ≡ c) where
  pub there : Numbered (credentials t) c
  there = usable-numbered t c (passed usables may)

  pub found : {x : Credential} → x ≡ credential t at → x ≡ credential t c
  found read = read ∙ ap (credential t) place

  -- and whether its role is another than the goal's
  module _ {other : Bool} {x : Credential} (g : Goal) (m : ℕ) (read : x ≡ credential t at)
      (differs : other ≡ not (eqb x.role.owner.0 g.role.owner.0 && eqb x.role.name.0 g.role.name.0)) where
    pub asks-other : other ≡ true → none ≡ premises t g c m
    asks-other h =
        other-role t g c m (passed usables may) x (found read) (sym (role-eq x.role g.role refl) ∙ not-true _ (sym differs ∙ h))

    pub asks-own : other ≡ false → asks t g x m ≡ premises t g c m
    asks-own h =
        own-role t g c m (passed usables may) x (found read) (sym (role-eq x.role g.role refl) ∙ not-false _ (sym differs ∙ h))

-- an intersection's first cell is there, and its chain has 2 to 4 cells; the code has read credential c as x
pub chain-there : (t : List ℕ) → WellFormed t → (c : ℕ) → Numbered (credentials t) c → (x : Credential) → x ≡ credential t c
    → x.kind ≡ 4 → Numbered (cells t) x.first × (chain_ok t x.first ≡ true)
chain-there t wf c there x read four =
    let kind = ap (λ (y : Credential). y.kind) (sym read) ∙ four in
    rw read ((wf-credential t wf c there).intersection kind, wf-chain-ok t wf c there kind)
