-- What it means that a credential applies to a goal: it is there, it defines the goal's role, and it asks nothing exactly for
-- kind 1.
use mathlib.Core.Path.{◌≡◌, refl, sym, ap₂, ◌∙◌}
use mathlib.Core.List.{List, [], ◌∷◌, map}
use mathlib.Core.Bool.{Bool, true, false}
use mathlib.Core.Option.{Option, none, some}
use Prim.Native.Nat.{ℕ, ◌≤◌}
use native.Mathlib.Omega.{arith}
use lib.ListN.{length}
use borrow.Author.Tests.{eqb-true}
use Rattle.sets.specs.Logic.{◌and◌, pick}
use Rattle.table.specs.Layout.{Numbered, cell, chain, credential, credentials, parts, parts_by, role, same_role}
use Rattle.table.specs.declared.Role.{Role}
use Rattle.table.specs.declared.Goal.{Goal}
use Rattle.sets.proofs.Tests.{and_first, and_second}
use Rattle.derivation.specs.Rules.{asks, premises, premises_by, usable, when}
use Rattle.derivation.proofs.Usable.{usable-numbered}
use Rattle.derivation.proofs.Asking.{asks-1}

pub same-role : (r s : Role) → same_role r s ≡ true → r ≡ s
unfolding same_role
same-role r s h = ap₂ role (eqb-true _ _ (and_first _ _ h)) (eqb-true _ _ (and_second _ _ h))

pub none-some : {goals : List Goal} → none ≡ some goals → ⊥
none-some e = let z : ◌≡◌ {A = ℕ} 0 1 = cc in omega arith

pub picked : (test : Bool) (asked : Option (List Goal)) (goals : List Goal) → pick test asked none ≡ some goals
    → (test ≡ true) × (asked ≡ some goals)
unfolding pick
picked true asked goals h = (refl, h)
picked false asked goals h = absurd (none-some h)

pub when-some : (test : Bool) (asked goals : List Goal) → when test asked ≡ some goals → asked ≡ goals
unfolding pick
when-some true asked goals h = cc
when-some false asked goals h = absurd (none-some h)

module _ (t : List ℕ) (g : Goal) (c m : ℕ) (goals : List Goal) (applies : premises t g c m ≡ some goals) where
  both : ((usable t c and same_role (credential t c).role g.role) ≡ true) × (asks t g (credential t c) m ≡ some goals)
  unfolding premises premises_by
  both = picked _ _ goals applies

  pub applies-usable : usable t c ≡ true
  applies-usable = and_first _ _ both.0

  pub applies-numbered : Numbered (credentials t) c
  applies-numbered = usable-numbered t c applies-usable

  -- it defines the goal's role
  pub applies-defines : same_role (credential t c).role g.role ≡ true
  applies-defines = and_second _ _ both.0

  pub applies-role : (credential t c).role ≡ g.role
  applies-role = same-role (credential t c).role g.role applies-defines

  pub applies-asks : asks t g (credential t c) m ≡ some goals
  applies-asks = both.1

pub cons-nil : {A : Type 0} {x : A} {xs : List A} → x ∷ xs ≡ [] → ⊥
cons-nil e = let z : ◌≡◌ {A = ℕ} 0 1 = cc in omega arith

-- a chain has parts
pub some-parts : (t : List ℕ) (f : Role → Goal) (first : ℕ) → 2 ≤ length (chain t first) → map f (parts t first) ≡ [] → ⊥
unfolding parts_by
some-parts t f first long e = go (chain t first) long e
  where
    go : (cells : List ℕ) → 2 ≤ length cells → map f (map (λ (k : ℕ). (cell t k).role) cells) ≡ [] → ⊥
    go [] few e = omega arith
    go (j ∷ more) few e = cons-nil e

-- something is asked, so the kind is not 1
pub asks-more : (t : List ℕ) (g : Goal) (c m : ℕ) (h : Goal) (goals : List Goal) → premises t g c m ≡ some (h ∷ goals)
    → (credential t c).kind ≡ 1 → ⊥
asks-more t g c m h goals applies one =
    cons-nil (sym (when-some _ [] (h ∷ goals) (asks-1 t g (credential t c) m one ∙ applies-asks t g c m (h ∷ goals) applies)))
