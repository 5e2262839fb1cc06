-- Where no role comes twice on a branch no pair does, so what was derived before is derived now, and its used set includes a
-- minimal one.
use mathlib.Core.Path.{◌≡◌, refl}
use mathlib.Core.List.{List, [], ◌∷◌}
use mathlib.Core.Bool.{Bool, true, false, not}
use Prim.Native.Nat.{ℕ}
use lib.Dec.{eqb}
use Rattle.sets.specs.Logic.{◌and◌}
use Rattle.sets.proofs.Tests.{and_both, and_first, and_second}
use Rattle.sets.proofs.Members.{part-refl}
use Rattle.table.specs.Layout.{same_role}
use Rattle.table.specs.declared.Goal.{Goal}
use Rattle.table.proofs.WellFormed.{well-formed}
use Rattle.derivation.specs.Rules.{fresh, same_goal}
use Rattle.derivation.specs.Accepted.{Accepted}
use Rattle.derivation.specs.Forest.{Derives, Forest, written}
use Rattle.derivation.specs.Forest.DerivesBy.{done, step}
use Rattle.verifier.proofs.DemandTwo.{demand-two}
use Rattle.listing.proofs.Minimals.{admitted-includes}
use Rattle.upgrading.specs.Upgrading.{DerivedBefore, Upgrading, new_role}
use Rattle.upgrading.specs.Upgrading.DerivedBefore.{done as done-before, step as step-before}

-- another role is another pair
other-pair : (a b : Bool) → not b ≡ true → not (a and b) ≡ true
unfolding ◌and◌
other-pair true b h = h
other-pair false b h = refl

role-pair : (branch : List Goal) (g : Goal) → new_role branch g ≡ true → fresh branch g ≡ true
unfolding new_role fresh same_goal
role-pair [] g h = refl
role-pair (above ∷ branch) g h =
    and_both (other-pair (eqb above.principal.0 g.principal.0) (same_role above.role g.role) (and_first _ _ h))
    (role-pair branch g (and_second _ _ h))

still-derived : {t : List ℕ} {levels : ℕ} {branch goals : List Goal} {f : Forest} → DerivedBefore t levels branch goals f
    → Derives t levels branch goals f
still-derived done-before = done
still-derived (step-before {branch = branch} {g = g} applies new below later) =
    step applies (role-pair branch g new) (still-derived below) (still-derived later)

pub upgrading : Upgrading
upgrading t q S table valid before =
    let used = before.used in
    let accepted : Accepted t q (written used.forest) S = record {
      forest = used.forest;
      derives = still-derived used.derives;
      whole = refl;
      complies = used.complies;
      uses = used.uses;
    } in
    admitted-includes t (well-formed t table) q valid S (S, (_, (demand-two t q _ S table valid).1 accepted), part-refl S)
