-- An edge by its masks: the set meets the mask of the `from` state exactly where the state is in it.
use mathlib.Core.Path.{◌≡◌, refl, ◌∙◌}
use mathlib.Core.Bool.{Bool, true, false}
use Prim.Native.Nat.{ℕ, ◌*◌, ◌%◌, ◌^◌, ◌≤◌}
use native.Mathlib.Omega.{arith}
use lib.Pow.{pow_pos}
use borrow.Author.Tests.{eq-eqb}
use Rattle.sets.specs.Logic.{◌and◌, pick}
use Rattle.sets.specs.Sets.{in_set, meets}
use Rattle.sets.proofs.Tests.{and-false, and-true, same_test}
use Rattle.sets.proofs.Members.{meets-common, one_bit, own-bit}
use Rattle.sets.proofs.Without.{common-meets, one-is}
use Rattle.table.specs.Limits.{last_state}
use Rattle.table.specs.declared.Role.{Role}
use Rattle.table.specs.declared.Edge.{Edge}
use Rattle.edges.specs.Edges.{leads, matches}

meets-one : (x s : ℕ) → meets x (2 ^ s) ≡ in_set x s
meets-one x s =
    same_test _ _
    (λ met. let (u, own, there) = meets-common x (2 ^ s) met in rw (one-is s u there) own)
    (λ inside. common-meets x (2 ^ s) s inside (own-bit s))

-- the mask of a state, as the code makes it: 1 << s
abbrev mask : ℕ → ℕ
mask s = (1 * 2 ^ s) % 2 ^ 16

-- m is what the masks of the edge give from the set x
module _ (e : Edge) (r : Role) (x : ℕ) (states : (e.from ≤ last_state) × (e.to ≤ last_state)) {m : ℕ}
    (given : m ≡ pick (meets x (mask e.from)) (mask e.to) 0) where
  abbrev gives : ℕ
  gives = pick (leads e.automaton r x e) (2 ^ e.to) 0

  leads-own : leads e.automaton r x e ≡ (in_set x e.from and matches e r)
  unfolding leads ◌and◌
  leads-own = rw (eq-eqb e.automaton e.automaton refl)

  given_is : m ≡ pick (in_set x e.from) (2 ^ e.to) 0
  given_is =
      let from = one_bit 16 e.from (omega (arith, states.0)) in
      let to = one_bit 16 e.to (omega (arith, states.1)) in
      given ∙ rw (from, to, meets-one x e.from)

  pub gives-matching : matches e r ≡ true → m ≡ gives
  gives-matching on = rw (leads-own, on, and-true (in_set x e.from)) given_is

  pub gives_other : matches e r ≡ false → 0 ≡ gives
  unfolding pick
  gives_other off = rw (leads-own, off, and-false (in_set x e.from))

  -- a mask is not 0, so where nothing is given the set does not have the `from` state
  pub gives_none : m ≡ 0 → 0 ≡ gives
  unfolding pick ◌and◌
  gives_none none = go (in_set x e.from) refl
    where
      go : (b : Bool) → in_set x e.from ≡ b → 0 ≡ gives
      go true inside = absurd (omega (arith, pow_pos e.to, none, rw inside at given_is))
      go false outside = rw (leads-own, outside)
