-- What a forest within a set of credentials is made of: a node's credential, its children and its later siblings.
use mathlib.Core.Path.{◌≡◌, refl}
use mathlib.Core.Bool.{true}
use Prim.Native.Nat.{ℕ, ◌-◌}
use borrow.Author.Tests.{eq-eqb, eqb-true}
use Rattle.sets.proofs.Tests.{false-true, or-either, or-first, or-second}
use Rattle.sets.specs.Sets.{in_set}
use Rattle.derivation.specs.Forest.{Forest, names}
use Rattle.derivation.specs.Forest.Forest.{end, node}
use Rattle.search.specs.Search.{UsesOnly}

pub only_end : (S : ℕ) → UsesOnly end S
unfolding names
only_end S c named = absurd (false-true named)

module _ (S c m : ℕ) (children siblings : Forest) where
  pub only-node : in_set S (c - 1) ≡ true → UsesOnly children S → UsesOnly siblings S → UsesOnly (node c m children siblings) S
  unfolding names
  only-node own below later x = or-either (λ e. rw (eqb-true c x e) at own) (or-either (below x) (later x))

  module _ (only : UsesOnly (node c m children siblings) S) where
    pub only_here : in_set S (c - 1) ≡ true
    unfolding names
    only_here = only c (or-first _ (eq-eqb c c refl))

    pub only_below : UsesOnly children S
    unfolding names
    only_below x h = only x (or-second _ (or-first _ h))

    pub only-later : UsesOnly siblings S
    unfolding names
    only-later x h = only x (or-second _ (or-second _ h))
