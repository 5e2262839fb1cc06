-- Tests that definitions are made of: "and", "or", and a choice by a test. The kit's own unfold everywhere, which hides
-- what a goal says; these stay shut until a proof opens them.
use Rattle.std.specs.Prelude.{Bool, true, false, ℕ, zero, suc}

infixr 35 ◌and◌
infixr 30 ◌or◌
unfoldable pub ◌and◌ : Bool → Bool → Bool
true and b = b
false and b = false

unfoldable pub ◌or◌ : Bool → Bool → Bool
true or b = true
false or b = b

unfoldable pub pick : {A : Type 0} → Bool → A → A → A
pick true a b = a
pick false a b = b

-- some number below n passes the test
unfoldable pub any_below : (ℕ → Bool) → ℕ → Bool
any_below p zero = false
any_below p (suc n) = any_below p n or p n
