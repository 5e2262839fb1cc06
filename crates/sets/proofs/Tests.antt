-- Laws of the tests that definitions are made of. A code's `flag` is what a callee's contract equates with a test p.
use mathlib.Core.Path.{◌≡◌, refl, sym, ap, ◌∙◌}
use mathlib.Core.Bool.{Bool, true, false}
use Prim.Native.Nat.{ℕ, zero, suc, ◌+◌, ◌<◌, ◌≤◌}
use native.Mathlib.Omega.{arith}
use native.Mathlib.Decide.{ℕ_discrete}
use lib.Dec.{ltb}
use borrow.Author.Tests.{ltb-false, ltb-true}
use Rattle.sets.specs.Logic.{◌and◌, ◌or◌, any_below, pick}

-- what `if !flag { .. }` tells of p, in its body and after it
pub failed : {flag p : Bool} → flag ≡ p → flag ≡ false → p ≡ false
failed e h = sym e ∙ h

pub passed : {flag p : Bool} → flag ≡ p → flag ≡ true → p ≡ true
passed e h = sym e ∙ h

-- a conjunction and a disjunction once the first part is known; where that decides, the code returns the part itself
pub and-on : {p b : Bool} → p ≡ true → b ≡ (p and b)
unfolding ◌and◌
and-on h = rw h

pub and-off : {p : Bool} (b : Bool) → p ≡ false → p ≡ (p and b)
unfolding ◌and◌
and-off b h = rw h

pub flag-on : {flag p b : Bool} → flag ≡ p → flag ≡ true → b ≡ (p and b)
flag-on e h = and-on (sym e ∙ h)

pub flag_off : {flag p : Bool} (b : Bool) → flag ≡ p → flag ≡ false → flag ≡ (p and b)
flag_off b e h = e ∙ and-off b (sym e ∙ h)

pub or-on : {p : Bool} (b : Bool) → p ≡ true → p ≡ (p or b)
unfolding ◌or◌
or-on b h = rw h

pub or_off : {p b : Bool} → p ≡ false → b ≡ (p or b)
unfolding ◌or◌
or_off h = rw h

pub false-true : false ≡ true → ⊥
false-true e = let z : ◌≡◌ {A = ℕ} 0 1 = cc in omega arith

pub refuted : (b : Bool) → (b ≡ true → ⊥) → b ≡ false
refuted true wrong = absurd (wrong refl)
refuted false wrong = refl

-- both parts of a conjunction that holds
pub and_first : (a b : Bool) → (a and b) ≡ true → a ≡ true
unfolding ◌and◌
and_first true b h = refl
and_first false b h = h

pub and_second : (a b : Bool) → (a and b) ≡ true → b ≡ true
unfolding ◌and◌
and_second true b h = h
and_second false b h = absurd (false-true h)

pub and_parts : {A B : Type 0} {a b : Bool} → (a ≡ true → A) → (b ≡ true → B) → (a and b) ≡ true → A × B
unfolding ◌and◌
and_parts {a = true} f g h = (f refl, g h)
and_parts {a = false} f g h = absurd (false-true h)

-- one part of a disjunction that holds
pub or-either : {A : Type 0} {a b : Bool} → (a ≡ true → A) → (b ≡ true → A) → (a or b) ≡ true → A
unfolding ◌or◌
or-either {a = true} f g h = f refl
or-either {a = false} f g h = g h

-- the laws of conjunction and disjunction
pub and_is : {a b x : Bool} → a ≡ true → b ≡ x → (a and b) ≡ x
unfolding ◌and◌
and_is h e = rw h e

pub and-is-off : {a : Bool} (b : Bool) → a ≡ false → (a and b) ≡ false
unfolding ◌and◌
and-is-off b h = rw h

pub and_both : {a b : Bool} → a ≡ true → b ≡ true → (a and b) ≡ true
unfolding ◌and◌
and_both h l = rw (h, l)

pub and-true : (b : Bool) → (b and true) ≡ b
unfolding ◌and◌
and-true true = refl
and-true false = refl

pub and-false : (b : Bool) → (b and false) ≡ false
unfolding ◌and◌
and-false true = refl
and-false false = refl

pub and_none : (a : Bool) {b : Bool} → b ≡ false → (a and b) ≡ false
and_none a e = ap (λ b. a and b) e ∙ and-false a

pub and_assoc : (a b c : Bool) → ((a and b) and c) ≡ (a and b and c)
unfolding ◌and◌
and_assoc true b c = refl
and_assoc false b c = refl

pub or-first : {a : Bool} (b : Bool) → a ≡ true → (a or b) ≡ true
unfolding ◌or◌
or-first b h = rw h

pub or-second : (a : Bool) {b : Bool} → b ≡ true → (a or b) ≡ true
unfolding ◌or◌
or-second true h = refl
or-second false h = h

pub or-none : (a b : Bool) → (a or b) ≡ false → (a ≡ false) × (b ≡ false)
unfolding ◌or◌
or-none true b h = absurd (false-true (sym h))
or-none false b h = (refl, h)

pub or-false : (b : Bool) → (b or false) ≡ b
unfolding ◌or◌
or-false true = refl
or-false false = refl

pub or_assoc : (a b c : Bool) → ((a or b) or c) ≡ (a or b or c)
unfolding ◌or◌
or_assoc true b c = refl
or_assoc false b c = refl

pub or-exchange : (a b c d : Bool) → ((a or b) or (c or d)) ≡ ((a or c) or (b or d))
unfolding ◌or◌
or-exchange true b c d = refl
or-exchange false b false d = refl
or-exchange false true true d = refl
or-exchange false false true d = refl

pub or-and : (b c m : Bool) → ((b or c) and m) ≡ ((b and m) or (c and m))
unfolding ◌and◌ ◌or◌
or-and false c m = refl
or-and true c true = refl
or-and true c false = sym (and-false c)

pub and-or-and : (a b c m : Bool) → (a and (b or c) and m) ≡ ((a and b and m) or (a and c and m))
unfolding ◌and◌ ◌or◌
and-or-and false b c m = refl
and-or-and true b c m = or-and b c m

pub same_test : (a b : Bool) → (a ≡ true → b ≡ true) → (b ≡ true → a ≡ true) → a ≡ b
same_test true b f g = sym (f refl)
same_test false true f g = g refl
same_test false false f g = refl

-- a choice between two that are one, and what is made of a choice
pub pick_same : {A : Type 0} (b : Bool) {x y : A} → x ≡ y → pick b x y ≡ y
unfolding pick
pick_same true e = e
pick_same false e = refl

pub pick-apart : {A B : Type 0} (f : A → B) (b : Bool) (x y : A) → f (pick b x y) ≡ pick b (f x) (f y)
unfolding pick
pick-apart f true x y = refl
pick-apart f false x y = refl

-- some number below n passes exactly where one can be named
pub any-shows : (p : ℕ → Bool) (n : ℕ) → any_below p n ≡ true → (k : ℕ) × (k < n) × (p k ≡ true)
unfolding any_below
any-shows p zero h = absurd (false-true h)
any-shows p (suc n) h =
    or-either (λ before. let found = any-shows p n before in (found.0, omega (arith, found.1), found.2))
    (λ here. (n, omega arith, here)) h

pub any-reached : (p : ℕ → Bool) (n k : ℕ) → k < n → p k ≡ true → any_below p n ≡ true
unfolding any_below
any-reached p zero k l h = absurd (omega arith)
any-reached p (suc n) k l h = go (any-reached p n k) (ℕ_discrete k n)
  where
    go : (k < n → p k ≡ true → any_below p n ≡ true) → Dec (k ≡ n) → (any_below p n or p n) ≡ true
    go before (yes e) = or-second (any_below p n) (sym (ap p e) ∙ h)
    go before (no e) = or-first (p n) (before (omega arith) h)

pub any_none : (p : ℕ → Bool) (n : ℕ) → ((k : ℕ) → k < n → p k ≡ false) → any_below p n ≡ false
any_none p n none =
    refuted (any_below p n) (λ e. let (k, l, passes) = any-shows p n e in false-true (sym (none k l) ∙ passes))

pub any-not : (p : ℕ → Bool) (n k : ℕ) → any_below p n ≡ false → k < n → p k ≡ false
any-not p n k h l = refuted (p k) (λ e. false-true (sym h ∙ any-reached p n k l e))

pub any-all : (p : ℕ → Bool) (i n : ℕ) → i ≡ n → any_below p i ≡ false → any_below p n ≡ false
any-all p i n e h = sym (ap (any_below p) e) ∙ h

-- where each number that passes one test passes another, and where two tests are one
pub any-mono : (p q : ℕ → Bool) (n : ℕ) → ((k : ℕ) → k < n → p k ≡ true → q k ≡ true) → any_below p n ≡ true
    → any_below q n ≡ true
any-mono p q n more h = let (k, l, passes) = any-shows p n h in any-reached q n k l (more k l passes)

pub any_same : (p q : ℕ → Bool) (n : ℕ) → ((k : ℕ) → k < n → p k ≡ q k) → any_below p n ≡ any_below q n
any_same p q n same =
    same_test _ _ (any-mono p q n (λ k l e. sym (same k l) ∙ e)) (any-mono q p n (λ k l e. same k l ∙ e))

-- some number below n passes, or none does
pub any-or-none : {A : Type 0} (p : ℕ → Bool) (n : ℕ) → ((k : ℕ) → k < n → p k ≡ true → A) → (any_below p n ≡ false → A) → A
any-or-none {A} p n one none = go (any_below p n) refl
  where
    go : (b : Bool) → any_below p n ≡ b → A
    go true e = let (k, l, passes) = any-shows p n e in one k l passes
    go false e = none e

-- a search in ascending order: nothing from `from` up to `next` passes
pub any-on : (p : ℕ → Bool) (from next : ℕ) → any_below p from ≡ false → ((k : ℕ) → from ≤ k → k < next → p k ≡ false)
    → any_below p next ≡ false
any-on p from next before none = any_none p next (λ k l. go k l (ltb k from) refl)
  where
    go : (k : ℕ) → k < next → (b : Bool) → ltb k from ≡ b → p k ≡ false
    go k l true e = any-not p from k before (ltb-true k from e)
    go k l false e = none k (ltb-false k from e) l

pub any_next : (p : ℕ → Bool) (i : ℕ) → any_below p i ≡ false → p i ≡ false → any_below p (i + 1) ≡ false
any_next p i before here =
    any-on p i (i + 1) before (λ k h l. let e : k ≡ i = omega arith in ap p e ∙ here)
