-- Ticket 4, as far as unions go, proved sentence by sentence.
use mathlib.Core.Path.{◌≡◌, refl}
use mathlib.Core.List.{List}
use mathlib.Core.Bool.{Bool, true, false}
use Prim.Native.Nat.{ℕ, suc, ◌<◌}
use native.Mathlib.Numerals.{sub-one}
use native.Mathlib.Decide.{dec_lt}
use lib.ListN.{get_or}
use lib.Bits.{bit_and, bit_or, or_zero_l}
use lib.Dec.{eqb, ltb}
use borrow.Author.Tests.{eq-eqb, eqb-true}
use Rattle.sets.specs.Logic.{◌and◌}
use Rattle.sets.specs.Sets.{set_of}
use Rattle.sets.proofs.Tests.{and_both, and_parts, same_test}
use Rattle.sets.proofs.Members.{in_set-and, part-antisym, part-or-left, part-or-right, part-zero, same-members, set_of-members}
use Rattle.table.specs.Limits.{most_automata}
use Rattle.table.specs.Layout.{automata}
use Rattle.table.specs.declared.Role.{Role}
use Rattle.automata.specs.Automata.{moved}
use Rattle.automata.specs.Promised.{DeadUnion, EmptyUnion, MovesUnion, MovesUnions}
use Rattle.automata.specs.Together.{dead_set, moved_on, moved_sets, set_for, together, union}
use Rattle.automata.specs.declared.StateSets.{StateSets}
use Rattle.automata.proofs.Each.{together_at, together-beyond, together-same}
use Rattle.automata.proofs.Moves.{moved-union}
use Rattle.automata.proofs.Together.{is_empty}

pub moves-union : MovesUnion
moves-union t k r x y = moved-union t k r x y

pub moves-unions : MovesUnions
unfolding moved_sets union
moves-unions t r s u = together-same _ _ one
  where
    one : (k : ℕ) → k < most_automata
        → moved t (suc k) r (set_for (union s u) (suc k))
        ≡ bit_or (set_for (moved_sets t r s) (suc k)) (set_for (moved_sets t r u) (suc k))
    one k less =
        rw (sub-one (suc k), together_at (λ j. bit_or (set_for s j) (set_for u j)) k less)
        (rw (together_at (λ j. moved t j r (set_for s j)) k less, together_at (λ j. moved t j r (set_for u j)) k less)
        (moved-union t (suc k) r (set_for s (suc k)) (set_for u (suc k))))

-- a union is empty exactly where both parts are
left-empty : (x y : ℕ) → bit_or x y ≡ 0 → x ≡ 0
left-empty x y none = part-antisym x 0 (rw none at (part-or-left x y)) (part-zero x)

right-empty : (x y : ℕ) → bit_or x y ≡ 0 → y ≡ 0
right-empty x y none = part-antisym y 0 (rw none at (part-or-right x y)) (part-zero y)

both-empty : (x y : ℕ) → x ≡ 0 → y ≡ 0 → bit_or x y ≡ 0
both-empty x y one two = rw (one, two) (or_zero_l 0)

pub empty-union : EmptyUnion
empty-union t k r x y =
    let (one, two) : ℕ × ℕ = (moved t k r x, moved t k r y) in
    rw (moved-union t k r x y)
    (λ none. (left-empty one two none, right-empty one two none), λ both. both-empty one two both.0 both.1)

empty-alike : (x y : ℕ) → eqb (bit_or x y) 0 ≡ (eqb x 0 and eqb y 0)
empty-alike x y =
    same_test _ _
    (λ none.
    let is = eqb-true (bit_or x y) 0 none in
    and_both (eq-eqb x 0 (left-empty x y is)) (eq-eqb y 0 (right-empty x y is)))
    (λ both.
    let (one, two) = and_parts (eqb-true x 0) (eqb-true y 0) both in
    eq-eqb (bit_or x y) 0 (both-empty x y one two))

-- automaton k + 1 has no state in a union of sets where it has none in both; so it is with moved sets
dead-alike : (f g : ℕ → ℕ) (k : ℕ) → Dec (k < most_automata)
    → is_empty (union (together f) (together g)) k ≡ (is_empty (together f) k and is_empty (together g) k)
unfolding union ◌and◌
dead-alike f g k (yes less) =
    rw (together_at (λ j. bit_or (set_for (together f) j) (set_for (together g) j)) k less, sub-one (suc k))
    (empty-alike (get_or (together f).sets k 0) (get_or (together g).sets k 0))
dead-alike f g k (no beyond) =
    rw (
      together-beyond (λ j. bit_or (set_for (together f) j) (set_for (together g) j)) k beyond,
      together-beyond f k beyond,
      together-beyond g k beyond,
    )

moved-alike : (t : List ℕ) (r : Role) (s u : StateSets) (k : ℕ)
    → is_empty (union (moved_sets t r s) (moved_sets t r u)) k ≡ (is_empty (moved_sets t r s) k and is_empty (moved_sets t r u) k)
unfolding moved_sets
moved-alike t r s u k = dead-alike (λ j. moved t j r (set_for s j)) (λ j. moved t j r (set_for u j)) k (dec_lt k most_automata)

-- a test and two others, each for itself
and-apart : (a b c : Bool) → (a and b and c) ≡ ((a and b) and (a and c))
unfolding ◌and◌
and-apart true b c = refl
and-apart false b c = refl

-- the sets by two tests, and by both
set_of-both : (p q both : ℕ → Bool) (n : ℕ) → ((k : ℕ) → both k ≡ (p k and q k)) → set_of both n ≡ bit_and (set_of p n) (set_of q n)
set_of-both p q both n alike =
    same-members _ _ (λ k.
    rw (in_set-and (set_of p n) (set_of q n) k, set_of-members both n k, set_of-members p n k, set_of-members q n k, alike k)
    (and-apart (ltb k n) (p k) (q k)))

pub dead-union : DeadUnion
unfolding moved_on dead_set
dead-union t r s u =
    rw (moves-unions t r s u)
    (set_of-both (is_empty (moved_sets t r s)) (is_empty (moved_sets t r u)) (is_empty (union (moved_sets t r s) (moved_sets t r u)))
    (automata t) (moved-alike t r s u))
