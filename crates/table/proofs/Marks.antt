-- Marks put behind pairs of numbers: how long the list is then, what stands at each automaton, and what stands behind them all.
use mathlib.Core.Path.{◌≡◌, refl}
use mathlib.Core.List.{List, [], ◌∷◌}
use Prim.Native.Nat.{ℕ, zero, suc, ◌+◌, ◌*◌, ◌≤◌, ◌<◌}
use native.Mathlib.Omega.{arith}
use lib.ListN.{drop, get_or, length}
use Rattle.table.specs.Upgraded.{with_marks}

-- one automaton more is three numbers more with its mark, and two without
three : (k : ℕ) → 3 * suc k ≡ suc (suc (suc (3 * k)))
three k = omega arith

three-on : (k j : ℕ) → 3 * suc k + j ≡ suc (suc (suc (3 * k + j)))
three-on k j = omega arith

two : (k : ℕ) → 2 * suc k ≡ suc (suc (2 * k))
two k = omega arith

two-on : (k j : ℕ) → 2 * suc k + j ≡ suc (suc (2 * k + j))
two-on k j = omega arith

pub marks-none : (k : ℕ) → with_marks k [] ≡ []
unfolding with_marks
marks-none zero = refl
marks-none (suc k) = refl

-- where there are k pairs, each gets its mark
pub marks-length : (k : ℕ) (rest : List ℕ) → 2 * k ≤ length rest → length (with_marks k rest) ≡ length rest + k
unfolding with_marks
marks-length zero rest h = omega arith
marks-length (suc k) [] h = absurd (omega arith)
marks-length (suc k) (x ∷ []) h = absurd (omega arith)
marks-length (suc k) (x ∷ y ∷ rest) h = omega (arith, marks-length k rest (omega arith))

-- where there are not, the list is too short for k marked automata
pub marks-short : (k : ℕ) (rest : List ℕ) → length rest < 2 * k → length (with_marks k rest) < 3 * k
unfolding with_marks
marks-short zero rest h = absurd (omega arith)
marks-short (suc k) [] h = omega arith
marks-short (suc k) (x ∷ []) h = omega arith
marks-short (suc k) (x ∷ y ∷ rest) h = omega (arith, marks-short k rest (omega arith))

pub marks-behind : (k : ℕ) (rest : List ℕ) → 2 * k ≤ length rest → drop (3 * k) (with_marks k rest) ≡ drop (2 * k) rest
unfolding with_marks
marks-behind zero rest h = refl
marks-behind (suc k) [] h = absurd (omega arith)
marks-behind (suc k) (x ∷ []) h = absurd (omega arith)
marks-behind (suc k) (x ∷ y ∷ rest) h =
    rw (three k, two k) (marks-behind k rest (omega arith))

-- automaton i, from 0 on: its pair, and 0
pub record MarkedAt (l rest : List ℕ) (i : ℕ) : Type 0 where
  pub starting : get_or l (3 * i) 0 ≡ get_or rest (2 * i) 0
  pub accepting : get_or l (3 * i + 1) 0 ≡ get_or rest (2 * i + 1) 0
  pub mark : get_or l (3 * i + 2) 0 ≡ 0

pub marks-at : (k : ℕ) (rest : List ℕ) (i : ℕ) → 2 * k ≤ length rest → i < k → MarkedAt (with_marks k rest) rest i
unfolding with_marks
marks-at zero rest i h less = absurd (omega arith)
marks-at (suc k) [] i h less = absurd (omega arith)
marks-at (suc k) (x ∷ []) i h less = absurd (omega arith)
marks-at (suc k) (x ∷ y ∷ rest) zero h less = record { starting = refl; accepting = refl; mark = refl }
marks-at (suc k) (x ∷ y ∷ rest) (suc i) h less =
    let later = marks-at k rest i (omega arith) (omega arith) in
    record {
      starting = rw (three i, two i) later.starting;
      accepting = rw (three-on i 1, two-on i 1) later.accepting;
      mark = rw (three-on i 2) later.mark;
    }
