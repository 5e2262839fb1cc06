-- What is in a moved set, for any number of states and of edges: state s is in it exactly where some edge of the automaton,
-- from a state in the set before and matching the role, leads to s. So an empty set stays empty, and unions stay unions.
use mathlib.Core.Path.{◌≡◌, refl, sym, ◌∙◌}
use mathlib.Core.List.{List, [], ◌∷◌}
use mathlib.Core.Bool.{Bool, true, false}
use mathlib.Core.Logic.{⊎_elim}
use Prim.Native.Nat.{ℕ, zero, suc}
use native.Mathlib.Omega.{arith}
use native.Mathlib.Nat.{eq-or-lt_of_le}
use lib.Bits.{bit_or}
use lib.Dec.{eqb}
use borrow.Author.Tests.{eqb-true, eq-eqb}
use Rattle.sets.specs.Logic.{◌and◌, ◌or◌, pick}
use Rattle.table.specs.Layout.{Numbered, edge, edges}
use Rattle.table.specs.declared.Role.{Role}
use Rattle.table.specs.declared.Edge.{Edge}
use Rattle.sets.proofs.Tests.{and_both, and-false, and-or-and, and_parts, false-true}
use Rattle.sets.proofs.Tests.{or-and, or-either, or-exchange, or-first, or-second}
use Rattle.sets.specs.Sets.{in_set}
use Rattle.edges.specs.Edges.{leads, matches}
use Rattle.automata.specs.Automata.{moved, moved_by, run, run_by}
use Rattle.sets.proofs.Members.{in_set-zero, in_set-or, in_set-pick, same-members}

module _ (t : List ℕ) (k : ℕ) (r : Role) where
  -- edge i leads automaton k on from the set x to state s
  abbrev pub leads_to : ℕ → ℕ → ℕ → Bool
  leads_to x s i = leads k r x (edge t i) and eqb (edge t i).to s

  -- edge n + 1 adds its `to` state where it leads on
  pub moved-next : (x n s : ℕ) → in_set (moved_by (edge t) k r x (suc n)) s ≡ (in_set (moved_by (edge t) k r x n) s or leads_to x s (suc n))
  unfolding moved_by
  moved-next x n s = in_set-pick (leads k r x (edge t (suc n))) (moved_by (edge t) k r x n) (edge t (suc n)).to s

  -- a state in the moved set has an edge that leads to it
  pub moved-shows : (x n s : ℕ) → in_set (moved_by (edge t) k r x n) s ≡ true
      → (i : ℕ) × Numbered n i × (leads k r x (edge t i) ≡ true) × ((edge t i).to ≡ s)
  unfolding moved_by
  moved-shows x zero s h = absurd (false-true (sym (in_set-zero s) ∙ h))
  moved-shows x (suc n) s h =
      or-either
      (λ before. let (i, there, on, to) = moved-shows x n s before in (i, omega arith, on, to))
      (λ here. let (on, to) = and_parts (λ l. l) (eqb-true _ _) here in (suc n, omega arith, on, to))
      (sym (moved-next x n s) ∙ h)

  -- and the state that such an edge leads to is in it
  pub moved-reached : (x n s i : ℕ) → Numbered n i → leads k r x (edge t i) ≡ true → (edge t i).to ≡ s
      → in_set (moved_by (edge t) k r x n) s ≡ true
  moved-reached x zero s i h l e = absurd (omega arith)
  moved-reached x (suc n) s i h l e =
      moved-next x n s
      ∙ ⊎_elim
      (λ same. or-second _ (and_both (rw same at l) (eq-eqb _ _ (rw same at e))))
      (λ less. or-first _ (moved-reached x n s i (omega arith) l e))
      (eq-or-lt_of_le h.last)

  -- no edge leads on from no state
  leads-from-none : (e : Edge) → leads k r 0 e ≡ false
  unfolding leads ◌and◌
  leads-from-none e = rw (in_set-zero e.from, and-false)

  moved-from-none : (n : ℕ) → moved_by (edge t) k r 0 n ≡ 0
  unfolding moved_by pick
  moved-from-none zero = refl
  moved-from-none (suc n) = rw (leads-from-none (edge t (suc n))) (moved-from-none n)

  pub moved-empty : moved t k r 0 ≡ 0
  unfolding moved
  moved-empty = moved-from-none (edges t)

pub run-empty : (t : List ℕ) (k : ℕ) (word : List Role) → run t k 0 word ≡ 0
unfolding run_by
run-empty t k [] = refl
run-empty t k (r ∷ word) = rw (moved-empty t k r) (run-empty t k word)

module _ (t : List ℕ) (k : ℕ) (r : Role) (x y : ℕ) where
  -- an edge leads on from a union where it leads on from one of its parts
  leads-from-union : (e : Edge) → leads k r (bit_or x y) e ≡ (leads k r x e or leads k r y e)
  unfolding leads
  leads-from-union e =
      rw (in_set-or x y e.from)
      (and-or-and (eqb e.automaton k) (in_set x e.from) (in_set y e.from) (matches e r))

  moved-from-union : (n s : ℕ)
      → in_set (moved_by (edge t) k r (bit_or x y) n) s ≡ (in_set (moved_by (edge t) k r x n) s or in_set (moved_by (edge t) k r y n) s)
  unfolding moved_by ◌or◌
  moved-from-union zero s = rw (in_set-zero s)
  moved-from-union (suc n) s =
      rw (moved-next t k r (bit_or x y) n s, moved-next t k r x n s, moved-next t k r y n s)
      (rw (moved-from-union n s, leads-from-union (edge t (suc n)), or-and)
      (or-exchange (in_set (moved_by (edge t) k r x n) s) (in_set (moved_by (edge t) k r y n) s) _ _))

  pub moved-union : moved t k r (bit_or x y) ≡ bit_or (moved t k r x) (moved t k r y)
  unfolding moved
  moved-union = same-members _ _ (λ s. moved-from-union (edges t) s ∙ sym (in_set-or _ _ s))
