-- What `find` tells of the numbers 1 to n: the first that passes, or that none does; and so of the records with these numbers.
use mathlib.Core.Path.{◌≡◌, subst, ap, ◌∙◌}
use mathlib.Core.Bool.{Bool, true, false}
use Prim.Native.Nat.{ℕ, ◌+◌, ◌-◌, ◌≤◌, ◌<◌}
use native.Mathlib.Omega.{arith}
use denote.Param.Members.{Mut}
use denote.Ref.{Bor}
use Rattle.std.specs.Prelude.{Option, Some, None, MatchOption, IsSomeAnd, IfSome}
use Rattle.std.specs.Option.{option_map}
use Rattle.std.specs.declared.ops.RangeInclusive.{RangeInclusive}
use Rattle.std.specs.Range.{range_inclusive_start, range_inclusive_end, range_inclusive_exhausted}
use Rattle.std.specs.Fn.{CalledAt}
use Rattle.std.specs.Iterator.Runs.{Run, SomeRun, CallKeepsClosure, NoItemPasses, EndsAtFirstPassing}
use Rattle.std.proofs.iter.runs.Sources.{inclusive_listed, nat_range_inclusive_steps}
use Rattle.table.specs.Layout.{Numbered}
use Rattle.table.proofs.Stages.{FirstFailure}

-- what is there
there : (P : ℕ → Type 0) (o : Option ℕ) (x : ℕ) → option_map (λ y. y) o ≡ Some x → IfSome o P → P x
there P None x e h = absurd (cc)
there P (Some y) x e h = subst P (cc) h

there-too : (P : ℕ → Type 0) (o : Option ℕ) (x : ℕ) → option_map (λ y. y) o ≡ Some x → IsSomeAnd o P → P x
there-too P None x e h = absurd h
there-too P (Some y) x e h = subst P (cc) h

module _ {F : Type 0} {g : Mut F (Bor ℕ × Unit {0}) Bool} {f : F} {n : ℕ} {s : RangeInclusive ℕ} (Yes No : ℕ → Type 0)
    (start : range_inclusive_start s ≡ 1) (end : range_inclusive_end s ≡ n) (fresh : range_inclusive_exhausted s ≡ false)
    (keeps : CallKeepsClosure g f)
    (yes' : (x : ℕ) (q : F) → CalledAt g f x true q → Yes x)
    (no' : (x : ℕ) (q : F) → CalledAt g f x false q → No x) where
  module _ (p : Run nat_range_inclusive_steps) (from : p.from ≡ s) where
    counted : (p.len ≤ n) × (p.whole ≡ true → p.len ≡ n) × ((k : ℕ) → k < p.len → option_map (λ y. y) (p.at k) ≡ Some (k + 1))
    counted =
        let (a, b, is-a, is-b, up) = inclusive_listed p p.seen in
        let z : range_inclusive_exhausted p.from ≡ false = rw from fresh in
        let first : range_inclusive_start p.from ≡ 1 = rw from start in
        let last : range_inclusive_end p.from ≡ n = rw from end in
        let up' = (up z).0 in (
          omega (arith, up'.0),
          (λ w. omega (arith, up'.1 w)),
          λ k h. let e : a + k ≡ k + 1 = omega arith in up'.3 k h ∙ ap Some e,
        )

    number : (k : ℕ) → 1 ≤ k → k ≤ p.len → option_map (λ y. y) (p.at (k - 1)) ≡ Some k
    number k low high = let e : k - 1 + 1 ≡ k = omega arith in counted.2 (k - 1) (omega arith) ∙ ap Some e

  pub first-from-one : (r : Option ℕ)
      → SomeRun nat_range_inclusive_steps s (λ u. MatchOption r ((u.whole ≡ true) × NoItemPasses u g f) (EndsAtFirstPassing u g f))
      → MatchOption r ((k : ℕ) → 1 ≤ k → k ≤ n → No k) (λ i. (1 ≤ i) × (i ≤ n) × Yes i × ((k : ℕ) → 1 ≤ k → k < i → No k))
  first-from-one None (p, from, (whole, none)) =
      λ k low high.
      let all = (counted p from).1 whole in
      no' k f (there (λ x. CalledAt g f x false f) (p.at (k - 1)) k (number p from k low (omega arith)) (none keeps (k - 1)))
  first-from-one (Some i) (p, from, (j, len, at, passes)) =
      let c = counted p from in
      let here : i ≡ j + 1 = let e = rw at at (c.2 j (omega arith)) in cc in
      let (pass, before) = passes keeps in (
        omega arith,
        omega (arith, c.0),
        yes' i f pass,
        λ k low less. no' k f (there-too (λ x. CalledAt g f x false f) (p.at (k - 1)) k (number p from k low (omega arith)) (before (k - 1) (omega arith))),
      )

-- `find` with a closure that passes just the records that are not ok: the first that fails, or every one is ok
module _ (ok : ℕ → Bool) (n : ℕ) where
  as_failure : (r : Option ℕ)
      → MatchOption r ((k : ℕ) → 1 ≤ k → k ≤ n → ok k ≡ true)
      (λ i. (1 ≤ i) × (i ≤ n) × (ok i ≡ false) × ((k : ℕ) → 1 ≤ k → k < i → ok k ≡ true))
      → MatchOption r ((k : ℕ) → Numbered n k → ok k ≡ true) (FirstFailure ok n)
  as_failure None all = λ k h. all k h.first h.last
  as_failure (Some i) (first, last, fails, before) =
      record { within = record { first = first; last = last }; fails = fails; before = λ j h less. before j h.first less }

  pub first-failure : {F : Type 0} {g : Mut F (Bor ℕ × Unit {0}) Bool} {f : F} {s : RangeInclusive ℕ} (r : Option ℕ)
      → SomeRun nat_range_inclusive_steps s (λ u. MatchOption r ((u.whole ≡ true) × NoItemPasses u g f) (EndsAtFirstPassing u g f))
      → range_inclusive_start s ≡ 1 → range_inclusive_end s ≡ n → range_inclusive_exhausted s ≡ false → CallKeepsClosure g f
      → ((x : ℕ) (q : F) → CalledAt g f x true q → ok x ≡ false) → ((x : ℕ) (q : F) → CalledAt g f x false q → ok x ≡ true)
      → MatchOption r ((k : ℕ) → Numbered n k → ok k ≡ true) (FirstFailure ok n)
  first-failure r run start end fresh keeps fails passes =
      as_failure r (first-from-one (λ i. ok i ≡ false) (λ i. ok i ≡ true) start end fresh keeps fails passes r run)
