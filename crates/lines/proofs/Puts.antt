-- Texts that are put into a buffer one after the other.
use mathlib.Core.Path.{◌≡◌, refl, ap, ◌∙◌}
use mathlib.Core.List.{List, [], ◌∷◌, ◌++◌}
use Prim.Native.Nat.{ℕ, suc, ◌+◌, ◌<◌, ◌≤◌}
use native.Mathlib.Nat.{add-zero}
use native.Mathlib.Numerals.{add-one}
use native.Mathlib.Omega.{arith}
use lib.ListN.{get_or, length, set, take, length-append}
use lib.Seq.{length-sets, sets-eq, take-length, take-suc}
use Rattle.lines.specs.Printed.{Filled}
use Rattle.lines.specs.Put.{Put, stored}

stored-then : (buffer : List ℕ) (at : ℕ) (s t : List ℕ)
    → stored (stored buffer at s) (at + length s) t ≡ stored buffer at (s ++ t)
unfolding stored
stored-then buffer at [] t = rw add-zero
stored-then buffer at (x ∷ s) t =
    let e : at + suc (length s) ≡ suc at + length s = omega arith in
    rw e (stored-then (set buffer at x) (suc at) s t)

pub put-none : (buffer : List ℕ) (at : ℕ) → at ≤ length buffer → Put buffer at [] buffer (at + 0)
unfolding stored
put-none buffer at room = record { cells = refl; ends = omega arith; inside = omega arith }

pub put_one : (buffer : List ℕ) (at x : ℕ) → at < length buffer → Put buffer at (x ∷ []) (set buffer at x) (at + 1)
unfolding stored
put_one buffer at x room = record { cells = refl; ends = omega arith; inside = omega arith }

module _ {before after : List ℕ} {at next : ℕ} {s : List ℕ} (p : Put before at s after next) where
  pub put-length : length after ≡ length before
  unfolding stored
  put-length = ap length p.cells ∙ length-sets before at s

  pub put_then : {last : List ℕ} {end : ℕ} {t : List ℕ} → Put after next t last end → Put before at (s ++ t) last end
  put_then {t = t} q = record {
    cells = q.cells ∙ rw (p.cells, p.ends) (stored-then before at s t);
    ends = q.ends ∙ rw (length-append s t) (omega (arith, p.ends));
    inside = omega (arith, q.inside, put-length);
  }

-- a text that is put byte by byte
pub put_next : {before after : List ℕ} {at : ℕ} (s : List ℕ) (i : ℕ) → Put before at (take i s) after (at + i) → i < length s
    → at + i < length after → Put before at (take (i + 1) s) (set after (at + i) (get_or s i 0)) (at + (i + 1))
put_next s i p h room =
    let q = put_then p (put_one _ _ (get_or s i 0) room) in
    record {
      cells = rw (add-one i, take-suc s i 0 h) q.cells;
      ends = rw (add-one i, take-suc s i 0 h) (omega (arith, q.ends));
      inside = omega (arith, q.inside);
    }

pub put_all : {before after : List ℕ} {at : ℕ} (s : List ℕ) (i : ℕ) → Put before at (take i s) after (at + i) → i ≤ length s
    → length s ≤ i → Put before at s after (at + length s)
put_all s i p h l =
    let e : i ≡ length s = omega arith in
    let p' = rw e at p in rw take-length at p'

-- what is put at the start, and the bytes beyond it
pub put-filled : {before after text : List ℕ} {next : ℕ} → Put before 0 text after next → Filled text before after next
unfolding stored
put-filled {before} {text = text} {next = next} p =
    let all : next ≡ length text = omega (arith, p.ends) in
    let same : 0 + length text ≡ next = omega arith in
    record { whole = all; bytes = p.cells ∙ sets-eq text before 0 (omega (arith, p.inside)) ∙ rw same }

pub filled_within : {text before after : List ℕ} {count : ℕ} → Filled text before after count → count ≤ length after
filled_within p = omega (arith, p.whole, simp length-append at (ap length p.bytes))
