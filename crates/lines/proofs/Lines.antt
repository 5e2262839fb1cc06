-- Numbers and lines that are put into a buffer.
use mathlib.Core.Path.{◌≡◌, ◌∙◌, refl, sym}
use mathlib.Core.List.{List, [], ◌∷◌, ◌++◌, append-nil, append_assoc}
use Prim.Native.Nat.{ℕ, ◌+◌, ◌*◌, ◌/◌, ◌%◌, ◌^◌, ◌<◌, ◌≤◌}
use native.Mathlib.Numerals.{add-one}
use native.Mathlib.Omega.{arith}
use mir.Syntax.{w64}
use mir.Val.{Fits}
use lib.ListN.{get_or, length, take, length-append}
use lib.Seq.{take-length, take-suc}
use Rattle.lines.specs.Printed.{ascii, decimal, glyph, line, lines}
use Rattle.lines.specs.Put.{Put}
use Rattle.lines.proofs.Decimals.{decimal-more, decimal-one, decimal-short}
use Rattle.lines.proofs.Puts.{put-none, put_then}

module _ {before after : List ℕ} {at next : ℕ} (n : ℕ) where
  -- one digit
  pub put-single : n < 10 → Put before at (glyph n ∷ []) after next → Put before at (decimal n) after next
  put-single h p = rw (decimal-one n h) p

  -- the digits but the last, and the last
  pub put-more : {between : List ℕ} {last : ℕ} → 10 ≤ n → Put before at (decimal (n / 10)) between last
      → Put between last (glyph (n % 10) ∷ []) after next → Put before at (decimal n) after next
  put-more h p q = rw (decimal-more n h) (put_then p q)

  -- the digits and the line's end
  pub put_ended : {between : List ℕ} {last : ℕ} → Put before at (decimal n) between last
      → Put between last (ascii "\n") after next → Put before at (line n) after next
  unfolding line
  put_ended p q = put_then p q

-- how many digits a number of 64 bits has, and how long the line of one of 32 bits is
pub decimal-long : (n : ℕ) → Fits w64 n → length (decimal n) ≤ 20
decimal-long n h = decimal-short 19 n (omega arith)

pub line-short : (n : ℕ) → n < 2 ^ 32 → length (line n) ≤ 11
unfolding line
line-short n h = omega (arith, length-append (decimal n) (ascii "\n"), decimal-short 9 n (omega arith))

lines-append : (s t : List ℕ) → lines (s ++ t) ≡ lines s ++ lines t
unfolding lines
lines-append [] t = refl
lines-append (x ∷ s) t = rw (lines-append s t) (sym (append_assoc (line x) (lines s) (lines t)))

lines-one : (x : ℕ) → lines (x ∷ []) ≡ line x
unfolding lines
lines-one x = append-nil (line x)

-- one line after the other
lines_none : (before s : List ℕ) → Put before 0 (lines (take 0 s)) before 0
unfolding lines
lines_none before s = put-none before 0 (omega arith)

lines_next : {before between after : List ℕ} {at next : ℕ} (s : List ℕ) (i : ℕ) → Put before 0 (lines (take i s)) between at
    → i < length s → Put between at (line (get_or s i 0)) after next → Put before 0 (lines (take (i + 1) s)) after next
lines_next s i p h q =
    rw (add-one i, take-suc s i 0 h, lines-append, lines-one) (put_then p q)

lines-all : {before after : List ℕ} {next : ℕ} (s : List ℕ) (i : ℕ) → Put before 0 (lines (take i s)) after next
    → i ≤ length s → length s ≤ i → Put before 0 (lines s) after next
lines-all s i p h l =
    let e : i ≡ length s = omega arith in
    let p' = rw e at p in rw take-length at p'

-- the lines of the first i sets are put, none of more than ten digits
pub record LinesPut (s before : List ℕ) (i : ℕ) (after : List ℕ) (next : ℕ) : Type 0 where
  pub few : i ≤ length s
  pub size : length after ≡ length before
  pub short : next ≤ 11 * i
  pub put : Put before 0 (lines (take i s)) after next

pub lines-begin : (s before : List ℕ) → LinesPut s before 0 before 0
lines-begin s before = record { few = omega arith; size = refl; short = omega arith; put = lines_none before s }

pub lines-go-on : {s before between after : List ℕ} {i at next : ℕ} → LinesPut s before i between at → i < length s
    → get_or s i 0 < 2 ^ 32 → length after ≡ length between → Put between at (line (get_or s i 0)) after next
    → LinesPut s before (i + 1) after next
lines-go-on {s} {i = i} so_far less narrow same p =
    record {
      few = omega arith;
      size = same ∙ so_far.size;
      short = omega (arith, so_far.short, p.ends, line-short (get_or s i 0) narrow);
      put = lines_next s i so_far.put less p;
    }

pub lines_end : {s before after : List ℕ} {i next : ℕ} → LinesPut s before i after next → length s ≤ i
    → Put before 0 (lines s) after next × (next ≤ 11 * length s)
lines_end {s} {i = i} all through =
    (lines-all s i all.put all.few through, omega (arith, all.few, all.short))
