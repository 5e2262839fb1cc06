-- `lines::put_number` meets its contract: one digit, or the digits of a tenth and the last. The measure is the number.
-- Assumes nothing.
use mathlib.Core.Path.{◌∙◌}
use Prim.Native.Nat.{ℕ, ◌<◌}
use native.Mathlib.Omega.{arith}
use Rattle.lines.proofs.Decimals.{length_more, length-one}
use Rattle.lines.proofs.Lines.{put-more, put-single}
use borrow.Fn.Kinds.{In}
use borrow.Fn.PlainCycle.{Measures, is, falls, and}
use Rattle.lines.proofs.put_number.Reads as put-number
use Rattle.lines.proofs.put_number.Kinds as put-number-kinds
use Rattle.lines.proofs.+put_number.Lts-put_number as put-number-lts
use Rattle.lines.proofs.put_digit.Reads as put-digit-reads
use Rattle.lines.proofs.+put_number.{statement}
use Rattle.lines.proofs.+put_number.Tie.{close}

abbrev μ-put-number : Measures 1 put-number-kinds.ps ℕ
μ-put-number κs a = a.1.1.0

abbrev put-number-at : ℕ → In 1 put-number-kinds.ps
put-number-at t =
    and 1 put-number-kinds.ps (is 1 put-number-kinds.ps μ-put-number t) put-number.Pre

abbrev put-number-below : ℕ → In 1 put-number-kinds.ps
put-number-below t =
    and 1 put-number-kinds.ps (falls 1 put-number-kinds.ps ◌<◌ μ-put-number t) put-number.Pre

abbrev put-number-claims : ℕ → put-number-lts.Claims
put-number-claims t = (put-digit-reads.Asked, put-digit-reads.Learnt, put-number-below t, put-number.Post)

put-number-put-digit-requires : (t : ℕ)
    → put-number-lts.Need-put_digit-requires (put-number-claims t) (put-number-at t) put-number.Post
put-number-put-digit-requires t c κs = omega (arith, c.requires, length-one _ c.if-number-lt10.true)

put-number-same-length : (t : ℕ) → put-number-lts.Need-shape_of-out-then-number-lt10 (put-number-claims t) (put-number-at t) put-number.Post
put-number-same-length t c = c.put_digit.auto.out

put-number-returns : (t : ℕ) → put-number-lts.Need-returns-then-number-lt10 (put-number-claims t) (put-number-at t) put-number.Post
put-number-returns t c = put-single _ c.if-number-lt10.true c.put_digit.ensures

put-number-put-number-requires : (t : ℕ)
    → put-number-lts.Need-put_number-last-requires (put-number-claims t) (put-number-at t) put-number.Post
put-number-put-number-requires t c κs = omega (arith, c.requires, length_more _ c.if-number-lt10.false)

put-number-put-digit-requires-2 : (t : ℕ)
    → put-number-lts.Need-put_digit-requires-2 (put-number-claims t) (put-number-at t) put-number.Post
put-number-put-digit-requires-2 t c κs =
    omega (arith, c.requires, c.put_number-last.ensures, c.put_number-last.auto.out, length_more _ c.if-number-lt10.false)

put-number-same-length-2 : (t : ℕ) → put-number-lts.Need-shape_of-out (put-number-claims t) (put-number-at t) put-number.Post
put-number-same-length-2 t c =
    c.put_digit-2.auto.out ∙ c.put_number-last.auto.out

put-number-returns-2 : (t : ℕ) → put-number-lts.Need-returns (put-number-claims t) (put-number-at t) put-number.Post
put-number-returns-2 t c =
    put-more _ c.if-number-lt10.false (c.put_number-last.ensures) c.put_digit-2.ensures

pub +put_number_spec : {M : Type 1} → statement M
+put_number_spec = close μ-put-number λ t. put-number-lts.spec (put-number-claims t) (put-number-at t)
    put-number.Post
    (put-number-put-digit-requires t)
    (put-number-same-length t)
    (put-number-returns t)
    (put-number-put-number-requires t)
    (put-number-put-digit-requires-2 t)
    (put-number-same-length-2 t)
    (put-number-returns-2 t)
