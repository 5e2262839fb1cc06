-- Whoever has no chain passes, and so does whoever has 2 to 4 cells; without part cells there is no chain.
use Rattle.std.proofs.Common.{refl, sym, ◌∙◌, arith}
use Rattle.table.specs.Outcome.{demand_each}
use Rattle.table.proofs.Reading.{is-number, not-number}
use Rattle.table.proofs.Stages.{each-passes}
use Rattle.table.proofs.Chains.{walk-goes-on, walk-starts}
use Rattle.scans.proofs.Chains.{chain-of-kind-4, first-inside, long-enough, next-inside, no-chain, no_cells, too_long, too_short}
use Rattle.scans.proofs.FirstBad.{bad-next, bad-none}
use Rattle.scans.proofs.first_bad_chain.Goals as goal

pub returns-then-cells-eq0 : goal.returns-then-cells-eq0
returns-then-cells-eq0 c = no_cells _ c.requires.credentials_value (sym c.cells.ensures.same ∙ c.if-cells-eq0.true)

pub loop-i-init : goal.loop-i-init
unfolding demand_each
loop-i-init c = λ number. refl

pub loop-i-preserved-then-not-is : goal.loop-i-preserved-then-not-is
loop-i-preserved-then-not-is c =
    let other = not-number c.is.ensures c.if-not-is.true in
    λ number. each-passes _ number _ (c.loop-i.invariant number) (no-chain _ _ c.credential-c.ensures other)

pub loop-j-init : goal.loop-j-init
loop-j-init c =
    let read = c.credential-c.ensures in
    let four = is-number c.is.ensures c.if-not-is.false in
    record {
      whole = chain-of-kind-4 _ _ read four;
      walked = walk-starts _ _ (first-inside _ c.requires.credentials_value _ (omega arith) read four);
    }

pub loop-j-preserved : goal.loop-j-preserved
loop-j-preserved c =
    let walked = c.loop-j.invariant.walked in
    let inside = next-inside _ c.requires.cells_value c.loop-j.j (omega (arith, walked.inside)) in
    let on = walk-goes-on _ _ _ _ walked inside c.loop-j-test.true (omega arith) in
    record { whole = c.loop-j.invariant.whole; walked = rw (c.cell-j.ensures, c.wide.ensures.0) on }

pub loop-i-preserved : goal.loop-i-preserved
loop-i-preserved c =
    let whole = long-enough _ _ _ _ c.loop-j.invariant.walked c.loop-j-test.false c.if-met-lt-LEAST_PARTS.false in
    λ number. each-passes _ number _ (c.loop-i.invariant number) (c.loop-j.invariant.whole ∙ whole)

pub returns-then-met-gt-MOST_PARTS : goal.returns-then-met-gt-MOST_PARTS
returns-then-met-gt-MOST_PARTS c =
    let long = too_long _ _ _ _ c.loop-j.invariant.walked c.loop-j-test.true c.if-met-gt-MOST_PARTS.true in
    bad-next _ _ _ c.loop-i.invariant (omega arith) (c.loop-j.invariant.whole ∙ long)

pub returns-then-met-lt-LEAST_PARTS : goal.returns-then-met-lt-LEAST_PARTS
returns-then-met-lt-LEAST_PARTS c =
    let short = too_short _ _ _ _ c.loop-j.invariant.walked c.loop-j-test.false c.if-met-lt-LEAST_PARTS.true in
    bad-next _ _ _ c.loop-i.invariant (omega arith) (c.loop-j.invariant.whole ∙ short)

pub returns-after-loop-i : goal.returns-after-loop-i
returns-after-loop-i c = bad-none _ _ _ c.loop-i.invariant (omega arith)
