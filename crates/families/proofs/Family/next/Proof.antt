-- `families::Family::next` meets its contract: no set before the one in hand is in the family. Assumes nothing.
use mathlib.Core.Path.{refl}
use Prim.Native.Nat.{◌-◌}
use native.Mathlib.Omega.{arith}
use Rattle.families.specs.Families.{all_sets}
use Rattle.families.proofs.Stepping.{PassedOver, next_here, next-none, passed_none, passed-one, passed-word}
use borrow.Author.Rules.{rules}
use Rattle.families.proofs.Family.next.Statement.{statement}
use Rattle.families.proofs.Family.next.Tie as tie

abbrev invariant-loop : tie.invariant-loop-set
invariant-loop from self set₀ set = PassedOver self from set

abbrev decreases-loop : tie.decreases-loop-set
decreases-loop from self set₀ set = all_sets - set

loop-holds : tie.Need-loop-set-init invariant-loop decreases-loop
loop-holds c = passed_none _ _ c.requires

cast-rest : tie.Need-overflow_cast-rest invariant-loop decreases-loop
cast-rest c = search rules

mul-rest : tie.Need-offset_bounds-self-set invariant-loop decreases-loop
mul-rest c = search rules

element-copy-out-rest : tie.Need-bounds-self-set invariant-loop decreases-loop
element-copy-out-rest c = search rules

cast-rest-2 : tie.Need-overflow_cast-rest-in-loop-set invariant-loop decreases-loop
cast-rest-2 c = search rules

shr-rest : tie.Need-overflow_shr-rest invariant-loop decreases-loop
shr-rest c = search rules

returns : tie.Need-returns-then-rest-eq1 invariant-loop decreases-loop
returns c = next_here _ _ _ _ c.loop-set.invariant (omega arith) refl c.if-rest-eq1.true

add-set : tie.Need-overflow_add-set invariant-loop decreases-loop
add-set c = search rules

mul-set : tie.Need-overflow_mul-set invariant-loop decreases-loop
mul-set c = search rules

add-set-2 : tie.Need-overflow_add-set-else-rest-eq0 invariant-loop decreases-loop
add-set-2 c = search rules

loop-less : tie.Need-loop-set-smaller-then-rest-eq0 invariant-loop decreases-loop
loop-less c = search rules

loop-again : tie.Need-loop-set-preserved-then-rest-eq0 invariant-loop decreases-loop
loop-again c = passed-word _ _ _ _ c.loop-set.invariant (omega arith) refl c.if-rest-eq0.true

loop-less-2 : tie.Need-loop-set-smaller invariant-loop decreases-loop
loop-less-2 c = search rules

loop-again-2 : tie.Need-loop-set-preserved invariant-loop decreases-loop
loop-again-2 c = passed-one _ _ _ _ c.loop-set.invariant (omega arith) refl c.if-rest-eq1.false

returns-2 : tie.Need-returns invariant-loop decreases-loop
returns-2 c = next-none _ _ _ c.loop-set.invariant (omega arith)

pub next_spec : {M : Type 1} → statement M
next_spec =
    tie.close
    (tie.spec
    invariant-loop
    decreases-loop
    loop-holds
    cast-rest
    mul-rest
    element-copy-out-rest
    cast-rest-2
    shr-rest
    returns
    add-set
    mul-set
    add-set-2
    loop-less
    loop-again
    loop-less-2
    loop-again-2
    returns-2)
