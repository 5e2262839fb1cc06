-- A place of the set with a lesser number is the best now; the set has a member, so at the end there is one.
use Rattle.std.proofs.Common.{◌<◌, arith, refl, sym, ◌∙◌}
use Rattle.table.specs.Layout.{credentials}
use Rattle.choice.proofs.Linking.{named-all, named_here, named-kept, named_none, named-out}
use Rattle.choice.proofs.middles.least_named.Goals.{then-has+then-comes_before, else-has}
use Rattle.choice.proofs.middles.least_named.Goals.{else-has-via-then-has+else-comes_before, else-has-via-else-has}
use Rattle.choice.proofs.middles.least_named.Goals as goal

pub loop-j-init : goal.loop-j-init
loop-j-init c = record { there = tt; named = named_none _ _ _ refl }

pub loop-j-preserved : goal.loop-j-preserved
loop-j-preserved c =
    let so_far = c.loop-j.invariant in
    let told = sym c.has.ensures in
    let there : c.loop-j.j < credentials c.args.table.now = omega arith in
    elim c.if-has.branch [
      | then-has+then-comes_before w ↦
          rw w.best-is
          record {
            there = there;
            named =
                named_here _ _ _ _ so_far.named there (told ∙ w.if-has.true)
                (sym w.comes_before.ensures ∙ w.if-comes_before.true);
          }
      | else-has w ↦
          rw w.best-is
          record {
            there = so_far.there;
            named = elim w.else-has.branch [
              | else-has-via-then-has+else-comes_before u ↦
                  named-kept _ _ _ _ so_far.named (sym u.comes_before.ensures ∙ u.if-comes_before.false)
              | else-has-via-else-has u ↦ named-out _ _ _ _ so_far.named (told ∙ u.if-has.false)
            ];
          }
    ]

pub returns : goal.returns
returns c =
    rw (c.unwrap_or.ensures, c.credentials-n.ensures.same)
    (named-all _ _ _ _ (omega arith) c.loop-j.invariant.named c.requires.places_bound.0 c.requires.places_bound.1)
