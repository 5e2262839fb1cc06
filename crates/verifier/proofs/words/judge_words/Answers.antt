-- One more automaton is kept, or it is the first that is not.
use Rattle.std.proofs.Common.{refl, sym, ◌∙◌, arith}
use Rattle.sets.proofs.Tests.{failed, passed}
use Rattle.table.specs.Checks.{number_of}
use Rattle.table.specs.Layout.{automata}
use Rattle.table.specs.Outcome.{demand_each}
use Rattle.table.specs.declared.Reason.TheVariants as reason
use Rattle.table.proofs.Stages.{each-passes, each-stops, each-through, refused-then, then-on}
use Rattle.table.proofs.Told.{tells-at, tells-value}
use Rattle.verifier.specs.Kept.{keeps}
use Rattle.verifier.proofs.Judged.{kept-flag}
use Rattle.verifier.proofs.words.judge_words.Goals as goal

pub loop-i-init : goal.loop-i-init
unfolding demand_each
loop-i-init c = refl

pub returns-then-not-is_kept : goal.returns-then-not-is_kept
unfolding number_of
returns-then-not-is_kept c =
    let ok = keeps c.args.table.now c.args.used c.args.every c.args.some in
    let flag = c.is_kept.ensures ∙ kept-flag _ _ _ _ _ _ _ c.automata_of-imposed.ensures c.automaton.ensures c.demanded-asked.ensures in
    let stops = each-stops ok 14 c.loop-i.i (automata c.args.table.now) (omega arith) c.loop-i.invariant (failed flag c.if-not-is_kept.true) in
    tells-at _ reason.Word _ ∙ refused-then _ stops

pub loop-i-preserved : goal.loop-i-preserved
loop-i-preserved c =
    let ok = keeps c.args.table.now c.args.used c.args.every c.args.some in
    let flag = c.is_kept.ensures ∙ kept-flag _ _ _ _ _ _ _ c.automata_of-imposed.ensures c.automaton.ensures c.demanded-asked.ensures in
    each-passes ok 14 _ c.loop-i.invariant (passed flag c.if-not-is_kept.false)

pub returns : goal.returns
returns c =
    let ok = keeps c.args.table.now c.args.used c.args.every c.args.some in
    tells-value _ _ ∙ then-on (sym (each-through ok 14 c.loop-i.i (automata c.args.table.now) (omega arith) c.loop-i.invariant))
