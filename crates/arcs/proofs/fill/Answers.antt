-- An edge that matches goes into the arc of its `to` state, for which there is room.
use mathlib.Core.Path.{◌∙◌, sym, subst}
use Rattle.std.proofs.Common.{arith}
use Rattle.sets.proofs.Members.{one_bit}
use Rattle.automata.proofs.Together.{edge-there}
use Rattle.arcs.proofs.Making.{Making, made-since, making-all, making-found, making-more, making-none, making-past}
use Rattle.arcs.proofs.fill.Goals.{then-matches, else-matches}
use Rattle.arcs.proofs.fill.Goals as goal

pub loop-k-init : goal.loop-k-init
loop-k-init c =
    let asked = c.requires in
    making-none c.clear.ensures _ asked.well_formed asked.arcs asked.place_bound asked.arcs_len asked.fact

pub overflow_shl-edge : goal.overflow_shl-edge
overflow_shl-edge c =
    let (own, (from, to)) = edge-there _ c.requires.well_formed _ (omega arith) c.edge-edge.ensures in omega (arith, to)

pub put-requires-clause-l_lt_most_arcs : goal.put-requires-clause-l_lt_most_arcs
put-requires-clause-l_lt_most_arcs c =
    let (own, (from, to)) = edge-there _ c.requires.well_formed _ (omega arith) c.edge-edge.ensures in
    making-found c.loop-k.invariant _ c.edge-edge.ensures _ (one_bit 16 _ (omega (arith, to))) c.find-l.ensures to

pub put-requires-clause-numbered : goal.put-requires-clause-numbered
put-requires-clause-numbered c = edge-there _ c.requires.well_formed _ (omega arith) c.edge-edge.ensures

pub loop-k-preserved : goal.loop-k-preserved
loop-k-preserved c =
    let (own, (from, to)) = edge-there _ c.requires.well_formed _ (omega arith) c.edge-edge.ensures in
    let read = c.edge-edge.ensures in
    elim c.if-matches.branch [
      | then-matches w ↦
          let on = sym c.matches.ensures ∙ w.if-matches.true in
          let mask = one_bit 16 c.edge-edge.result.to (omega (arith, to)) in
          subst (Making _ _ _ _ _) (sym w.arcs-is)
          (making-more c.loop-k.invariant _ read _ mask w.find-l.ensures to own on w.put.ensures)
      | else-matches w ↦
          let off = sym c.matches.ensures ∙ w.if-matches.false in
          subst (Making _ _ _ _ _) (sym w.arcs-is) (making-past c.loop-k.invariant _ read off)
    ]

pub returns : goal.returns
returns c =
    let made = making-all _ c.credential.ensures c.loop-k.invariant (omega arith) in
    (made.0, made-since c.clear.ensures made.1)
