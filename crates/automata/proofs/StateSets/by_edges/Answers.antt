-- An edge leads inside the eight automata and the sixteen states; its own automaton's set gets what it gives.
use mathlib.Core.Path.{sym, subst}
use Rattle.std.proofs.Common.{arith}
use Rattle.automata.proofs.Together.{Moving, edge-there, moving-all, moving-none, moving-on, moving-past}
use Rattle.automata.proofs.StateSets.by_edges.Goals.{then-to-ne0, else-to-ne0}
use Rattle.automata.proofs.StateSets.by_edges.Goals as goal

pub loop-k-init : goal.loop-k-init
loop-k-init c = moving-none _ _ _

pub overflow_sub-at : goal.overflow_sub-at
overflow_sub-at c = let there = (edge-there _ c.requires _ (omega arith) c.edge-edge.ensures).0 in omega arith

pub bounds-self-at : goal.bounds-self-at
bounds-self-at c = let there = (edge-there _ c.requires _ (omega arith) c.edge-edge.ensures).0 in omega arith

pub gives-to-requires : goal.gives-to-requires
gives-to-requires c = (edge-there _ c.requires _ (omega arith) c.edge-edge.ensures).1

pub bounds-next-at : goal.bounds-next-at
bounds-next-at c = let there = (edge-there _ c.requires _ (omega arith) c.edge-edge.ensures).0 in omega arith

pub bounds-next-at-then-to-ne0 : goal.bounds-next-at-then-to-ne0
bounds-next-at-then-to-ne0 c = let there = (edge-there _ c.requires _ (omega arith) c.edge-edge.ensures).0 in omega arith

pub loop-k-preserved : goal.loop-k-preserved
loop-k-preserved c =
    let own = (edge-there _ c.requires _ (omega arith) c.edge-edge.ensures).0 in
    elim c.if-to-ne0.branch [
      | then-to-ne0 w ↦
          subst (Moving _ _ _ _) (sym w.next-is)
          (moving-on _ _ _ _ _ c.loop-k.invariant c.edge-edge.ensures own c.wide-at.ensures.0 c.gives-to.ensures)
      | else-to-ne0 w ↦
          subst (Moving _ _ _ _) (sym w.next-is)
          (moving-past _ _ _ _ _ c.loop-k.invariant c.edge-edge.ensures own c.wide-at.ensures.0 c.gives-to.ensures w.if-to-ne0.false)
    ]

pub returns : goal.returns
returns c = moving-all _ _ _ _ _ (omega arith) c.loop-k.invariant
