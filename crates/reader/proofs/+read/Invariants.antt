-- The levels fall with each call. What is kept after the first children, with the others still to be read, is the whole, and the
-- index of arcs stays one of the table.
use Rattle.std.proofs.Common.{◌-◌}
use Rattle.moves.specs.Arcs.{Arcs}
use Rattle.branches.specs.Held.{above}
use Rattle.reader.proofs.Onward.{Onward}
use Rattle.reader.proofs.+read.Given as goal

abbrev pub decreases-read : goal.decreases-read
decreases-read l = l.levels

abbrev pub invariant-loop-next : goal.invariant-loop-next
invariant-loop-next l =
    record {
      so_far : Onward l.table (l.levels - 1) (above l.deeper) l.next-items l.below l.initial.rest l.initial.tally
          l.rest l.tally l.next-index;
      index : Arcs l.table l.arcs;
    }
