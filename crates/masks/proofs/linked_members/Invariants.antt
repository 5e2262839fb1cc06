-- Who is in the linked role of some of the middles below j is found.
use Rattle.std.proofs.Common.{◌≡◌}
use Rattle.masks.specs.Masks.{linked_members}
use Rattle.masks.proofs.linked_members.Given as goal

abbrev pub invariant-loop-j : goal.invariant-loop-j
invariant-loop-j l = l.found ≡ linked_members l.index l.rows l.level l.i l.middles l.j
