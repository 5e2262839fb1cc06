-- `moves::next` meets its contract: a row that has been made has the arcs of the credential's role; else the edges
-- tell. Assumes nothing.
use mathlib.Core.Path.{◌∙◌}
use native.Mathlib.Omega.{arith}
use borrow.Author.Rules.{rules}
use Rattle.moves.proofs.Arcs.{row_made, row-moves}
use Rattle.automata.proofs.Together.{role-moves}
use Rattle.moves.proofs.next.Statement.{statement}
use Rattle.moves.proofs.next.Tie as tie

is-made-requires : tie.Need-is_made-requires
is-made-requires c κs = search rules

by-arcs-requires : tie.Need-by_arcs-requires
by-arcs-requires c κs =
    let index = c.requires.1 in
    let (whole, row) = row_made _ index.0 index.1 c.is_made.ensures c.if-is_made.true in
    ((whole, omega arith), row.ended)

returns : tie.Need-returns-then-is_made
returns c =
    let index = c.requires.1 in
    let (whole, row) = row_made _ index.0 index.1 c.is_made.ensures c.if-is_made.true in
    c.by_arcs.ensures ∙ row-moves _ _ _ _ _ row

add-credential : tie.Need-overflow_add-place
add-credential c = search rules

credential-requires : tie.Need-credential-credential-requires
credential-requires c κs = search rules

by-edges-requires : tie.Need-by_edges-requires
by-edges-requires c κs = search rules

returns-2 : tie.Need-returns
returns-2 c = c.by_edges.ensures ∙ role-moves _ _ _ c.credential-credential.ensures

pub next_spec : {M : Type 1} → statement M
next_spec =
    tie.close
    (tie.spec
    is-made-requires
    by-arcs-requires
    returns
    add-credential
    credential-requires
    by-edges-requires
    returns-2)
