-- `edges::gives` meets its contract: what the edge's masks give, where its label matches. Assumes nothing.
use mathlib.Core.Path.{sym, ◌∙◌}
use borrow.Author.Rules.{rules}
use Rattle.edges.proofs.Masks.{gives-matching, gives_none, gives_other}
use Rattle.edges.proofs.gives.Statement.{statement}
use Rattle.edges.proofs.gives.Tie as tie

shl-given : tie.Need-overflow_shl-edge
shl-given c = search rules

shl-given-2 : tie.Need-overflow_shl-edge-2
shl-given-2 c = search rules

given-requires : tie.Need-given-to-requires
given-requires c κs = search rules

returns : tie.Need-returns-then-to-eq0
returns c =
    gives_none _ _ _ c.requires c.given-to.ensures c.if-to-eq0.true

matches-requires : tie.Need-matches-requires
matches-requires c κs = search rules

returns-2 : tie.Need-returns-then-matches
returns-2 c =
    let on = sym c.matches.ensures ∙ c.if-matches.true in
    gives-matching _ _ _ c.requires c.given-to.ensures on

returns-3 : tie.Need-returns
returns-3 c =
    let off = sym c.matches.ensures ∙ c.if-matches.false in
    gives_other _ _ _ c.requires c.given-to.ensures off

pub gives_spec : {M : Type 1} → statement M
gives_spec =
    tie.close (tie.spec shl-given shl-given-2 given-requires returns matches-requires returns-2 returns-3)
