-- Nothing is owed, or what has been met is wanted, or what the later goals can meet is known.
use Rattle.std.proofs.Common.{◌∙◌, refl, sym, arith}
use Rattle.sets.proofs.Members.{part-le}
use Rattle.walking.proofs.Later.{children-nothing, family-wants, here-all, here-left, here-none}
use Rattle.walking.proofs.wanted_here.Goals as goal

pub returns-then-owed-eq0 : goal.returns-then-owed-eq0
returns-then-owed-eq0 c =
    let pre = c.requires in (
      here-none _ _ _ (family-wants pre.wanted) _ pre.met_owed _ c.if-owed-eq0.true (children-nothing pre.children),
      pre.remembered,
    )

pub only-now-requires : goal.only-now-requires
only-now-requires c = omega (arith, part-le _ _ c.requires.met_owed, c.requires.wanted.few)

pub has-requires : goal.has-requires
has-requires c = omega (arith, part-le _ _ c.requires.met_owed, c.requires.wanted.few)

pub returns-then-has : goal.returns-then-has
returns-then-has c =
    let pre = c.requires in (
      here-all _ _ _ (family-wants pre.wanted) _ pre.met_owed _ _ c.only-now.ensures (children-nothing pre.children)
          (sym c.has.ensures ∙ c.if-has.true) _ c.left_by.ensures,
      pre.remembered,
    )

pub returns : goal.returns
returns c =
    let pre = c.requires in
    let (told, now-remembered) = c.met_from-rest.ensures in (
      here-left _ _ _ (family-wants pre.wanted) _ pre.met_owed _ _ c.only-now.ensures _ _ (λ X. refl) _ _ _ told
          c.joined.ensures c.left_by-2.ensures,
      now-remembered,
    )
