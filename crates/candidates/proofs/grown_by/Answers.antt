-- `candidates::grown_by` meets its contract: what is returned includes the set, and is not admitted.
use Rattle.std.proofs.Common.{sym, ◌∙◌}
use Rattle.sets.proofs.Tests.{failed}
use Rattle.candidates.proofs.Growing.{beyond-fails, grown-more, grown-same, grown-unmet}
use Rattle.candidates.proofs.grown_by.Goals as goal

pub returns-then-has : goal.returns-then-has
returns-then-has c = grown-same c.requires.set_bound c.requires.set_value

pub returns-then-not-has : goal.returns-then-not-has
returns-then-not-has c =
    let pre = c.requires in
    let out = failed c.has-2.ensures c.if-not-has.true in
    grown-more _ _ _ pre.set_bound pre.i_bound c.with-more.ensures
    (beyond-fails _ _ _ pre.bears out pre.set_value c.with-more.ensures)

pub returns-then-not-meets_all : goal.returns-then-not-meets_all
returns-then-not-meets_all c =
    let pre = c.requires in
    let unmet = failed c.meets_all.ensures c.if-not-meets_all.true in
    grown-unmet _ _ _ pre.set_bound pre.i_bound pre.cuts c.with-more.ensures unmet

pub returns-then-has_listed : goal.returns-then-has_listed
returns-then-has_listed c = grown-same c.requires.set_bound c.requires.set_value

pub returns-then-admits : goal.returns-then-admits
returns-then-admits c = grown-same c.requires.set_bound c.requires.set_value

pub returns : goal.returns
returns c =
    let pre = c.requires in
    let fails = sym (pre.bears _) ∙ sym c.admits.ensures ∙ c.if-admits.false in
    grown-more _ _ _ pre.set_bound pre.i_bound c.with-more.ensures fails
