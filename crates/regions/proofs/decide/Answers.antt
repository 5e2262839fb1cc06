-- `regions::decide` meets its contract, return by return: by a law of cuts each.
use Rattle.std.proofs.Common.{refl, sym, ◌∙◌}
use Rattle.sets.proofs.Members.{part-refl}
use Rattle.sets.proofs.Without.{and-part}
use Rattle.cuts.proofs.Meeting.{more_same}
use Rattle.cuts.proofs.Lines.{chosen-fits, full-barren}
use Rattle.minimal.proofs.Spare.{admits-monotone}
use Rattle.regions.proofs.Regions.{decided-cut, decided-left, decided-over, ended-barren}
use Rattle.regions.proofs.Regions.{ended-kept, held-few, judged-least}
use Rattle.regions.proofs.decide.Goals as goal

pub returns-then-is_barren : goal.returns-then-is_barren
returns-then-is_barren c =
    let ready = c.requires.ready in
    let wf = c.args.request.now.prepared.well_formed in
    let none = c.is_barren.ensures.none c.if-is_barren.true _ _ (admits-monotone _ wf _) ready in
    decided-over (ended-barren (more_same ready.known) none refl refl)

pub returns-then-among-ne0 : goal.returns-then-among-ne0
returns-then-among-ne0 c =
    decided-left _ (and-part c.unmet.result c.args.free) (more_same c.requires.ready.known) (λ none. absurd (c.if-among-ne0.true none))

pub keep-requires-clause-set_bound : goal.keep-requires-clause-set_bound
keep-requires-clause-set_bound c = chosen-fits c.requires.ready

pub keep-requires-clause-set_value_2 : goal.keep-requires-clause-set_value_2
keep-requires-clause-set_value_2 c =
    judged-least _ _ c.args.request.now.prepared.well_formed c.requires.ready (sym c.admits.ensures ∙ c.if-admits.true)
    c.is_barren.ensures c.if-is_barren.false

pub keep-requires-clause-found_bound : goal.keep-requires-clause-found_bound
keep-requires-clause-found_bound c =
    held-few c.args.request.now.prepared.well_formed.sized.counted.few_credentials c.requires.held

pub returns-then-admits : goal.returns-then-admits
returns-then-admits c =
    let passes = sym c.admits.ensures ∙ c.if-admits.true in
    decided-over (ended-kept c.args.request.now.prepared.well_formed c.requires.ready passes c.keep.ensures)

pub returns-then-count-cuts : goal.returns-then-count-cuts
returns-then-count-cuts c =
    let ready = c.requires.ready in
    let fails = sym c.admits.ensures ∙ c.if-admits.false in
    decided-left _ (part-refl _) (more_same ready.known) (full-barren ready c.if-count-cuts.true fails)

pub grown-requires-clause-chosen_bound : goal.grown-requires-clause-chosen_bound
grown-requires-clause-chosen_bound c = chosen-fits c.requires.ready

pub returns : goal.returns
returns c =
    decided-cut c.args.request.now.prepared.well_formed c.requires.ready c.if-count-cuts.false _ _ c.grown.ensures
    c.outside-cut.ensures
