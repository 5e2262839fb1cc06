-- The node of the least credential, with the least middle where it is of kind 3.
use Rattle.table.proofs.Reading.{is-number, not-number}
use Rattle.search.proofs.Placing.{below-most, kind-read}
use Rattle.choice.proofs.Candidates.{tried-at}
use Rattle.choice.proofs.Nodes.{made-unlinked}
use Rattle.choice.proofs.Choosing.{chosen_plain, chosen-with, least-proved, not-linking}
use Rattle.choice.proofs.choose.Goals as goal

pub roles_asked-requires-clause-i_bound : goal.roles_asked-requires-clause-i_bound
roles_asked-requires-clause-i_bound c =
    let other = not-number c.is.ensures c.if-not-is.true in
    (c.least_credential-i.ensures.0.0, not-linking _ _ _ c.credential.ensures other)

pub made-requires : goal.made-requires
made-requires c = below-most c.requires.searchable.well_formed _ c.least_credential-i.ensures.0.0

pub returns-then-not-is : goal.returns-then-not-is
returns-then-not-is c =
    let (least, remembered) = c.least_credential-i.ensures in
    let other = not-linking _ _ _ c.credential.ensures (not-number c.is.ensures c.if-not-is.true) in (
      chosen_plain c.requires.searchable c.requires.stands.0 _ _ _ _ _ least.0 least.1 other _
          (made-unlinked c.roles_asked.ensures _ c.made.ensures),
      remembered,
    )

pub least_middle-j-requires-clause-tried : goal.least_middle-j-requires-clause-tried
least_middle-j-requires-clause-tried c =
    let there = c.least_credential-i.ensures.0.0 in
    (tried-at c.requires.stands.0 _ there, kind-read _ _ _ c.credential.ensures 3 (is-number c.is.ensures c.if-not-is.false))

pub least_middle-j-requires-clause-i_value : goal.least_middle-j-requires-clause-i_value
least_middle-j-requires-clause-i_value c =
    let (least, remembered) = c.least_credential-i.ensures in
    least-proved c.requires.searchable c.requires.stands.0 _ _ _ _ _ least.0 least.1

pub linked-requires-clause-i_bound : goal.linked-requires-clause-i_bound
linked-requires-clause-i_bound c = (c.least_credential-i.ensures.0.0, c.least_middle-j.ensures.0.there)

pub returns : goal.returns
returns c =
    let least = c.least_credential-i.ensures.0 in
    let three = kind-read _ _ _ c.credential.ensures 3 (is-number c.is.ensures c.if-not-is.false) in
    let (middle, remembered) = c.least_middle-j.ensures in
    (chosen-with c.requires.searchable c.requires.stands.0 _ _ _ _ _ least.0 least.1 three _ middle _ c.linked.ensures, remembered)
