-- `admits_under`, `admits_over`, `admits_found`, `admits_free`, `admits_by`, `owes_one` and `imposes_one` meet their contracts:
-- automaton k is decided here, done without or met, and those below it by the calls.
use Rattle.std.proofs.Common.{arith, refl, sym, ◌∙◌}
use Rattle.sets.proofs.Tests.{failed, passed}
use Rattle.derivation.proofs.Depths.{depth-fits, depth-some}
use Rattle.members.specs.Members.{table_cells}
use Rattle.members.proofs.Reading.{zeros}
use Rattle.settling.proofs.Leaving.{fewer-left}
use Rattle.admission.proofs.Deciding.{by-mark, by-no-mark, decided-last, decided-unborne}
use Rattle.admission.proofs.Deciding.{free-proved, free-tells, free-unproved, may-seek, sought}
use Rattle.admission.proofs.Deciding.{imposes-met, imposes-spared, known-with, lost-less, lost-without, may_owe, owes-met}
use Rattle.admission.proofs.Deciding.{owes-unmet, owes-unproved, owing-few, spared-told, tells_more, tells-owed}
use Rattle.admission.proofs.Deciding.{to-proved, to-unproved, undecided-next, undecided-with}
use Rattle.admission.proofs.+admit.Goals.{owes_one-then-covers+else-admits_by, owes_one-else-covers}
use Rattle.admission.proofs.+admit.Goals as goal

pub admits_by-returns-then-k-eq0 : goal.admits_by-returns-then-k-eq0
admits_by-returns-then-k-eq0 t c = decided-last _ _ _ _ _ _ c.if-k-eq0.true

pub admits_by-admits_by-requires : goal.admits_by-admits_by-requires
admits_by-admits_by-requires t c = (omega arith, (undecided-next c.requires.undecided, c.requires.known))

pub admits_by-returns-then-not-has : goal.admits_by-returns-then-not-has
admits_by-returns-then-not-has t c =
    let none = rw c.requires.known.bears at (failed c.has.ensures c.if-not-has.true) in
    c.admits_by.ensures ∙ decided-unborne _ _ _ _ _ _ c.if-k-eq0.false none

pub admits_by-owes_one-requires : goal.admits_by-owes_one-requires
admits_by-owes_one-requires t c =
    let known = c.requires.known in
    let borne = rw known.bears at (passed c.has.ensures c.if-not-has.false) in
    let marked = by-mark c.requires.undecided c.if-k-eq0.false (sym c.has-2.ensures ∙ c.if-has.true) in
    (omega arith, (c.requires.undecided, (known, (record { some = c.if-k-eq0.false; borne = borne }, marked))))

pub admits_by-imposes_one-requires : goal.admits_by-imposes_one-requires
admits_by-imposes_one-requires t c =
    let borne = rw c.requires.known.bears at (passed c.has.ensures c.if-not-has.false) in
    let unmarked = by-no-mark c.requires.undecided c.if-k-eq0.false (sym c.has-2.ensures ∙ c.if-has.false) in
    (omega arith, (c.requires.undecided, (record { some = c.if-k-eq0.false; borne = borne }, unmarked)))

pub admits_found-returns-then-not-covers : goal.admits_found-returns-then-not-covers
admits_found-returns-then-not-covers t c =
    let told = tells-owed _ c.args.request.now.prepared.well_formed _ _ _ _ _ c.requires.met_found.tells in
    to-unproved _ _ _ _ _ _ (sym told ∙ failed c.covers.ensures c.if-not-covers.true)

pub admits_found-returns-then-k-eq0 : goal.admits_found-returns-then-k-eq0
admits_found-returns-then-k-eq0 t c =
    let told = tells-owed _ c.args.request.now.prepared.well_formed _ _ _ _ _ c.requires.met_found.tells in
    let proved = sym told ∙ passed c.covers.ensures c.if-not-covers.false in
    to-proved _ _ _ _ _ _ proved (decided-last _ _ _ _ _ _ c.if-k-eq0.true)

pub admits_found-admits_under-requires : goal.admits_found-admits_under-requires
admits_found-admits_under-requires t c =
    let wf = c.args.request.now.prepared.well_formed in
    let met = c.requires.met_found in
    let lacks = rw met.asked_is at c.lacking-lost.ensures in
    let less = lost-less _ wf _ _ _ _ _ met.tells (passed c.covers.ensures c.if-not-covers.false) _ lacks c.if-lost-ne0.true in
    let fewer = rw (← c.without-fewer.ensures) at less in
    let u = c.requires.undecided in
    (omega arith, (u.marks-are, (u.there, u.few)))

pub admits_found-returns-then-lost-ne0 : goal.admits_found-returns-then-lost-ne0
admits_found-returns-then-lost-ne0 t c =
    let wf = c.args.request.now.prepared.well_formed in
    let met = c.requires.met_found in
    let lacks = rw met.asked_is at c.lacking-lost.ensures in
    let told = rw c.without-fewer.ensures at c.admits_under.ensures in
    told ∙ lost-without _ wf _ _ _ _ _ met.tells (passed c.covers.ensures c.if-not-covers.false) _ lacks

pub admits_found-admits_by-requires : goal.admits_found-admits_by-requires
admits_found-admits_by-requires t c =
    (omega arith, (c.requires.undecided, record { bears = c.automata_of-borne.ensures; tells = c.requires.met_found.tells }))

pub admits_found-returns : goal.admits_found-returns
admits_found-returns t c =
    let told = tells-owed _ c.args.request.now.prepared.well_formed _ _ _ _ _ c.requires.met_found.tells in
    to-proved _ _ _ _ _ _ (sym told ∙ passed c.covers.ensures c.if-not-covers.false) c.admits_by.ensures

pub admits_free-returns-then-not-is_member : goal.admits_free-returns-then-not-is_member
admits_free-returns-then-not-is_member t c =
    free-unproved _ _ _ _ _ c.requires.allowed_value _ (failed c.is_member.ensures c.if-not-is_member.true)

pub admits_free-returns-then-k-eq0 : goal.admits_free-returns-then-k-eq0
admits_free-returns-then-k-eq0 t c =
    free-proved _ _ _ _ _ c.requires.allowed_value _ (passed c.is_member.ensures c.if-not-is_member.false)
    (decided-last _ _ _ _ _ _ c.if-k-eq0.true)

pub admits_free-admits_by-requires : goal.admits_free-admits_by-requires
admits_free-admits_by-requires t c =
    let proved = passed c.is_member.ensures c.if-not-is_member.false in
    let tells = free-tells _ _ _ _ c.args.terms.owed c.requires.allowed_value proved _ c.only-found.ensures in
    (omega arith, (c.requires.undecided, record { bears = c.automata_of-borne.ensures; tells = tells }))

pub admits_free-returns : goal.admits_free-returns
admits_free-returns t c =
    free-proved _ _ _ _ _ c.requires.allowed_value _ (passed c.is_member.ensures c.if-not-is_member.false)
    c.admits_by.ensures

pub admits_over-admits_free-requires : goal.admits_over-admits_free-requires
admits_over-admits_free-requires t c =
    let asks = c.owing_all-all.ensures in
    (omega arith, (c.requires, rw (asks.every-is, asks.owed-is) at c.if-all-eq0.true))

pub admits_over-query_search-found-requires-clause-owed_lt_all_sets :
    goal.admits_over-query_search-found-requires-clause-owed_lt_all_sets
admits_over-query_search-found-requires-clause-owed_lt_all_sets t c = (may-seek c.requires c.owing_all-all.ensures).1

pub admits_over-admits_found-requires : goal.admits_over-admits_found-requires
admits_over-admits_found-requires t c =
    (omega arith, (c.requires, sought c.requires c.owing_all-all.ensures c.query_search-found.ensures))

pub admits_under-fill-last-requires-clause-le_depth :
    goal.admits_under-fill-last-requires-clause-le_depth
admits_under-fill-last-requires-clause-le_depth t c =
    let valid = c.args.request.now.prepared.valid in
    let wide = c.wide.ensures.0 in
    (omega (arith, depth-some _ valid), omega (arith, depth-fits _ valid))

pub admits_under-fill-last-requires-clause-blank :
    goal.admits_under-fill-last-requires-clause-blank
admits_under-fill-last-requires-clause-blank t c = zeros table_cells

pub admits_under-admits_over-requires : goal.admits_under-admits_over-requires
admits_under-admits_over-requires t c = (
  omega arith,
  record {
    members = rw c.wide.ensures.0 at c.fill-last.ensures;
    marks-are = c.requires.marks_value;
    there = c.requires.k_bound.0;
    few = c.requires.k_bound.1;
  },
)

pub imposes_one-admits_under-requires : goal.imposes_one-admits_under-requires
imposes_one-admits_under-requires t c =
    let next = undecided-next c.requires.undecided in
    let fewer = fewer-left _ _ _ c.without_one-fewer.ensures in
    (omega (arith, c.requires.borne.0.some), (next.marks-are, (next.there, next.few)))

pub imposes_one-returns-then-admits_under : goal.imposes_one-returns-then-admits_under
imposes_one-returns-then-admits_under t c =
    let out = spared-told _ _ _ _ _ _ c.without_one-fewer.ensures c.admits_under.ensures in
    imposes-spared _ _ _ _ _ _ c.requires.borne.0 c.requires.borne.1 refl (sym out ∙ c.if-admits_under.true)

pub imposes_one-query_search-found-requires-clause-owed_lt_all_sets :
    goal.imposes_one-query_search-found-requires-clause-owed_lt_all_sets
imposes_one-query_search-found-requires-clause-owed_lt_all_sets t c =
    let u = c.requires.undecided in
    (may-seek (undecided-with u c.imposing-more.ensures u.few) c.owing_all-all.ensures).1

pub imposes_one-admits_found-requires : goal.imposes_one-admits_found-requires
imposes_one-admits_found-requires t c =
    let u = c.requires.undecided in
    let asks = c.imposing-more.ensures in
    let next = undecided-with u asks u.few in (
      omega (arith, c.requires.borne.0.some),
      (next, sought next c.owing_all-all.ensures c.query_search-found.ensures),
    )

pub imposes_one-returns : goal.imposes_one-returns
imposes_one-returns t c =
    let asks = c.imposing-more.ensures in
    let out = spared-told _ _ _ _ _ _ c.without_one-fewer.ensures c.admits_under.ensures in
    let over = rw (asks.allowed-is, asks.owed-is) at c.admits_found.ensures in
    let met = imposes-met _ _ _ _ _ _ c.requires.borne.0 c.requires.borne.1 asks.every-is (sym out ∙ c.if-admits_under.false) in
    over ∙ met

pub owes_one-covers-requires : goal.owes_one-covers-requires
owes_one-covers-requires t c = rw c.owing-more.ensures.owed-is (owing-few c.requires.undecided c.requires.borne.0.some)

pub owes_one-admits_by-requires : goal.owes_one-admits_by-requires
owes_one-admits_by-requires t c =
    let u = c.requires.undecided in
    let (is, marked) = c.requires.borne in
    let asks = c.owing-more.ensures in (
      omega (arith, is.some),
      (
        undecided-with u asks (owing-few u is.some),
        known-with c.args.request.now.prepared.well_formed c.requires.known is marked asks,
      ),
    )

pub owes_one-returns-then-admits_by : goal.owes_one-returns-then-admits_by
owes_one-returns-then-admits_by t c =
    let wf = c.args.request.now.prepared.well_formed in
    let (is, marked) = c.requires.borne in
    let asks = c.owing-more.ensures in
    let more = tells_more _ wf _ _ _ c.args.terms.owed _ c.requires.known.tells _ (may_owe _ wf _ _ is marked) in
    let told = c.covers.ensures ∙ rw asks.owed-is more in
    let met = rw (asks.allowed-is, asks.every-is) at (sym c.admits_by.ensures ∙ c.if-admits_by.true) in
    owes-met _ _ _ _ _ _ is marked asks.owed-is (sym told ∙ c.if-covers.true) met

pub owes_one-admits_under-requires : goal.owes_one-admits_under-requires
owes_one-admits_under-requires t c =
    let next = undecided-next c.requires.undecided in
    let fewer = fewer-left _ _ _ c.without_one-fewer.ensures in
    (omega (arith, c.requires.borne.0.some), (next.marks-are, (next.there, next.few)))

pub owes_one-returns : goal.owes_one-returns
owes_one-returns t c =
    let wf = c.args.request.now.prepared.well_formed in
    let (is, marked) = c.requires.borne in
    let asks = c.owing-more.ensures in
    let more = tells_more _ wf _ _ _ c.args.terms.owed _ c.requires.known.tells _ (may_owe _ wf _ _ is marked) in
    let told = c.covers.ensures ∙ rw asks.owed-is more in
    spared-told _ _ _ _ _ _ c.without_one-fewer.ensures c.admits_under.ensures
    ∙ elim c.if-covers.branch [
      | owes_one-then-covers+else-admits_by w ↦
          owes-unmet _ _ _ _ _ _ is marked asks.owed-is
          (rw (asks.allowed-is, asks.every-is) at (sym w.admits_by.ensures ∙ w.if-admits_by.false))
      | owes_one-else-covers w ↦ owes-unproved _ _ _ _ _ _ is marked asks.owed-is (sym told ∙ w.if-covers.false)
    ]
