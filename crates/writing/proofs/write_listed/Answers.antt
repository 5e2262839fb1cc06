-- `writing::write_listed` meets its contract: the terms are those of the set, and a cleared memory, small or large, tells
-- nothing.
use Rattle.std.proofs.Common.{arith}
use Rattle.derivation.proofs.Depths.{depth-fits, depth-some}
use Rattle.members.specs.Members.{table_cells}
use Rattle.members.proofs.Reading.{zeros}
use Rattle.failures.specs.Failures.{few_cells, memory_cells}
use Rattle.search.proofs.Failing.{remembered-none}
use Rattle.writing.proofs.Passes.{owed-fits, settled-by}
use Rattle.writing.proofs.write_listed.Goals as goal

pub fill-last-requires-clause-le_depth : goal.fill-last-requires-clause-le_depth
fill-last-requires-clause-le_depth c =
    let valid = c.args.request.now.prepared.valid in
    let wide = c.wide-levels.ensures.0 in
    (omega (arith, depth-some _ valid), omega (arith, depth-fits _ valid))

pub fill-last-requires-clause-blank : goal.fill-last-requires-clause-blank
fill-last-requires-clause-blank c = zeros table_cells

pub write_settled-requires-clause-members : goal.write_settled-requires-clause-members
write_settled-requires-clause-members c = rw c.wide-levels.ensures.0 at c.fill-last.ensures

pub write_settled-requires-clause-settled : goal.write_settled-requires-clause-settled
write_settled-requires-clause-settled c =
    settled-by _ c.args.request.now.prepared.well_formed _ c.automata_of-borne.ensures c.marked-owed.ensures

pub write_settled-requires-clause-remembered : goal.write_settled-requires-clause-remembered
write_settled-requires-clause-remembered c =
    let wf = c.args.request.now.prepared.well_formed in
    let settled = settled-by _ wf _ c.automata_of-borne.ensures c.marked-owed.ensures in
    remembered-none _ _ _ _ (owed-fits wf settled) _ (omega arith) (zeros few_cells)

pub write_settled-requires-2-clause-members : goal.write_settled-requires-2-clause-members
write_settled-requires-2-clause-members c = rw c.wide-levels.ensures.0 at c.fill-last.ensures

pub write_settled-requires-2-clause-settled : goal.write_settled-requires-2-clause-settled
write_settled-requires-2-clause-settled c =
    settled-by _ c.args.request.now.prepared.well_formed _ c.automata_of-borne.ensures c.marked-owed.ensures

pub write_settled-requires-2-clause-remembered : goal.write_settled-requires-2-clause-remembered
write_settled-requires-2-clause-remembered c =
    let wf = c.args.request.now.prepared.well_formed in
    let settled = settled-by _ wf _ c.automata_of-borne.ensures c.marked-owed.ensures in
    remembered-none _ _ _ _ (owed-fits wf settled) _ (omega arith) (zeros memory_cells)
