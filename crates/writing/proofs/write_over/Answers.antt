-- `writing::write_over` meets its contract: 15 where the set is not on the list.
use Rattle.std.proofs.Common.{refl}
use Rattle.sets.proofs.Tests.{failed, passed}
use Rattle.table.specs.Checks.{number_of}
use Rattle.table.proofs.Told.{tells-whole}
use Rattle.writing.proofs.Fitting.{tells-unlisted}
use Rattle.writing.proofs.Passes.{tells-instead}
use Rattle.writing.proofs.write_over.Goals as goal

pub returns-then-not-is_listed : goal.returns-then-not-is_listed
unfolding number_of
returns-then-not-is_listed c =
    let off = failed c.is_listed.ensures c.if-not-is_listed.true in
    tells-instead _ _ _ _ (tells-whole _ c.into.ensures) refl (tells-unlisted _ _ _ _ off)

pub write_listed-requires : goal.write_listed-requires
write_listed-requires c = passed c.is_listed.ensures c.if-not-is_listed.false
