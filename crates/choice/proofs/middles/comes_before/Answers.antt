-- Both credentials are read, where there is one at `best`.
use Rattle.std.proofs.Common.{◌<◌, arith}
use Rattle.table.specs.Layout.{credentials}
use Rattle.choice.proofs.Linking.{before-none, before-told}
use Rattle.choice.proofs.middles.comes_before.Goals as goal

pub returns-in_default : goal.returns-in_default
returns-in_default c =
    rw c.in_default.is (before-none c.args.table.now c.args.j (credentials c.args.table.now) (omega arith))

pub returns : goal.returns
returns c =
    let there : c.in-Some.best < credentials c.args.table.now = rw c.in-Some.is at c.requires.best_bound in
    rw c.in-Some.is (before-told _ _ c.in-Some.best there _ _ c.credential-one.ensures c.credential-other.ensures)
