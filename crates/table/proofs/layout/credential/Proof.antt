-- `table::layout::credential` meets its contract: the record stands where its number says. Assumes nothing.
use borrow.Author.Rules.{rules}
use Rattle.table.specs.Layout.{credential}
use Rattle.table.proofs.layout.credential.Statement.{statement}
use Rattle.table.proofs.layout.credential.Tie as tie

sub-credential-at : tie.Need-overflow_sub-i
sub-credential-at c = search rules

mul-credential-at : tie.Need-overflow_mul-i
mul-credential-at c = search rules

add-credential-at : tie.Need-overflow_add-i
add-credential-at c = search rules

credential-at-requires : tie.Need-credential_at-requires
credential-at-requires c κs = search rules

returns : tie.Need-returns
unfolding credential
returns c = c.credential_at.ensures

pub credential_spec : {M : Type 1} → statement M
credential_spec =
    tie.close
    (tie.spec sub-credential-at mul-credential-at add-credential-at credential-at-requires returns)
