-- An accepted record is that of a derivation, and on no branch of a derivation a pair comes twice.
use Rattle.derivation.proofs.Promised.{record-none-twice}
use Rattle.verifier.specs.Promised.{ReadNoneTwice}
use Rattle.verifier.proofs.DemandTwo.{demand-two}

pub read-none-twice : ReadNoneTwice
read-none-twice t q rec S table valid e =
    let a = (demand-two t q rec S table valid).0 e in record-none-twice t q a.derives a.whole
