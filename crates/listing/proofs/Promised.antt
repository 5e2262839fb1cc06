-- Each listed set is the used set of an accepted record, by demand 3; what the verifier accepts has no pair twice on a branch.
use Rattle.verifier.proofs.Promised.{read-none-twice}
use Rattle.listing.specs.Promised.{ListedNoneTwice}
use Rattle.listing.proofs.Demanding.{demands}

pub listed-none-twice : ListedNoneTwice
listed-none-twice t q buffer count i table valid told l =
    let (rec, e, holdable) = ((demands.1 t q buffer table valid).listed count told).1.used i l in
    (rec, e, read-none-twice t q rec _ table valid e)
