-- The law of agreement for tables, whole.
pub use Rattle.renumbering.proofs.Alike.{admitted-alike, minimal-alike, verdict-alike}
pub use Rattle.renumbering.proofs.Lists.{lists-alike, lists-in-order}
