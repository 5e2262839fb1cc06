-- The version of the interface, by which a program can tell that its header and the archive belong together. In decimal the last
-- two digits are the patch, the two before them the minor number, and what is left the major one: 700 is 0.7.0.
use Rattle.std.specs.Prelude.{ℕ}

abbrev pub version : ℕ
version = 700
