-- What the cuts alone tell of a region.
use mathlib.Core.Path.{◌≡◌, sym}
use mathlib.Core.List.{List}
use mathlib.Core.Bool.{true, false, not}
use Prim.Native.Nat.{ℕ, ◌<◌}
use native.Mathlib.Omega.{arith}
use lib.ListN.{length}
use lib.Bits.{bit_or}
use lib.Dec.{eqb}
use borrow.Author.Tests.{eqb-false, eqb-true, not-false, not-true}
use Rattle.sets.specs.Sets.{in_set}
use Rattle.sets.proofs.Tests.{false-true}
use Rattle.cuts.specs.Cuts.{RegionJudged, is_sole, meets_all}
use Rattle.cuts.proofs.Lines.{cut-off-barren, idle-barren, sole-all, sole-some}

module _ (cuts : List ℕ) (count chosen free : ℕ) where
  pub judged-off : meets_all cuts count (bit_or chosen free) ≡ false → RegionJudged cuts count chosen free true
  judged-off h =
      record { none = λ e p n mono r. cut-off-barren r h; sole = λ e. absurd (false-true (sym e)) }

  pub judged-full : count ≡ length cuts → RegionJudged cuts count chosen free false
  judged-full e = record { none = λ e. absurd (false-true e); sole = λ z room. absurd (omega arith) }

  pub judged-sole : (sole : ℕ) → ((c : ℕ) → in_set sole c ≡ is_sole cuts count chosen c) → count < length cuts
      → RegionJudged cuts count chosen free (not (eqb sole chosen))
  judged-sole sole told room =
      record {
        none = λ e p n mono r.
            let (c, own, idle) = sole-some r sole told (eqb-false sole chosen (not-true _ e)) in
            idle-barren r c own idle mono room;
        sole = λ e room. sole-all cuts count chosen sole told (eqb-true sole chosen (not-false _ e));
      }
