-- The reader by its first goal.
use mathlib.Core.Path.{◌≡◌, refl}
use mathlib.Core.List.{List, [], ◌∷◌}
use mathlib.Core.Bool.{false}
use Prim.Native.Nat.{ℕ, zero, suc}
use Rattle.table.specs.declared.Goal.{Goal}
use Rattle.derivation.specs.Rules.{fresh}
use Rattle.derivation.specs.Forest.Forest.{end}
use Rattle.entering.specs.Entry.{entry}
use Rattle.reader.specs.Reading.{entered, read_all, reader, reader_by}
use Rattle.reader.specs.Reading.Reading.{read, stop}

module _ (t : List ℕ) (branch : List Goal) (rec : List ℕ) (at : ℕ) where
  pub reader-end : (levels : ℕ) → reader t levels branch [] rec at ≡ read rec end
  unfolding reader_by read_all
  reader-end zero = refl
  reader-end (suc levels) = refl

  pub reader-floor : (g : Goal) (later : List Goal)
      → reader t zero branch (g ∷ later) rec at
      ≡ entered at (λ goals more k. stop 13 k) (reader t zero branch later) (entry t false g rec)
  unfolding reader_by read_all
  reader-floor g later = refl

  pub reader-node : (levels : ℕ) (g : Goal) (later : List Goal)
      → reader t (suc levels) branch (g ∷ later) rec at
      ≡ entered at (reader t levels (g ∷ branch)) (reader t (suc levels) branch later) (entry t (fresh branch g) g rec)
  unfolding reader_by read_all
  reader-node levels g later = refl
