-- docs/DEFINITION.md, "Derivations" and "Records": derivations as forests, each node with its children and its later siblings,
-- and what it means that a forest derives a list of goals.
use Rattle.std.specs.Prelude.{ℕ, suc, ◌-◌, ◌^◌, ◌≡◌, List, [], ◌∷◌, ◌++◌, Bool, true, false, eqb}
use Rattle.std.proofs.Math.Option.{Option, some}
use Rattle.std.specs.Int.Bits.{bit_or}
use Rattle.sets.specs.Logic.{◌or◌}
use Rattle.table.specs.declared.Goal.{Goal}
use Rattle.derivation.specs.Rules.{fresh, premises}

pub data Forest : Type 0 where
  end : Forest
  node : (credential middle : ℕ) (children siblings : Forest) → Forest

-- with so many levels left, below a branch: one tree for each goal, by the rules that `asks` says, level and pairs included
pub data DerivesBy (asks : Goal → ℕ → ℕ → Option (List Goal)) : ℕ → List Goal → List Goal → Forest → Type 0 where
  done : {levels : ℕ} {branch : List Goal} → DerivesBy asks levels branch [] end
  step : {levels c m : ℕ} {branch goals rest : List Goal} {g : Goal} {children siblings : Forest}
      → asks g c m ≡ some goals → fresh branch g ≡ true → DerivesBy asks levels (g ∷ branch) goals children
      → DerivesBy asks (suc levels) branch rest siblings
      → DerivesBy asks (suc levels) branch (g ∷ rest) (node c m children siblings)

abbrev pub Derives : List ℕ → ℕ → List Goal → List Goal → Forest → Type 0
Derives t = DerivesBy (premises t)

-- the record: two numbers for each node, in preorder
unfoldable pub written : Forest → List ℕ
written end = []
written (node c m children siblings) = c ∷ m ∷ (written children ++ written siblings)

-- so many nodes, and those of the forest
unfoldable pub count_from : ℕ → Forest → ℕ
count_from n end = n
count_from n (node c m children siblings) = count_from (count_from (suc n) children) siblings

-- the record uses credential c: some node names it
unfoldable pub names : Forest → ℕ → Bool
names end c = false
names (node c' m children siblings) c = eqb c' c or names children c or names siblings c

-- the used set: credential i counts 2^(i-1), however often the record names it
unfoldable pub used_from : ℕ → Forest → ℕ
used_from used end = used
used_from used (node c m children siblings) = used_from (used_from (bit_or used (2 ^ (c - 1))) children) siblings

unfoldable pub used_set : Forest → ℕ
used_set f = used_from 0 f
