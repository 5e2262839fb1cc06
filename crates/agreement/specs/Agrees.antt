-- Two meanings agree along a renumbering of credentials: each credential of some numbers asks, ends and demands what its
-- counterpart does.
use Rattle.std.specs.Prelude.{ℕ, suc, ◌-◌, ◌<◌, ◌≡◌, List, [], ◌∷◌, Bool, true}
use Rattle.std.proofs.Math.Option.{some}
use Rattle.sets.specs.Logic.{◌and◌}
use Rattle.sets.specs.Sets.{in_set, part, set_of}
use Rattle.table.specs.Layout.{Numbered}
use Rattle.table.specs.declared.Goal.{Goal}
use Rattle.table.specs.declared.Role.{Role}
use Rattle.derivation.specs.Forest.{Forest}
use Rattle.derivation.specs.Forest.Forest.{end, node}
use Rattle.agreement.specs.Meaning.{Meaning}

-- each node of the forest, by its credential and its middle, is of this kind
pub data Within (P : ℕ → ℕ → Type 0) : Forest → Type 0 where
  none : Within P end
  each : {c m : ℕ} {children siblings : Forest} → P c m → Within P children → Within P siblings
      → Within P (node c m children siblings)

-- whatever a node of this kind does in w, its counterpart does in w'
pub record Carries (w w' : Meaning) (P : ℕ → ℕ → Type 0) (to : ℕ → ℕ) : Type 0 where
  pub asks : (g : Goal) (c m : ℕ) (goals : List Goal) → P c m → w.asks g c m ≡ some goals → w'.asks g (to c) m ≡ some goals
  pub role : (c m : ℕ) → P c m → w'.role (to c) ≡ w.role c
  pub ends : (c m : ℕ) → P c m → w'.ends (to c) ≡ w.ends c
  pub demands : (c m : ℕ) → P c m → (words : List (List Role)) → w'.demands (to c) words ≡ w.demands c words

-- the forest with its credentials renumbered
unfoldable pub renamed : (ℕ → ℕ) → Forest → Forest
renamed to end = end
renamed to (node c m children siblings) = node (to c) m (renamed to children) (renamed to siblings)

-- and a record: the first number of each node is its credential
unfoldable pub renamed_record : (ℕ → ℕ) → List ℕ → List ℕ
renamed_record to [] = []
renamed_record to (c ∷ []) = to c ∷ []
renamed_record to (c ∷ m ∷ rest) = to c ∷ m ∷ renamed_record to rest

-- the credentials that are `mine`, of n, get numbers that are `theirs`, and back
pub record Leads (n : ℕ) (mine theirs : ℕ → Bool) (to from : ℕ → ℕ) : Type 0 where
  pub numbered : (c : ℕ) → mine c ≡ true → Numbered n c
  pub there : (c : ℕ) → mine c ≡ true → theirs (to c) ≡ true
  pub back : (c : ℕ) → mine c ≡ true → from (to c) ≡ c

pub record Renumbers (n n' : ℕ) (mine theirs : ℕ → Bool) (to from : ℕ → ℕ) : Type 0 where
  pub onward : Leads n mine theirs to from
  pub backward : Leads n' theirs mine from to

-- of two such credentials the one with the lesser number gets the lesser number
abbrev pub KeepsOrder : (ℕ → Bool) → (ℕ → ℕ) → Type 0
KeepsOrder mine to = (c d : ℕ) → mine c ≡ true → mine d ≡ true → c < d → to c < to d

-- the set of their credentials whose counterparts are in S
unfoldable pub renumbered : (theirs : ℕ → Bool) (from : ℕ → ℕ) (n' : ℕ) → ℕ → ℕ
renumbered theirs from n' S = set_of (λ i. theirs (suc i) and in_set S (from (suc i) - 1)) n'

-- the set has none but such credentials
abbrev pub Among : (ℕ → Bool) → ℕ → Type 0
Among mine S = (i : ℕ) → in_set S i ≡ true → mine (suc i) ≡ true

-- a credential that applies is one of n
abbrev pub Numbers : Meaning → ℕ → Type 0
Numbers w n = (g : Goal) (c m : ℕ) (goals : List Goal) → w.asks g c m ≡ some goals → Numbered n c

-- both ways
pub record Agrees (w w' : Meaning) (n n' : ℕ) (mine theirs : ℕ → Bool) (to from : ℕ → ℕ) : Type 0 where
  pub numbers : Numbers w n
  pub numbers' : Numbers w' n'
  pub renumbers : Renumbers n n' mine theirs to from
  pub carries : Carries w w' (λ c m. mine c ≡ true) to
  pub carries-back : Carries w' w (λ c m. theirs c ≡ true) from

-- the least of the sets that are used
pub record MinimalOf (Used : ℕ → Type 0) (S : ℕ) : Type 0 where
  pub used : Used S
  pub least : (T : ℕ) → Used T → part T S ≡ true → T ≡ S

-- the sets that include one that is used
abbrev pub AdmittedOf : (ℕ → Type 0) → ℕ → Type 0
AdmittedOf Used S = (T : ℕ) × Used T × (part T S ≡ true)
