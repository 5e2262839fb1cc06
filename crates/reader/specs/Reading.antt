-- docs/DEFINITION.md, "Where each input is stopped", rows 11 to 13: how a record is read, node by node in preorder. At each node
-- 11, 12 and 13 are tested before its children (Entry.antt of the crate entering).
use Rattle.std.specs.Prelude.{ℕ, zero, suc, List, [], ◌∷◌, false}
use Rattle.std.proofs.Math.Option.{Option}
use Rattle.table.specs.declared.Goal.{Goal}
use Rattle.derivation.specs.Rules.{fresh, premises}
use Rattle.derivation.specs.Forest.{Forest, count_from}
use Rattle.derivation.specs.Forest.Forest.{end, node}
use Rattle.entering.specs.Entry.{Entry, entry_by}
use Rattle.entering.specs.Entry.Entry.{ask, halt}

-- reading ends with the rest of the record and the forest that was read, or stops at a node
pub data Reading : Type 0 where
  read : (rest : List ℕ) (forest : Forest) → Reading
  stop : (number node : ℕ) → Reading

-- a node with the children and the siblings that were read behind it
unfoldable pub joined : ℕ → ℕ → Forest → Reading → Reading
joined c m children (read rest siblings) = read rest (node c m children siblings)
joined c m children (stop number at) = stop number at

-- the siblings are read behind the children, from the node `later` on
unfoldable pub followed : ℕ → ℕ → ℕ → (List ℕ → ℕ → Reading) → Reading → Reading
followed c m at later (read rest children) = joined c m children (later rest (count_from at children))
followed c m at later (stop number at') = stop number at'

-- node number `at`: its children are read by `below`, what follows them by `later`
unfoldable pub entered : ℕ → (List Goal → List ℕ → ℕ → Reading) → (List ℕ → ℕ → Reading) → Entry → Reading
entered at below later (halt number) = stop number at
entered at below later (ask c m goals rest) = followed c m (suc at) later (below goals rest (suc at))

-- one tree for each goal
unfoldable pub read_all : (Goal → (List ℕ → ℕ → Reading) → List ℕ → ℕ → Reading) → List Goal → List ℕ → ℕ → Reading
read_all one [] rec at = read rec end
read_all one (g ∷ goals) rec at = one g (λ rest later. read_all one goals rest later) rec at

-- with so many levels left, below a branch; the next node has number `at`. Where no level is left every node stops at its entry,
-- so the reader of its children is never asked
unfoldable pub reader_by : (Goal → ℕ → ℕ → Option (List Goal)) → ℕ → List Goal → List Goal → List ℕ → ℕ → Reading
reader_by asks zero branch goals rec at =
    read_all (λ g later rest n. entered n (λ ps more k. stop 13 k) later (entry_by asks false g rest)) goals rec at
reader_by asks (suc levels) branch goals rec at =
    read_all (λ g later rest n. entered n (reader_by asks levels (g ∷ branch)) later (entry_by asks (fresh branch g) g rest))
    goals rec at

abbrev pub reader : List ℕ → ℕ → List Goal → List Goal → List ℕ → ℕ → Reading
reader t levels branch goals rec at = reader_by (premises t) levels branch goals rec at
