-- How large a derivation can be, by one induction over it: a node has at most four premises, each with one level less, and both
-- of its numbers are small. So a slice can hold every derivation's record.
use mathlib.Core.Path.{◌≡◌, refl}
use mathlib.Core.List.{List, [], ◌∷◌, ◌++◌, map}
use mathlib.Core.Option.{some}
use Prim.Native.Nat.{ℕ, zero, suc, ◌+◌, ◌-◌, ◌*◌, ◌^◌, ◌<◌, ◌≤◌}
use native.Mathlib.Omega.{arith}
use native.Mathlib.Nat.{mul-le-mul_right, pow-le-pow_right, pow-succ', suc-mul}
use lib.ListN.{get_or, length, length-append, length-map}
use Rattle.table.specs.Limits.{most_credentials, most_depth, most_parts, most_principals}
use Rattle.table.specs.Layout.{Numbered, credential, credentials, parts, parts_by}
use Rattle.table.specs.Holding.{WellFormed}
use Rattle.table.specs.declared.Role.{Role}
use Rattle.table.specs.declared.Goal.{Goal}
use Rattle.table.proofs.WellFormed.{well-formed, wf-chain}
use Rattle.derivation.specs.Rules.{premises}
use Rattle.derivation.specs.Forest.{Derives, Forest, count_from, written}
use Rattle.derivation.specs.Forest.Forest.{end, node}
use Rattle.derivation.specs.Forest.DerivesBy.{done, step}
use Rattle.derivation.specs.Bounds.{FewNodes, MostNodes, NoneExcluded, ShortEnough, nodes_within, number_bits}
use Rattle.derivation.proofs.Applying.{applies-numbered}
use Rattle.derivation.proofs.Ruling.{Rule, rule-applied}
use Rattle.derivation.proofs.Ruling.Rule.{membership, containment, linking, intersection}

pub most-nodes : MostNodes
most-nodes = refl

pub short-enough : ShortEnough
short-enough rec h = omega (arith, h.short)

-- `nodes_within` level by level: a node, and below it four trees of one level less
tree_nodes : ℕ → ℕ
tree_nodes zero = 0
tree_nodes (suc levels) = suc (most_parts * tree_nodes levels)

tree-power : (levels : ℕ) → most_parts ^ levels ≡ suc ((most_parts - 1) * tree_nodes levels)
unfolding tree_nodes
tree-power zero = refl
tree-power (suc levels) = omega (arith, tree-power levels, pow-succ' most_parts levels)

tree-nodes : (levels : ℕ) → tree_nodes levels ≡ nodes_within levels
tree-nodes levels = omega (arith, tree-power levels)

nodes-mono : (levels levels' : ℕ) → levels ≤ levels' → nodes_within levels ≤ nodes_within levels'
nodes-mono levels levels' h = omega (arith, pow-le-pow_right {n = most_parts} (omega arith) h)

-- a node's credential is one of the table's, its middle is 0 or a principal, and it asks for no more than a chain has parts
record Small (c m : ℕ) (goals : List Goal) : Type 0 where
  credential : c ≤ most_credentials
  middle : m ≤ most_principals
  few : length goals ≤ most_parts

module _ (t : List ℕ) (wf : WellFormed t) (g : Goal) (c m : ℕ) (goals : List Goal) (applies : premises t g c m ≡ some goals) where
  there : Numbered (credentials t) c
  there = applies-numbered t g c m goals applies

  small : {asked : List Goal} → m ≤ most_principals → length asked ≤ most_parts → asked ≡ goals → Small c m goals
  small middle few e =
      record {
        credential = omega (arith, there.last, wf.sized.counted.few_credentials);
        middle = middle;
        few = rw e at few;
      }

  few-parts : (f : Role → Goal) → (credential t c).kind ≡ 4 → length (map f (parts t (credential t c).first)) ≤ most_parts
  unfolding parts_by
  few-parts f four = simp length-map (wf-chain t wf c there four).most

  by-rule : Rule t g (credential t c) m goals → Small c m goals
  by-rule (membership one same none e) = small (omega arith) (omega arith) e
  by-rule (containment two none e) = small (omega arith) (omega arith) e
  by-rule (linking three middle e) = small middle.last (omega arith) e
  by-rule (intersection four none e) = small (omega arith) (few-parts _ four) e

  node-small : Small c m goals
  node-small = by-rule (rule-applied t g c m goals applies)

-- counting on is counting and adding, and each node is two numbers of the record
pub count-from : (n : ℕ) (f : Forest) → count_from n f ≡ n + count_from 0 f
unfolding count_from
count-from n end = omega arith
count-from n (node c m children siblings) =
    omega (
      arith,
      count-from (count_from (suc n) children) siblings,
      count-from (suc n) children,
      count-from (count_from 1 children) siblings,
      count-from 1 children,
    )

count-node : (c m : ℕ) (children siblings : Forest)
    → count_from 0 (node c m children siblings) ≡ suc (count_from 0 children + count_from 0 siblings)
unfolding count_from
count-node c m children siblings = omega (arith, count-from (count_from 1 children) siblings, count-from 1 children)

written-length : (f : Forest) → length (written f) ≡ 2 * count_from 0 f
unfolding written count_from
written-length end = refl
written-length (node c m children siblings) =
    simp length-append
    (omega (arith, written-length children, written-length siblings, count-node c m children siblings))

-- a node, its children and its later siblings, where below it are at most four trees of one level less
few-here : (tree asked rest nodes nodes' : ℕ) → asked ≤ most_parts → nodes ≤ asked * tree
    → nodes' ≤ rest * suc (most_parts * tree) → suc (nodes + nodes') ≤ suc rest * suc (most_parts * tree)
few-here tree asked rest nodes nodes' few below later =
    omega (arith, mul-le-mul_right tree few, suc-mul rest (suc (most_parts * tree)))

few-trees : {t : List ℕ} → WellFormed t → {levels : ℕ} {branch goals : List Goal} {f : Forest}
    → Derives t levels branch goals f → count_from 0 f ≤ length goals * tree_nodes levels
unfolding count_from tree_nodes
few-trees wf done = omega arith
few-trees {t} wf (step {levels} {c} {m} {goals = asked} {rest} {g} {children} {siblings} applies new below later) =
    rw (count-node c m children siblings)
    (few-here (tree_nodes levels) (length asked) (length rest) _ _ (node-small t wf g c m asked applies).few
    (few-trees wf below) (few-trees wf later))

pub few-nodes : FewNodes
few-nodes t levels branch goals f table d = rw (tree-nodes levels) at (few-trees (well-formed t table) d)

-- every number fits its type
abbrev Narrow : List ℕ → Type 0
Narrow rec = (i : ℕ) → i < length rec → get_or rec i 0 < 2 ^ number_bits

narrow-more : (x : ℕ) (rec : List ℕ) → x < 2 ^ number_bits → Narrow rec → Narrow (x ∷ rec)
narrow-more x rec small narrow zero l = small
narrow-more x rec small narrow (suc i) l = narrow i (omega arith)

narrow_both : (rec rest : List ℕ) → Narrow rec → Narrow rest → Narrow (rec ++ rest)
narrow_both [] rest narrow later = later
narrow_both (x ∷ rec) rest narrow later =
    narrow-more x (rec ++ rest) (narrow 0 (omega arith)) (narrow_both rec rest (λ i l. narrow (suc i) (omega arith)) later)

narrow-node : (c m : ℕ) {goals : List Goal} (below later : List ℕ) → Small c m goals → Narrow below → Narrow later
    → Narrow (c ∷ m ∷ (below ++ later))
narrow-node c m below later small narrow narrow' =
    narrow-more c (m ∷ (below ++ later)) (omega (arith, small.credential))
    (narrow-more m (below ++ later) (omega (arith, small.middle)) (narrow_both below later narrow narrow'))

narrow-record : {t : List ℕ} → WellFormed t → {levels : ℕ} {branch goals : List Goal} {f : Forest}
    → Derives t levels branch goals f → Narrow (written f)
unfolding written
narrow-record wf done = λ i l. absurd (omega arith)
narrow-record {t} wf (step {c = c} {m} {goals = asked} {g = g} {children} {siblings} applies new below later) =
    narrow-node c m (written children) (written siblings) (node-small t wf g c m asked applies)
    (narrow-record wf below) (narrow-record wf later)

pub none-excluded : NoneExcluded
none-excluded t levels branch g f table h d =
    let nodes = few-nodes t levels branch (g ∷ []) f table d in
    record {
      short = omega (arith, written-length f, nodes, nodes-mono levels most_depth h);
      narrow = narrow-record (well-formed t table) d;
    }
