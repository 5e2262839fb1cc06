-- What the code keeps while it reads a record, goal by goal: one node, then its children, then what follows.
use mathlib.Core.Path.{◌≡◌, refl, sym, ap, ◌∙◌}
use mathlib.Core.List.{List, [], ◌∷◌}
use mathlib.Core.Bool.{Bool, true, false}
use mathlib.Core.Option.{Option}
use Prim.Native.Nat.{ℕ, zero, suc, ◌-◌, ◌^◌, ◌≤◌}
use native.Mathlib.Omega.{arith}
use lib.ListN.{length}
use lib.Bits.{bit_and, bit_or}
use borrow.Author.Tests.{ne_eqb}
use Rattle.sets.specs.Logic.{pick}
use Rattle.table.specs.Layout.{credential}
use Rattle.table.specs.declared.Goal.{Goal}
use Rattle.sets.proofs.Tests.{false-true}
use Rattle.automata.specs.Together.{moved_sets}
use Rattle.automata.specs.declared.StateSets.{StateSets}
use Rattle.derivation.specs.Rules.{fresh, premises}
use Rattle.derivation.specs.Forest.{Forest, count_from, used_from}
use Rattle.derivation.specs.Forest.Forest.{end, node}
use Rattle.entering.specs.Entry.{Entry, admitted, entry, entry_by}
use Rattle.entering.specs.Entry.Entry.{ask, halt}
use Rattle.entering.specs.Steps.{after_node, may}
use Rattle.reader.specs.Reading.{Reading, entered, followed, joined, read_all, reader, reader_by}
use Rattle.reader.specs.Reading.Reading.{read, stop}
use Rattle.table.specs.Checks.{number_of}
use Rattle.table.specs.declared.Reason.{Reason}
use Rattle.reader.specs.declared.Tally.{Tally}
use Rattle.reader.specs.Tally.{ReadOn, StopsAt, Tallied, kept_from, read_from, tally, tally_on}
use Rattle.reader.specs.Tally.Tallied.{passed, stopped}
use Rattle.table.specs.Holding.{WellFormed}
use Rattle.reader.proofs.FirstGoal.{reader-end}
use Rattle.derivation.proofs.Applying.{applies-role, asks-more}
use Rattle.derivation.proofs.Bounding.{count-from}
use Rattle.derivation.proofs.Ruling.{asks_nothing}

pub count_next : (n : ℕ) (f : Forest) → count_from (suc n) f ≡ suc (count_from n f)
count_next n f = omega (arith, count-from (suc n) f, count-from n f)

-- what follows a reading is read from what is kept by then
onward : List ℕ → StateSets → (List ℕ → ℕ → Reading) → Tallied → Tallied
onward t s later (passed rest used nodes every some) = tally t s used nodes every some (later rest (suc nodes))
onward t s later (stopped number at) = stopped number at

module _ (t : List ℕ) (s : StateSets) (used nodes every some : ℕ) where
  joined-onward : (c m : ℕ) (children : Forest) (after : Reading)
      → tally t s used nodes every some (joined c m children after)
      ≡ onward t s (λ rest later. after) (tally t s used nodes every some (read [] (node c m children end)))
  unfolding tally joined onward used_from count_from kept_from
  joined-onward c m children (read rest siblings) = refl
  joined-onward c m children (stop number at) = refl

  followed-onward : (c m : ℕ) (later : List ℕ → ℕ → Reading) (below : Reading)
      → tally t s used nodes every some (followed c m (suc (suc nodes)) later below)
      ≡ onward t s later (tally t s used nodes every some (followed c m (suc (suc nodes)) (λ rest at. read rest end) below))
  unfolding tally joined followed onward used_from count_from kept_from
  followed-onward c m later (stop number at) = refl
  followed-onward c m later (read rest children) =
      rw (count_next (suc nodes) children) (joined-onward c m children (later rest (suc (count_from (suc nodes) children))))

  -- a node and what follows it: first the node alone, then the rest from what is kept by then
  entered-onward : (below : List Goal → List ℕ → ℕ → Reading) (later : List ℕ → ℕ → Reading) (e : Entry)
      → tally t s used nodes every some (entered (suc nodes) below later e)
      ≡ onward t s later (tally t s used nodes every some (entered (suc nodes) below (λ rest at. read rest end) e))
  unfolding tally entered onward
  entered-onward below later (halt number) = refl
  entered-onward below later (ask c m goals rest) = followed-onward c m later (below goals rest (suc (suc nodes)))

-- goals are read one after the other
reads_on : (t : List ℕ) (levels : ℕ) (branch : List Goal) (g : Goal) (goals : List Goal) (s : StateSets) (rec : List ℕ)
    (used nodes every some : ℕ)
    → tally_on t levels branch (g ∷ goals) s rec used nodes every some
    ≡ onward t s (reader t levels branch goals) (tally_on t levels branch (g ∷ []) s rec used nodes every some)
unfolding tally_on reader_by read_all
reads_on t zero branch g goals s rec used nodes every some = entered-onward t s used nodes every some _ _ (entry t false g rec)
reads_on t (suc levels) branch g goals s rec used nodes every some =
    entered-onward t s used nodes every some _ _ (entry t (fresh branch g) g rec)

-- no goal is left
pub reads_none : (t : List ℕ) (levels : ℕ) (branch : List Goal) (s : StateSets) (rec : List ℕ) (used nodes every some : ℕ)
    → tally_on t levels branch [] s rec used nodes every some ≡ passed rec used nodes every some
unfolding tally_on tally reader_by read_all used_from count_from kept_from
reads_none t zero branch s rec used nodes every some = refl
reads_none t (suc levels) branch s rec used nodes every some = refl

-- the first of some goals is read before the others
split : (t : List ℕ) (levels : ℕ) (branch : List Goal) (g : Goal) (goals : List Goal) (s : StateSets) (rec : List ℕ) (before : Tally)
    → onward t s (reader t levels branch goals) (read_from t levels branch (g ∷ []) s rec before)
    ≡ read_from t levels branch (g ∷ goals) s rec before
split t levels branch g goals s rec before =
    sym (reads_on t levels branch g goals s rec before.used before.nodes before.words.every before.words.some)

-- the code's reader has read it: it passed, or it stopped
module _ {t : List ℕ} {levels : ℕ} {branch : List Goal} {g : Goal} {s : StateSets} {rec : List ℕ} {before : Tally} where
  pub first-passed : (goals : List Goal) {rest : List ℕ} {after : Tally} → ReadOn t levels branch g s rec before rest after
      → read_from t levels branch goals s rest after ≡ read_from t levels branch (g ∷ goals) s rec before
  unfolding tally_on onward
  first-passed goals r = ap (onward t s (reader t levels branch goals)) r.told ∙ split t levels branch g goals s rec before

  pub first-stopped : (goals : List Goal) {left : List ℕ} {why : Reason} {after : Tally}
      → StopsAt t levels branch g s rec before left why after
      → stopped (number_of why) after.nodes ≡ read_from t levels branch (g ∷ goals) s rec before
  unfolding onward
  first-stopped goals r = ap (onward t s (reader t levels branch goals)) r.told ∙ split t levels branch g goals s rec before

-- a node that is entered: a level is left, two numbers are there, and the credential applies
pub record Asks (t : List ℕ) (levels : ℕ) (g : Goal) (rec : List ℕ) (c m : ℕ) (goals : List Goal) : Type 0 where
  pub level : 1 ≤ levels
  pub long : 2 ≤ length rec
  pub own : premises t g c m ≡ Option.some goals

halt-ask : {number c m : ℕ} {goals : List Goal} {rest : List ℕ} → halt number ≡ ask c m goals rest → ⊥
halt-ask e = let z : ◌≡◌ {A = ℕ} 0 1 = cc in omega arith

some_level : (levels : ℕ) (branch : List Goal) (g : Goal) → may levels branch g ≡ true → 1 ≤ levels
unfolding may
some_level zero branch g h = absurd (false-true h)
some_level (suc levels) branch g h = omega arith

module _ (t : List ℕ) (levels : ℕ) (branch : List Goal) (g : Goal) (c m : ℕ) (goals : List Goal) (rest : List ℕ) where
  admitted-asks : (first second : ℕ) (more : List ℕ) (found : Option (List Goal)) → premises t g first second ≡ found → (b : Bool)
      → may levels branch g ≡ b → admitted b first second more found ≡ ask c m goals rest
      → Asks t levels g (first ∷ second ∷ more) c m goals
  unfolding admitted pick
  admitted-asks first second more Option.none e b f h = absurd (halt-ask h)
  admitted-asks first second more (Option.some asked) e false f h = absurd (halt-ask h)
  admitted-asks first second more (Option.some asked) e true f h =
      let a : first ≡ c = cc in
      let b : second ≡ m = cc in
      let d : asked ≡ goals = cc in
      record { level = some_level levels branch g f; long = omega arith; own = rw (← a, ← b, ← d) e }

  pub entry-asked : (rec : List ℕ) → entry t (may levels branch g) g rec ≡ ask c m goals rest → Asks t levels g rec c m goals
  unfolding entry_by
  entry-asked [] h = absurd (halt-ask h)
  entry-asked (x ∷ []) h = absurd (halt-ask h)
  entry-asked (x ∷ y ∷ more) h = admitted-asks x y more (premises t g x y) refl (may levels branch g) refl h

-- one goal: the reader at a level goes by the node's entry
one-goal : (t : List ℕ) (levels : ℕ) (branch : List Goal) (g : Goal) (rec : List ℕ) (at : ℕ)
    → reader t (suc levels) branch (g ∷ []) rec at
    ≡ entered at (reader t levels (g ∷ branch)) (λ rest later. read rest end) (entry t (may (suc levels) branch g) g rec)
unfolding reader_by read_all may
one-goal t levels branch g rec at = refl

pub node-stops : (t : List ℕ) (levels : ℕ) (branch : List Goal) (g : Goal) (s : StateSets) (rec : List ℕ)
    (used nodes every some number : ℕ) → entry t (may levels branch g) g rec ≡ halt number
    → stopped number (suc nodes) ≡ tally_on t levels branch (g ∷ []) s rec used nodes every some
unfolding tally_on tally reader_by read_all entered may
node-stops t zero branch g s rec used nodes every some number h = rw h
node-stops t (suc levels) branch g s rec used nodes every some number h = rw h

-- where no goal is asked, no node is read
reads_end : (t : List ℕ) (levels : ℕ) (branch goals : List Goal) (rec : List ℕ) (at : ℕ) → goals ≡ []
    → (rest : List ℕ) (f : Forest)
    → reader t levels branch goals rec at ≡ read rest f → f ≡ end
reads_end t levels branch goals rec at nothing rest f h =
    let e = rw nothing at h in
    let z = reader-end t branch rec at levels in
    cc

-- one goal that is entered: its children are read from what is kept once the node is counted
module _ (t : List ℕ) (wf : WellFormed t) (g : Goal) (s : StateSets) (used nodes every some c m : ℕ) where
  abbrev below : StateSets
  below = moved_sets t g.role s

  children-kept : (join : ℕ → ℕ → ℕ) (kept : ℕ) (goals : List Goal) → premises t g c m ≡ Option.some goals
      → (f : Forest) → (goals ≡ [] → f ≡ end)
      → kept_from join t below (after_node join t kept below (length goals)) f ≡ kept_from join t s kept (node c m f end)
  unfolding kept_from pick
  children-kept join kept [] applies f leaf = rw (leaf refl, asks_nothing t wf g c m applies, applies-role t g c m [] applies)
  children-kept join kept (h ∷ goals) applies f leaf =
      let not-one = ne_eqb (credential t c).kind 1 (asks-more t g c m h goals applies) in
      rw (applies-role t g c m (h ∷ goals) applies, not-one, ne_eqb (suc (length goals)) 0 (λ e. omega arith))

  -- what is kept once the node is counted and its word, if it ends one, is judged
  abbrev counted : ℕ → Reading → Tallied
  counted len after =
      tally t below (bit_or used (2 ^ (c - 1))) (suc nodes) (after_node bit_and t every below len) (after_node bit_or t some below len)
      after

  reading-kept : (goals : List Goal) → premises t g c m ≡ Option.some goals → (after : Reading)
      → (goals ≡ [] → (rest : List ℕ) (f : Forest) → after ≡ read rest f → f ≡ end)
      → counted (length goals) after
      ≡ tally t s used nodes every some (followed c m (suc (suc nodes)) (λ rest later. read rest end) after)
  unfolding tally followed joined used_from count_from
  reading-kept goals applies (read rest f) leaf =
      let nothing : goals ≡ [] → f ≡ end = λ e. leaf e rest f refl in
      rw (children-kept bit_and every goals applies f nothing, children-kept bit_or some goals applies f nothing)
  reading-kept goals applies (stop number at) leaf = refl

  pub node-asks : (here levels : ℕ) (branch goals : List Goal) (rec rest : List ℕ) → here ≡ suc levels
      → premises t g c m ≡ Option.some goals → entry t (may here branch g) g rec ≡ ask c m goals rest
      → tally_on t levels (g ∷ branch) goals below rest (bit_or used (2 ^ (c - 1))) (suc nodes)
      (after_node bit_and t every below (length goals)) (after_node bit_or t some below (length goals))
      ≡ tally_on t here branch (g ∷ []) s rec used nodes every some
  unfolding tally_on entered
  node-asks here levels branch goals rec rest one_more applies h =
      let asked = rw one_more at h in
      let leaf = reads_end t levels (g ∷ branch) goals rest (suc (suc nodes)) in
      rw (one_more, one-goal t levels branch g rec (suc nodes), asked) (reading-kept goals applies _ leaf)
