-- The loop over a node's children: what is kept after the first i of them, with the others still to be read, is the whole.
use mathlib.Core.Path.{◌≡◌, refl, sym, ◌∙◌}
use mathlib.Core.List.{List, [], ◌∷◌}
use Prim.Native.Nat.{ℕ, suc, ◌+◌, ◌-◌, ◌^◌, ◌≤◌, ◌<◌}
use native.Mathlib.Omega.{arith}
use native.Mathlib.Numerals.{add-one}
use lib.ListN.{drop, get_or, length, take, drop_of_length-le, length-drop}
use lib.Seq.{drop-cons, take_all}
use lib.Bits.{bit_and, bit_or}
use Rattle.std.specs.Prelude.{Ok, Err}
use Rattle.few.specs.Listed.{listed}
use Rattle.table.specs.Limits.{most_credentials}
use Rattle.table.specs.Layout.{Numbered, credential, credentials}
use Rattle.table.specs.Checks.{number_of}
use Rattle.table.specs.Holding.{WellFormed}
use Rattle.table.specs.declared.Goal.{Goal}
use Rattle.table.specs.declared.Reason.{Reason}
use Rattle.automata.specs.Together.{moved_on, moved_sets}
use Rattle.automata.specs.declared.Moved.{Moved}
use Rattle.automata.specs.declared.StateSets.{StateSets}
use Rattle.automata.proofs.Together.{states-moved}
use Rattle.entering.specs.Entry.{entry}
use Rattle.entering.specs.Entry.Entry.{ask}
use Rattle.derivation.specs.Held.{no_goal}
use Rattle.entering.specs.Steps.{after_node, may, stepped}
use Rattle.reader.specs.Tally.{ReadOn, StopsAt, passed_by, read_from}
use Rattle.reader.specs.Tally.Tallied.{stopped}
use Rattle.reader.specs.declared.Tally.{Tally}
use Rattle.entering.specs.declared.Step.{Step}
use Rattle.derivation.proofs.Applying.{applies-numbered, applies-role}
use Rattle.reader.proofs.Keeping.{Asks, entry-asked, first-passed, first-stopped, node-asks, node-stops, reads_none}

-- a part of a slice from a place on to its end
part-behind : (rec : List ℕ) (n : ℕ) → n ≤ length rec → take (length rec - n) (drop n rec) ≡ drop n rec
part-behind rec n h = take_all (length rec - n) (drop n rec) (omega (arith, length-drop n rec))

part_length : (rec : List ℕ) (n : ℕ) → n ≤ length rec → length (take (length rec - n) (drop n rec)) ≡ length rec - n
part_length rec n h = rw (part-behind rec n h) (length-drop n rec)

-- the first i children have been read, and the others are still to be read
pub record Onward (t : List ℕ) (levels : ℕ) (branch goals : List Goal) (s : StateSets) (rest₀ : List ℕ) (kept₀ : Tally)
    (rest : List ℕ) (kept : Tally) (i : ℕ) : Type 0 where
  pub room : kept.nodes + length rest ≤ kept₀.nodes + length rest₀
  pub whole : read_from t levels branch (drop i goals) s rest kept ≡ read_from t levels branch goals s rest₀ kept₀

pub onward-starts : {t : List ℕ} {levels : ℕ} {branch goals : List Goal} {s : StateSets} {rest : List ℕ} {kept : Tally}
    → Onward t levels branch goals s rest kept rest kept 0
onward-starts = record { room = omega arith; whole = refl }

module _ {t : List ℕ} {levels : ℕ} {branch goals : List Goal} {s : StateSets} {rest₀ : List ℕ} {kept₀ : Tally}
    {rest : List ℕ} {kept : Tally} {i : ℕ} (o : Onward t levels branch goals s rest₀ kept₀ rest kept i) where
  onward-ends : length goals ≤ i → passed_by rest kept ≡ read_from t levels branch goals s rest₀ kept₀
  onward-ends all =
      let through = drop_of_length-le goals {i = i} all in
      sym (reads_none t levels branch s rest kept.used kept.nodes kept.words.every kept.words.some) ∙ rw through at o.whole

  -- the i-th child is read next
  module _ (less : i < length goals) where
    next : read_from t levels branch (get_or goals i no_goal ∷ drop (i + 1) goals) s rest kept
        ≡ read_from t levels branch goals s rest₀ kept₀
    next = rw (add-one i, ← drop-cons goals i no_goal less) o.whole

    pub onward-goes : {rest' : List ℕ} {kept' : Tally}
        → ReadOn t levels branch (get_or goals i no_goal) s rest kept rest' kept'
        → Onward t levels branch goals s rest₀ kept₀ rest' kept' (i + 1)
    onward-goes child = record { room = omega (arith, o.room, child.room); whole = first-passed _ child ∙ next }

    onward_stops : {left : List ℕ} {why : Reason} {kept' : Tally}
        → StopsAt t levels branch (get_or goals i no_goal) s rest kept left why kept'
        → stopped (number_of why) kept'.nodes ≡ read_from t levels branch goals s rest₀ kept₀
    onward_stops child = first-stopped (drop (i + 1) goals) child ∙ next

-- a node that the code has entered with `step`
pub record Node (t : List ℕ) (levels : ℕ) (branch : List Goal) (g : Goal) (rec : List ℕ) (step : Step) : Type 0 where
  pub table : WellFormed t
  pub enters : stepped (Ok step) rec ≡ entry t (may levels branch g) g rec

pub entered-node : {t : List ℕ} {levels : ℕ} {branch : List Goal} {g : Goal} {rec : List ℕ} {step : Step} → WellFormed t
    → stepped (Ok step) rec ≡ entry t (may levels branch g) g rec → Node t levels branch g rec step
entered-node table enters = record { table = table; enters = enters }

-- what the code keeps for its children
pub record Down (t : List ℕ) (branch : List Goal) (g : Goal) (s : StateSets) (step : Step) (before : Tally)
    (deeper : List Goal) (below : StateSets) (kept : Tally) : Type 0 where
  pub branches : deeper ≡ g ∷ branch
  pub moves : below ≡ moved_sets t g.role s
  pub counts : kept.nodes ≡ before.nodes + 1
  pub uses : kept.used ≡ bit_or before.used (2 ^ (step.credential - 1))
  pub every : kept.words.every ≡ after_node bit_and t before.words.every below (length (listed step.asked))
  pub some : kept.words.some ≡ after_node bit_or t before.words.some below (length (listed step.asked))

module _ {t : List ℕ} {levels : ℕ} {branch : List Goal} {g : Goal} {rec : List ℕ} {step : Step}
    (n : Node t levels branch g rec step) where
  node-entry : entry t (may levels branch g) g rec ≡ ask step.credential step.middle (listed step.asked) (drop 2 rec)
  unfolding stepped
  node-entry = sym n.enters

  node-facts : Asks t levels g rec step.credential step.middle (listed step.asked)
  node-facts = entry-asked t levels branch g _ _ _ _ rec node-entry

  pub node-level : 1 ≤ levels
  node-level = node-facts.level

  pub node-long : 2 ≤ length rec
  node-long = node-facts.long

  node-numbered : Numbered (credentials t) step.credential
  node-numbered = applies-numbered t g _ _ _ node-facts.own

  pub node-credential : Numbered most_credentials step.credential
  node-credential = omega (arith, node-numbered, n.table.sized.counted.few_credentials)

  -- its credential as the code counts it, from 0 on, defines the goal's role
  module _ {c : ℕ} (is : c ≡ step.credential) where
    pub node-place : c - 1 < credentials t
    node-place = omega (arith, node-numbered)

    pub node-moves : (s : StateSets) {x : Moved} → x ≡ moved_on t (credential t (suc (c - 1))).role s
        → x.states ≡ moved_sets t g.role s
    node-moves s moves =
        let own : suc (c - 1) ≡ step.credential = omega (arith, node-numbered) in
        rw (← applies-role t g _ _ _ node-facts.own, ← own) (states-moved t _ s moves)

module _ {t : List ℕ} {levels : ℕ} {branch : List Goal} {g : Goal} {s : StateSets} {rec : List ℕ} {step : Step}
    {before : Tally} {deeper : List Goal} {below : StateSets} {kept₀ : Tally} (n : Node t levels branch g rec step)
    (d : Down t branch g s step before deeper below kept₀) where
  abbrev behind : List ℕ
  behind = take (length rec - 2) (drop 2 rec)

  -- its children, read from what the code keeps by then, are the whole
  node-whole : read_from t (levels - 1) deeper (listed step.asked) below behind kept₀
      ≡ read_from t levels branch (g ∷ []) s rec before
  node-whole =
      let one_less : levels ≡ suc (levels - 1) = omega (arith, node-level n) in
      let asked = node-asks t n.table g s before.used before.nodes before.words.every before.words.some _ _ levels (levels - 1) in
      let told = asked _ _ rec _ one_less (node-facts n).own (node-entry n) in
      rw (d.branches, part-behind rec 2 (node-long n), d.counts, d.uses, d.every, d.some, d.moves, add-one before.nodes) told

  module _ {rest : List ℕ} {kept : Tally} {i : ℕ}
      (o : Onward t (levels - 1) deeper (listed step.asked) below behind kept₀ rest kept i) where
    -- each node takes two numbers, so nodes and numbers left stay below what they were
    pub left : kept.nodes + length rest ≤ before.nodes + length rec
    left = omega (arith, part_length rec 2 (node-long n), node-long n, o.room, d.counts)

    pub children-read : length (listed step.asked) ≤ i → ReadOn t levels branch g s rec before rest kept
    children-read all = record { told = onward-ends o all ∙ node-whole; room = left }

    pub child-stops : {left : List ℕ} {why : Reason} {kept' : Tally} → i < length (listed step.asked)
        → StopsAt t (levels - 1) deeper (get_or (listed step.asked) i no_goal) below rest kept left why kept'
        → StopsAt t levels branch g s rec before rec why kept'
    child-stops less child = record { told = onward_stops o less child ∙ node-whole; whole = refl }

-- what is kept of a node for its children, by what the code has called
pub kept-down : {t : List ℕ} {levels : ℕ} {branch : List Goal} {g : Goal} {rec : List ℕ} {step : Step}
    → Node t levels branch g rec step → {c : ℕ} → c ≡ step.credential → (s : StateSets) {x : Moved}
    → x ≡ moved_on t (credential t (suc (c - 1))).role s → {before kept : Tally} → kept.nodes ≡ before.nodes + 1
    → kept.used ≡ bit_or before.used (2 ^ (step.credential - 1)) → {len : ℕ} → len ≡ length (listed step.asked)
    → (kept.words.every ≡ after_node bit_and t before.words.every x.states len)
    × (kept.words.some ≡ after_node bit_or t before.words.some x.states len)
    → {deeper : List Goal} → deeper ≡ g ∷ branch → Down t branch g s step before deeper x.states kept
kept-down n place s moves counts uses size keeps branches =
    record {
      branches = branches;
      moves = node-moves n place s moves;
      counts = counts;
      uses = uses;
      every = rw (← size) keeps.0;
      some = rw (← size) keeps.1;
    }

-- a node that the code could not enter
pub node-halts : {t : List ℕ} {levels : ℕ} {branch : List Goal} {g : Goal} {s : StateSets} {rec : List ℕ} {before after : Tally}
    {why : Reason} → stepped (Err why) rec ≡ entry t (may levels branch g) g rec → after.nodes ≡ before.nodes + 1
    → StopsAt t levels branch g s rec before rec why after
unfolding stepped
node-halts {t} {levels} {branch} {g} {s} {rec} {before} {after} {why} enters counts =
    record {
      told = rw (counts, add-one before.nodes)
          (node-stops t levels branch g s rec before.used before.nodes before.words.every before.words.some _ (sym enters));
      whole = refl;
    }
