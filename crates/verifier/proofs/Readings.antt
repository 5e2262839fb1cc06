-- The reader against derivations: what it reads derives the goals and was the record's beginning, and what derives it reads back;
-- where it stops is the first node that does not pass, by `Stops` of specs/DemandTwo.antt.
use mathlib.Core.Path.{◌≡◌, refl, sym}
use mathlib.Core.List.{List, [], ◌∷◌, ◌++◌, append_assoc}
use mathlib.Core.Bool.{Bool, true, false}
use mathlib.Core.Option.{Option, none, some}
use Prim.Native.Nat.{ℕ, zero, suc}
use native.Mathlib.Omega.{arith}
use Rattle.sets.specs.Logic.{pick}
use Rattle.table.specs.declared.Goal.{Goal}
use Rattle.table.specs.declared.Query.{Query}
use Rattle.derivation.specs.Rules.{fresh, goal_of, premises}
use Rattle.derivation.specs.Forest.{Derives, Forest, count_from, written}
use Rattle.derivation.specs.Forest.Forest.{end}
use Rattle.derivation.specs.Forest.DerivesBy.{done, step}
use Rattle.entering.specs.Entry.{admitted, entry, entry_by}
use Rattle.entering.specs.Entry.Entry.{halt}
use Rattle.reader.specs.Reading.{Reading, entered, followed, joined, reader}
use Rattle.reader.specs.Reading.Reading.{read, stop}
use Rattle.verifier.specs.DemandTwo.{Stops}
use Rattle.verifier.specs.DemandTwo.Stops.{short, unfit, deep, again, below, behind}
use Rattle.reader.proofs.FirstGoal.{reader-end, reader-floor, reader-node}
use Rattle.entering.proofs.Entering.{entry-short}

-- the reading of a whole record for a query: its goal is at level 1, node 1, with nothing above it
abbrev pub queried : List ℕ → Query → List ℕ → Reading
queried t q rec = reader t q.depth [] (goal_of q ∷ []) rec 1

read-stop : {rest : List ℕ} {f : Forest} {number position : ℕ} → read rest f ≡ stop number position → ⊥
read-stop e = let z : ◌≡◌ {A = ℕ} 0 1 = cc in omega arith

-- how a reading ends: the goals derive and their record is read off, or it stops
pub data Ends (t : List ℕ) (levels : ℕ) (branch goals : List Goal) (at : ℕ) : List ℕ → Reading → Type 0 where
  reads : {rest : List ℕ} {f : Forest} → Derives t levels branch goals f
      → Ends t levels branch goals at (written f ++ rest) (read rest f)
  stops : {rec : List ℕ} {number position : ℕ} → Stops t levels branch goals rec at number position
      → Ends t levels branch goals at rec (stop number position)

-- a node for which no level is left
module _ (t : List ℕ) (branch later : List Goal) (g : Goal) (at : ℕ) (deeper : List Goal → List ℕ → ℕ → Reading)
    (next : List ℕ → ℕ → Reading) where
  floor-admits : (c m : ℕ) (rec : List ℕ) (o : Option (List Goal)) → premises t g c m ≡ o
      → Ends t zero branch (g ∷ later) at (c ∷ m ∷ rec) (entered at deeper next (admitted false c m rec o))
  unfolding entered admitted pick
  floor-admits c m rec none e = stops (unfit e)
  floor-admits c m rec (some goals) e = stops (deep e)

  floor-ends : (rec : List ℕ) → Ends t zero branch (g ∷ later) at rec (entered at deeper next (entry t false g rec))
  unfolding entered entry_by
  floor-ends [] = stops (short {rec = []} (omega arith))
  floor-ends (c ∷ []) = stops (short {rec = c ∷ []} (omega arith))
  floor-ends (c ∷ m ∷ rec) = floor-admits c m rec (premises t g c m) refl

-- a node for which a level is left
module _ (t : List ℕ) (levels : ℕ) (branch later : List Goal) (g : Goal) (at : ℕ) where
  module _ (c m : ℕ) (goals : List Goal) (fits : premises t g c m ≡ some goals) (new : fresh branch g ≡ true) where
    joined-ends : {children : Forest} {rec : List ℕ} {r : Reading} → Derives t levels (g ∷ branch) goals children
        → Ends t (suc levels) branch later (count_from (suc at) children) rec r
        → Ends t (suc levels) branch (g ∷ later) at (c ∷ m ∷ (written children ++ rec)) (joined c m children r)
    unfolding joined written
    joined-ends {children} d (reads {rest} {f} s) =
        rw (← append_assoc (written children) (written f) rest) (reads (step fits new d s))
    joined-ends d (stops s) = stops (behind fits new d s)

    followed-ends : {rec : List ℕ} {r : Reading} (next : List ℕ → ℕ → Reading)
        → ((rest : List ℕ) (n : ℕ) → Ends t (suc levels) branch later n rest (next rest n))
        → Ends t levels (g ∷ branch) goals (suc at) rec r
        → Ends t (suc levels) branch (g ∷ later) at (c ∷ m ∷ rec) (followed c m (suc at) next r)
    unfolding followed
    followed-ends next after (reads {rest} {f} d) = joined-ends d (after rest (count_from (suc at) f))
    followed-ends next after (stops s) = stops (below fits new s)

  module _ (deeper : List Goal → List ℕ → ℕ → Reading) (next : List ℕ → ℕ → Reading)
      (inside : (goals : List Goal) (rec : List ℕ) → Ends t levels (g ∷ branch) goals (suc at) rec (deeper goals rec (suc at)))
      (after : (rec : List ℕ) (n : ℕ) → Ends t (suc levels) branch later n rec (next rec n)) where
    node-admits : (c m : ℕ) (rec : List ℕ) (o : Option (List Goal)) → premises t g c m ≡ o → (may : Bool) → fresh branch g ≡ may
        → Ends t (suc levels) branch (g ∷ later) at (c ∷ m ∷ rec) (entered at deeper next (admitted may c m rec o))
    unfolding entered admitted pick
    node-admits c m rec none e may e' = stops (unfit e)
    node-admits c m rec (some goals) e false e' = stops (again e e')
    node-admits c m rec (some goals) e true e' = followed-ends c m goals e e' next after (inside goals rec)

    node-ends : (rec : List ℕ)
        → Ends t (suc levels) branch (g ∷ later) at rec (entered at deeper next (entry t (fresh branch g) g rec))
    unfolding entered entry_by
    node-ends [] = stops (short {rec = []} (omega arith))
    node-ends (c ∷ []) = stops (short {rec = c ∷ []} (omega arith))
    node-ends (c ∷ m ∷ rec) = node-admits c m rec (premises t g c m) refl (fresh branch g) refl

-- every goal in turn
module _ (t : List ℕ) (branch : List Goal) where
  floor-all : (goals : List Goal) (rec : List ℕ) (at : ℕ) → Ends t zero branch goals at rec (reader t zero branch goals rec at)
  unfolding written
  floor-all [] rec at = rw (reader-end t branch rec at zero) (reads {f = end} done)
  floor-all (g ∷ later) rec at = rw (reader-floor t branch rec at g later) (floor-ends t branch later g at _ _ rec)

  level_all : (levels : ℕ)
      → ((g : Goal) (goals : List Goal) (rec : List ℕ) (at : ℕ)
      → Ends t levels (g ∷ branch) goals at rec (reader t levels (g ∷ branch) goals rec at))
      → (goals : List Goal) (rec : List ℕ) (at : ℕ)
      → Ends t (suc levels) branch goals at rec (reader t (suc levels) branch goals rec at)
  unfolding written
  level_all levels inside [] rec at = rw (reader-end t branch rec at (suc levels)) (reads {f = end} done)
  level_all levels inside (g ∷ later) rec at =
      rw (reader-node t branch rec at levels g later)
      (node-ends t levels branch later g at _ _ (λ goals more. inside g goals more (suc at)) (level_all levels inside later) rec)

pub reader-ends : (t : List ℕ) (levels : ℕ) (branch goals : List Goal) (rec : List ℕ) (at : ℕ)
    → Ends t levels branch goals at rec (reader t levels branch goals rec at)
reader-ends t zero branch = floor-all t branch
reader-ends t (suc levels) branch = level_all t branch levels (λ g. reader-ends t levels (g ∷ branch))

-- what an ending says, once it is known which
ends_read : {t : List ℕ} {levels : ℕ} {branch goals : List Goal} {at : ℕ} {rec rest : List ℕ} {r : Reading} {f : Forest}
    → Ends t levels branch goals at rec r → r ≡ read rest f → Derives t levels branch goals f × (rec ≡ written f ++ rest)
ends_read {f} (reads {rest} {f = f'} d) e = let same : f' ≡ f = cc in (rw same at d, cc)
ends_read (stops s) e = absurd (read-stop (sym e))

pub ends-stop : {t : List ℕ} {levels : ℕ} {branch goals : List Goal} {at : ℕ} {rec : List ℕ} {r : Reading} {number position : ℕ}
    → Ends t levels branch goals at rec r → r ≡ stop number position → Stops t levels branch goals rec at number position
ends-stop (reads d) e = absurd (read-stop e)
ends-stop {number} {position} (stops {number = n} {position = p} s) e =
    let one : n ≡ number = cc in
    let two : p ≡ position = cc in
    rw (one, two) at s

pub reader-sound : (t : List ℕ) (levels : ℕ) (branch goals : List Goal) (rec : List ℕ) (at : ℕ) {rest : List ℕ} {f : Forest}
    → reader t levels branch goals rec at ≡ read rest f → Derives t levels branch goals f × (rec ≡ written f ++ rest)
reader-sound t levels branch goals rec at = ends_read (reader-ends t levels branch goals rec at)

-- a node that passes is read with its children, and what follows by the reader of the later goals
passes : (t : List ℕ) (levels c m : ℕ) (branch goals later : List Goal) (g : Goal) (rec : List ℕ) (at : ℕ)
    → premises t g c m ≡ some goals → fresh branch g ≡ true
    → reader t (suc levels) branch (g ∷ later) (c ∷ m ∷ rec) at
    ≡ followed c m (suc at) (reader t (suc levels) branch later) (reader t levels (g ∷ branch) goals rec (suc at))
unfolding entry_by entered admitted pick
passes t levels c m branch goals later g rec at fits new = rw (reader-node t branch (c ∷ m ∷ rec) at levels g later, fits, new)

pub reader-complete : (t : List ℕ) {levels : ℕ} {branch goals : List Goal} {f : Forest} → Derives t levels branch goals f
    → (rest : List ℕ) (at : ℕ) → reader t levels branch goals (written f ++ rest) at ≡ read rest f
unfolding written followed joined
reader-complete t (done {levels} {branch}) rest at = reader-end t branch rest at levels
reader-complete t (step {levels} {c} {m} {branch} {goals} {rest = later} {g} {children} {siblings} fits new d s) rest at =
    let behind = written siblings ++ rest in
    let here = passes t levels c m branch goals later g (written children ++ behind) at fits new in
    let inside = reader-complete t d behind (suc at) in
    let after = reader-complete t s rest (count_from (suc at) children) in
    rw (append_assoc (written children) (written siblings) rest, here, inside, after)

-- a node that halts whatever its level and branch
halts : (t : List ℕ) (levels : ℕ) (branch later : List Goal) (g : Goal) (rec : List ℕ) (at number : ℕ)
    → ((may : Bool) → entry t may g rec ≡ halt number) → reader t levels branch (g ∷ later) rec at ≡ stop number at
unfolding entered
halts t zero branch later g rec at number refuses = rw (reader-floor t branch rec at g later, refuses false)
halts t (suc levels) branch later g rec at number refuses =
    rw (reader-node t branch rec at levels g later, refuses (fresh branch g))

pub reader-stops : {t : List ℕ} {levels : ℕ} {branch goals : List Goal} {rec : List ℕ} {at number position : ℕ}
    → Stops t levels branch goals rec at number position → reader t levels branch goals rec at ≡ stop number position
unfolding entered entry_by admitted pick followed joined
reader-stops {t} (short {levels} {at} {branch} {later} {g} {rec} few) =
    halts t levels branch later g rec at 11 (λ may. sym (entry-short t may g rec few))
reader-stops {t} (unfit {levels} {at} {c} {m} {branch} {later} {g} {rec} lacks) =
    halts t levels branch later g (c ∷ m ∷ rec) at 12 (λ may. rw lacks)
reader-stops {t} (deep {at} {c} {m} {branch} {goals} {later} {g} {rec} fits) =
    rw (reader-floor t branch (c ∷ m ∷ rec) at g later, fits)
reader-stops {t} (again {levels} {at} {c} {m} {branch} {goals} {later} {g} {rec} fits old) =
    rw (reader-node t branch (c ∷ m ∷ rec) at levels g later, fits, old)
reader-stops {t} (below {levels} {at} {c} {m} {branch} {goals} {later} {g} {rec} fits new s) =
    rw (passes t levels c m branch goals later g rec at fits new, reader-stops s)
reader-stops {t} (behind {levels} {at} {c} {m} {branch} {goals} {later} {g} {rec} {children} fits new d s) =
    let passed = passes t levels c m branch goals later g (written children ++ rec) at fits new in
    rw (passed, reader-complete t d rec (suc at), reader-stops s)
