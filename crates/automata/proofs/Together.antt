-- The loops over automata and edges, set by set: what stands at each place of the eight sets after so many automata or
-- edges.
use mathlib.Core.Path.{◌≡◌, refl, sym, ap, ◌∙◌}
use mathlib.Core.List.{List}
use mathlib.Core.Bool.{Bool, true, false}
use Prim.Native.Nat.{ℕ, suc, ◌+◌, ◌-◌, ◌^◌, ◌≤◌, ◌<◌}
use native.Mathlib.Omega.{arith}
use native.Mathlib.Numerals.{add-one, sub-one}
use native.Mathlib.Decide.{dec_lt, ℕ_discrete}
use lib.ListN.{length, get_or, set, replicate, length-set, get_or-replicate}
use lib.Seq.{get_or-set_same, get_or-set_other}
use lib.Bits.{bit_or, or_zero_r}
use lib.Dec.{eqb, ltb}
use borrow.Author.Tests.{ne_eqb, le-leb}
use Rattle.sets.specs.Logic.{◌and◌, pick}
use Rattle.table.specs.Limits.{last_state, most_automata}
use Rattle.table.specs.Layout.{Numbered, automata, automaton, credential, edge, edges}
use Rattle.table.specs.Holding.{WellFormed}
use Rattle.table.specs.Checks.{within}
use Rattle.table.specs.declared.Role.{Role}
use Rattle.table.specs.declared.Credential.{Credential}
use Rattle.table.specs.declared.Edge.{Edge}
use Rattle.table.proofs.WellFormed.{wf-edge}
use Rattle.edges.specs.Edges.{leads}
use Rattle.automata.specs.Automata.{accepts_from, moved, moved_by, starting}
use Rattle.automata.specs.Together.{dead_set, moved_on, moved_sets, starting_sets, together}
use Rattle.automata.specs.declared.Moved.{Moved}
use Rattle.automata.specs.declared.StateSets.{StateSets}
use Rattle.automata.proofs.Each.{together_at, together-beyond, together-is}
use Rattle.automata.proofs.Moves.{moved-empty}
use Rattle.automata.proofs.Written.{Written}

-- automaton j + 1 is one of n where j is below n
pub within_first : (n j : ℕ) → within 1 n (suc j) ≡ ltb j n
unfolding within ◌and◌
within_first n j = rw (le-leb 1 (suc j) (omega arith))

-- the sets of the first k automata are their starting sets, and the others are empty
abbrev pub Started : List ℕ → ℕ → List ℕ → Type 0
Started t = Written (λ j. (automaton t j).starting) (replicate most_automata 0)

pub started-all : (t : List ℕ) (k : ℕ) (l : List ℕ) → k ≡ automata t → Started t k l → record { sets = l } ≡ starting_sets t
unfolding starting_sets starting
started-all t k l all s = together-is (starting t) l s.size at
  where
    at : (j : ℕ) → j < most_automata → get_or l j 0 ≡ starting t (suc j)
    at j h = rw (within_first (automata t) j, ← all) (s.here j h ∙ rw (get_or-replicate {A = ℕ} most_automata j 0 0 h))

-- the sets moved along the first n edges: at place j stands the set of automaton j + 1
abbrev moved_at : List ℕ → Role → StateSets → ℕ → ℕ → ℕ
moved_at t r from j n = moved_by (edge t) (suc j) r (get_or from.sets j 0) n

pub record Moving (t : List ℕ) (r : Role) (from : StateSets) (n : ℕ) (next : StateSets) : Type 0 where
  pub size : length next.sets ≡ most_automata
  pub here : (j : ℕ) → j < most_automata → get_or next.sets j 0 ≡ moved_at t r from j n

pub moving-none : (t : List ℕ) (r : Role) (from : StateSets) → Moving t r from 0 (record { sets = replicate most_automata 0 })
unfolding moved_by
moving-none t r from = record { size = refl; here = λ j h. get_or-replicate most_automata j 0 0 h }

-- one more edge adds what it gives, or nothing
pick-given : (b : Bool) (x to : ℕ) → pick b (bit_or x to) x ≡ bit_or x (pick b to 0)
unfolding pick
pick-given true x to = refl
pick-given false x to = sym (or_zero_r x)

leads-alike : (r : Role) (e : Edge) {k l x y : ℕ} → k ≡ l → x ≡ y → leads k r x e ≡ leads l r y e
leads-alike r e h i = cc

-- the code has read edge n + 1 as e, its automaton's number as w, and has what the edge gives from that automaton's set
module _ (t : List ℕ) (r : Role) (from : StateSets) (n : ℕ) (next : StateSets) (so_far : Moving t r from n next) {e : Edge}
    (read : e ≡ edge t (n + 1)) (there : Numbered most_automata e.automaton) {w given : ℕ} (own : w ≡ e.automaton)
    (gives : given ≡ pick (leads e.automaton r (get_or from.sets (w - 1) 0) e) (2 ^ e.to) 0) where
  -- the set of its own automaton gets it
  own-moves : (j : ℕ) → suc j ≡ w → moved_at t r from j (n + 1) ≡ bit_or (moved_at t r from j n) given
  unfolding moved_by
  own-moves j same =
      let place : j ≡ w - 1 = omega arith in
      let leading = leads-alike r e (same ∙ own) (ap (λ (i : ℕ). get_or from.sets i 0) place) in
      rw (gives, ← leading, read, add-one n) (pick-given (leads (suc j) r _ (edge t (suc n))) (moved_at t r from j n) _)

  -- and no other set
  others-stay : (j : ℕ) → (suc j ≡ w → ⊥) → moved_at t r from j (n + 1) ≡ moved_at t r from j n
  unfolding moved_by leads ◌and◌ pick
  others-stay j other =
      rw (add-one n, ne_eqb (edge t (suc n)).automaton (suc j) (λ is. other (sym is ∙ rw (read, add-one n) at (sym own))))

  pub moving-on : Moving t r from (n + 1) (record { sets = set next.sets (w - 1) (bit_or (get_or next.sets (w - 1) 0) given) })
  moving-on = record { size = simp length-set so_far.size; here = λ j less. at j less (ℕ_discrete (suc j) w) }
    where
      at : (j : ℕ) → j < most_automata → Dec (suc j ≡ w)
          → get_or (set next.sets (w - 1) (bit_or (get_or next.sets (w - 1) 0) given)) j 0 ≡ moved_at t r from j (n + 1)
      at j less (yes same) =
          let place : w - 1 ≡ j = omega arith in
          rw (place, own-moves j same, ← so_far.here j less)
          (get_or-set_same next.sets j _ 0 (omega (arith, less, so_far.size)))
      at j less (no other) =
          get_or-set_other next.sets (w - 1) j _ 0 (λ is. other (omega (arith, is, own, there.first)))
          ∙ so_far.here j less ∙ sym (others-stay j other)

  -- it gives nothing, and the sets stay as they are
  pub moving-past : given ≡ 0 → Moving t r from (n + 1) next
  moving-past none = record { size = so_far.size; here = λ j less. so_far.here j less ∙ sym (at j (ℕ_discrete (suc j) w)) }
    where
      at : (j : ℕ) → Dec (suc j ≡ w) → moved_at t r from j (n + 1) ≡ moved_at t r from j n
      at j (yes same) = own-moves j same ∙ rw none (or_zero_r (moved_at t r from j n))
      at j (no other) = others-stay j other

pub moving-all : (t : List ℕ) (r : Role) (from : StateSets) (n : ℕ) (next : StateSets) → n ≡ edges t → Moving t r from n next
    → next ≡ moved_sets t r from
unfolding moved_sets moved
moving-all t r from n next all m = together-is _ next.sets m.size at
  where
    at : (j : ℕ) → j < most_automata → get_or next.sets j 0 ≡ moved_by (edge t) (suc j) r (get_or from.sets (suc j - 1) 0) (edges t)
    at j h = rw (sub-one, ← all) (m.here j h)

-- along the role of credential p + 1, which the code has read as c
pub role-moves : (t : List ℕ) (p : ℕ) (s : StateSets) {c : Credential} → c ≡ credential t (p + 1)
    → moved_sets t c.role s ≡ moved_sets t (credential t (suc p)).role s
role-moves t p s read = rw (read, add-one p)

-- the moved sets with what is dead in them
pub dead-told : (t : List ℕ) (r : Role) (s : StateSets) {next : StateSets} {dead : ℕ} → next ≡ moved_sets t r s
    → dead ≡ dead_set t next → record { states = next; dead = dead } ≡ moved_on t r s
unfolding moved_on
dead-told t r s moves told = rw (told, moves)

pub states-moved : (t : List ℕ) (r : Role) (s : StateSets) {x : Moved} → x ≡ moved_on t r s → x.states ≡ moved_sets t r s
unfolding moved_on
states-moved t r s told = ap (λ (y : Moved). y.states) told

-- a set that is empty stays empty, and beyond the eight there is none
pub empty-moved : (t : List ℕ) (r : Role) (s : StateSets) (k : ℕ) → get_or s.sets k 0 ≡ 0
    → get_or (moved_sets t r s).sets k 0 ≡ 0
unfolding moved_sets
empty-moved t r s k empty = go (dec_lt k most_automata)
  where
    one : ℕ → ℕ
    one j = moved t j r (get_or s.sets (j - 1) 0)

    go : Dec (k < most_automata) → get_or (together one).sets k 0 ≡ 0
    go (yes there) =
        together_at one k there ∙ ap (moved t (suc k) r) (rw (sub-one (suc k)) empty) ∙ moved-empty t (suc k) r
    go (no beyond) = together-beyond one k beyond

-- automaton k + 1 has no state
abbrev pub is_empty : StateSets → ℕ → Bool
is_empty s k = eqb (get_or s.sets k 0) 0

-- automaton k + 1 accepts
module _ (t : List ℕ) (s : StateSets) where
  abbrev pub accepts_at : ℕ → Bool
  accepts_at k = accepts_from t (suc k) (get_or s.sets k 0)

-- an edge that the code has read as e leads inside the eight automata and the sixteen states
pub edge-there : (t : List ℕ) → WellFormed t → (i : ℕ) → Numbered (edges t) i → {e : Edge} → e ≡ edge t i
    → Numbered most_automata e.automaton × ((e.from ≤ last_state) × (e.to ≤ last_state))
edge-there t wf i h read =
    let range = wf-edge t wf i h in
    let few = wf.sized.counted.few_automata in
    rw read (omega arith, (range.from, range.to))
