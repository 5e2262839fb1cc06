-- Sixteen states have no more than sixteen arcs, so there is one for every edge.
use mathlib.Core.Path.{◌≡◌, refl, sym, ◌∙◌}
use mathlib.Core.List.{List}
use Prim.Native.Nat.{ℕ, suc, ◌^◌, ◌<◌, ◌≤◌}
use native.Mathlib.Omega.{arith}
use native.Mathlib.Decide.{dec_lt}
use lib.ListN.{get_or}
use lib.Dec.{ltb}
use borrow.Author.Tests.{lt-ltb, le-ltb}
use Rattle.sets.specs.Logic.{pick}
use Rattle.table.specs.declared.Edge.{Edge}
use Rattle.table.specs.declared.Role.{Role}
use Rattle.moves.specs.Arcs.{most_arcs, to_cell}
use Rattle.placing.specs.Placing.{ArcFound}
use Rattle.arcs.specs.Filling.{Filling, MaskOf}
use Rattle.arcs.proofs.Crowding.{Different, too_many}

-- an arc has been looked for, for the edge e
module _ {t : List ℕ} {r : Role} {arcs : List ℕ} {p n : ℕ} (f : Filling t r arcs p n) (e : Edge) (l : ℕ)
    (found : ArcFound arcs p (2 ^ e.to) l) (state : e.to < most_arcs) where
  -- the masks of all arcs, and that of the edge's `to` state
  abbrev masks : ℕ → ℕ
  masks i = pick (ltb i most_arcs) (get_or arcs (to_cell p i) 0) (2 ^ e.to)

  mask-of-arc : (i : ℕ) → i < most_arcs → masks i ≡ get_or arcs (to_cell p i) 0
  unfolding pick
  mask-of-arc i less = rw (lt-ltb i most_arcs less)

  mask-of-edge : (i : ℕ) → most_arcs ≤ i → masks i ≡ 2 ^ e.to
  unfolding pick
  mask-of-edge i beyond = rw (le-ltb i most_arcs beyond)

  module _ (full : l ≡ most_arcs) where
    arc-leads : (i : ℕ) → i < most_arcs → get_or arcs (to_cell p i) 0 ≡ 0 → ⊥
    arc-leads i less = found.passed i (omega (arith, less, full))

    one-mask : (i : ℕ) → Dec (i < most_arcs) → MaskOf most_arcs (masks i)
    one-mask i (yes less) = rw (mask-of-arc i less) (f.named i less (arc-leads i less))
    one-mask i (no beyond) = rw (mask-of-edge i (omega arith)) (e.to, (state, refl))

    masks-apart : (i j : ℕ) → i ≤ most_arcs → j ≤ most_arcs → Dec (i < most_arcs) → Dec (j < most_arcs) → masks i ≡ masks j → i ≡ j
    masks-apart i j few small (yes less) (yes there) same =
        f.apart i j less there (arc-leads i less) (sym (mask-of-arc i less) ∙ same ∙ mask-of-arc j there)
    masks-apart i j few small (yes less) (no beyond) same =
        absurd (found.others i (omega (arith, less, full)) (sym (mask-of-arc i less) ∙ same ∙ mask-of-edge j (omega arith)))
    masks-apart i j few small (no beyond) (yes there) same =
        absurd (found.others j (omega (arith, there, full)) (sym (mask-of-arc j there) ∙ sym same ∙ mask-of-edge i (omega arith)))
    masks-apart i j few small (no beyond) (no behind) same = omega arith

    crowded : Different (suc most_arcs) most_arcs masks
    crowded =
        record {
          one = λ i less. one-mask i (dec_lt i most_arcs);
          apart = λ i j less few. masks-apart i j (omega arith) (omega arith) (dec_lt i most_arcs) (dec_lt j most_arcs);
        }

  pub arc-there : l < most_arcs
  arc-there = go (dec_lt l most_arcs)
    where
      go : Dec (l < most_arcs) → l < most_arcs
      go (yes less) = less
      go (no beyond) = absurd (too_many most_arcs masks (crowded (omega (arith, found.few))))
