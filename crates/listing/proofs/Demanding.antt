-- Demands 1 and 3, proved clause by clause: the minimal sets are `minimal_sets t q`, and the buffer's first cells hold them.
use mathlib.Core.Path.{◌≡◌, refl, sym, ap, ◌∙◌}
use mathlib.Core.List.{List, []}
use mathlib.Core.Bool.{true}
use mathlib.Core.Logic.Iff
use mathlib.Core.Logic.{◌↔◌, ⊎_elim}
use Prim.Native.Nat.{ℕ, ◌<◌, ◌≤◌}
use native.Mathlib.Omega.{arith}
use native.Mathlib.Nat.{eq-zero-or-pos}
use lib.ListN.{get_or, length, take}
use Rattle.table.specs.Outcome.{Outcome, ◌and_then◌}
use Rattle.table.specs.Outcome.Outcome.{accepted, refused}
use Rattle.table.specs.Holding.{WellFormed}
use Rattle.table.specs.Checks.{AcceptedTable, Valid, request_outcome, table_outcome}
use Rattle.table.specs.declared.Query.{Query}
use Rattle.table.proofs.Stopping.{Stage, request-stage, table-stage}
use Rattle.table.proofs.WellFormed.{request-accepted, well-formed}
use Rattle.sets.specs.Sets.{part}
use Rattle.sets.proofs.Members.{part-refl}
use Rattle.derivation.specs.Rules.{goal_of}
use Rattle.derivation.specs.Bounds.{Holdable}
use Rattle.verifier.specs.Verdict.{verdict}
use Rattle.verifier.specs.DemandTwo.{Refuses}
use Rattle.derivation.proofs.Bounding.{none-excluded}
use Rattle.derivation.proofs.Depths.{depth-fits}
use Rattle.verifier.proofs.DemandTwo.{demand-two, every-refusal}
use Rattle.sorted.specs.Sorted.{laid}
use Rattle.listing.specs.Minimal.{afterwards, buffer_after, counted, listing, minimal_sets}
use Rattle.listing.specs.Demands.{Admitted, DemandOne, DemandThree, Demands, Listed, MinimalSets, OneOf}
use Rattle.listing.specs.Demands.{RefusedBy, Used, UsedBySlice}
use Rattle.listing.specs.Demands.OneOf.{first, second}
use Rattle.sorted.proofs.Ascending.{one_place}
use Rattle.listing.proofs.Minimals.{admitted-includes, minimal-sets, one-minimal-list}
use Rattle.sorted.proofs.Lists.{laid-at, laid-beyond, laid-fills, laid-length, laid_none}
use Rattle.listing.proofs.Counting.{accepted-counted, more-counted, none-counted, other-counted, otherwise-counted}
use Rattle.listing.proofs.Whole.{buffer-accepted}

module _ (t : List ℕ) (wf : WellFormed t) (q : Query) (valid : Valid q) where
  -- the checks of table and query find nothing: the count of minimal sets is told, and they are laid into the buffer
  pub passes : request_outcome t q ≡ accepted 0
  unfolding request_outcome ◌and_then◌
  passes = rw (wf.accepted, valid)

  listing-counts : (cells : ℕ) → listing t q cells ≡ counted cells (length (minimal_sets t q))
  unfolding listing ◌and_then◌
  listing-counts cells = rw passes

  buffer-laid : (buffer : List ℕ) → buffer_after t q buffer ≡ laid (minimal_sets t q) buffer
  buffer-laid buffer = buffer-accepted t q buffer passes

  -- an accepted record is that of a derivation, within the query's depth
  pub accepted-holdable : (rec : List ℕ) (S : ℕ) → verdict t q rec ≡ accepted S → Holdable rec
  accepted-holdable rec S e =
      let a = (demand-two t q rec S wf.accepted valid).0 e in
      rw a.whole at (none-excluded t q.depth [] (goal_of q) a.forest wf.accepted (depth-fits q valid) a.derives)

  by-slice : (S : ℕ) → Used t q S → UsedBySlice t q S
  by-slice S (rec, e) = (rec, e, accepted-holdable rec S e)

  module _ (sets : List ℕ) (m : MinimalSets t q sets) where
    -- there is no minimal set exactly where no record is accepted
    none-exactly : (length sets ≡ 0) ↔ ((rec : List ℕ) (S : ℕ) → verdict t q rec ≡ accepted S → ⊥)
    none-exactly = (to, from)
      where
        to : length sets ≡ 0 → (rec : List ℕ) (S : ℕ) → verdict t q rec ≡ accepted S → ⊥
        to z rec S e =
            let (M, minimal, within) = admitted-includes t wf q valid S (S, (rec, e), part-refl S) in
            omega (arith, (m.every M minimal).1)

        from : ((rec : List ℕ) (S : ℕ) → verdict t q rec ≡ accepted S → ⊥) → length sets ≡ 0
        from never =
            ⊎_elim (λ z. z) (λ some. let (rec, e) = (m.only 0 some).used in absurd (never rec _ e))
            (eq-zero-or-pos (length sets))

    -- the minimal sets in the first cells are a list as the definition has it
    laid-listed : (buffer : List ℕ) → length sets ≤ length buffer → Listed t q buffer (laid sets buffer) (length sets)
    laid-listed buffer room =
        record {
          full = λ S small. ((λ (i, l, within). (get_or (laid sets buffer) i 0, used-cell i l, within)), includes S);
          used = λ i l. by-slice _ (used-cell i l);
          apart = apart;
          ascending = λ i j less l. rw (cell i (omega arith), cell j l) (m.ascending i j less l);
          fits = omega (arith, laid-length sets buffer);
          size = laid-length sets buffer;
          beyond = laid-beyond sets buffer room;
        }
      where
        cell : (i : ℕ) → i < length sets → get_or (laid sets buffer) i 0 ≡ get_or sets i 0
        cell = laid-at sets buffer room

        used-cell : (i : ℕ) → i < length sets → Used t q (get_or (laid sets buffer) i 0)
        used-cell i l = rw (cell i l) (m.only i l).used

        includes : (S : ℕ) → Admitted t q S → (i : ℕ) × (i < length sets) × (part (get_or (laid sets buffer) i 0) S ≡ true)
        includes S admitted =
            let (M, minimal, within) = admitted-includes t wf q valid S admitted in
            let (i, l, e) = m.every M minimal in
            (i, l, rw (cell i l, e) within)

        apart : (i j : ℕ) → i < length sets → j < length sets
            → part (get_or (laid sets buffer) i 0) (get_or (laid sets buffer) j 0) ≡ true → i ≡ j
        apart i j l l' within =
            let same = (m.only j l').least _ (m.only i l).used (rw (cell i l, cell j l') at within) in
            one_place sets m.ascending i j l l' same

demand-three : (t : List ℕ) (q : Query) (buffer : List ℕ) → AcceptedTable t → Valid q → DemandThree t q buffer
demand-three t q buffer table valid =
    record {
      sets = sets;
      minimal = m;
      holdable = accepted-holdable t wf q valid;
      none = rw told (Iff.trans (none-counted cells count) (none-exactly t wf q valid sets m));
      longer = rw told (more-counted cells count);
      otherwise = rw told (otherwise-counted cells count);
      listed = rw (told, buffer-laid t wf q valid buffer) (λ v e. whole v (accepted-counted cells count v e));
    }
  where
    wf : WellFormed t
    wf = well-formed t table

    sets : List ℕ
    sets = minimal_sets t q

    m : MinimalSets t q sets
    m = minimal-sets t wf q valid

    cells : ℕ
    cells = length buffer

    count : ℕ
    count = length sets

    told : listing t q cells ≡ counted cells count
    told = listing-counts t wf q valid cells

    whole : (v : ℕ) → (v ≡ count) × (count ≤ cells) → (v ≡ count) × Listed t q buffer (laid sets buffer) v
    whole v (same, room) = (same, rw same (laid-listed t wf q valid sets m buffer room))

-- where the checks of table and query refuse, every call reports that
all-stopped : (t : List ℕ) (q : Query) (rec buffer : List ℕ) (number position : ℕ) → request_outcome t q ≡ refused number position
    → (verdict t q rec ≡ refused number position) × (listing t q (length buffer) ≡ refused number position)
unfolding verdict listing ◌and_then◌
all-stopped t q rec buffer number position e = (rw e, rw e)

-- a list that is refused with another number than 10 lays nothing
nothing-laid : (o : Outcome) (sets buffer : List ℕ) (number position : ℕ)
    → (o and_then counted (length buffer) (length sets)) ≡ refused number position → (number ≡ 10 → ⊥) → afterwards o sets buffer ≡ buffer
unfolding afterwards ◌and_then◌
nothing-laid (accepted v) sets buffer number position e other =
    laid_none sets buffer (other-counted (length buffer) (length sets) number position e other)
nothing-laid (refused own at) sets buffer number position e other = refl

left-unchanged : (t : List ℕ) (q : Query) (buffer : List ℕ) (number position : ℕ)
    → listing t q (length buffer) ≡ refused number position → (number ≡ 10 → ⊥) → buffer_after t q buffer ≡ buffer
unfolding listing buffer_after
left-unchanged t q buffer = nothing-laid (request_outcome t q) (minimal_sets t q) buffer

-- with 10 the buffer is filled with the first sets of the one list of minimal sets
first-sets : (t : List ℕ) (q : Query) (buffer : List ℕ) → AcceptedTable t → Valid q → listing t q (length buffer) ≡ refused 10 0
    → (sets : List ℕ) → MinimalSets t q sets → buffer_after t q buffer ≡ take (length buffer) sets
first-sets t q buffer table valid e sets m =
    let wf = well-formed t table in
    let more = (more-counted (length buffer) _).0 (sym (listing-counts t wf q valid (length buffer)) ∙ e) in
    let same = one-minimal-list t q (minimal_sets t q) sets (minimal-sets t wf q valid) m in
    buffer-laid t wf q valid buffer ∙ laid-fills (minimal_sets t q) buffer (omega arith) ∙ ap (take (length buffer)) same

-- a verdict, with what refuses the record where it does
judged-or-refused : (t : List ℕ) (q : Query) (rec : List ℕ) → AcceptedTable t → Valid q → (o : Outcome) → verdict t q rec ≡ o
    → OneOf ((S : ℕ) × (verdict t q rec ≡ accepted S))
    ((number position : ℕ) × (verdict t q rec ≡ refused number position) × Refuses t q rec number position)
judged-or-refused t q rec table valid (accepted S) e = first (S, e)
judged-or-refused t q rec table valid (refused number position) e =
    second (number, position, e, (every-refusal t q rec number position table valid).0 e)

both-accepted : (t : List ℕ) (q : Query) → request_outcome t q ≡ accepted 0 → AcceptedTable t × Valid q
both-accepted t q e = let (wf, valid) = request-accepted t q e in (wf.accepted, valid)

-- a stage of checks passes or stops
passes-or-stops : {A : Type 0} {Rows : ℕ → Type 0} (o : Outcome) → Stage Rows o → (o ≡ accepted 0 → A) → OneOf A (RefusedBy Rows o)
passes-or-stops (accepted v) s f = first (f (ap accepted (s.value v refl)))
passes-or-stops (refused number position) s f = second (number, position, refl, s.row number position refl)

demand-one : (t : List ℕ) (q : Query) (rec buffer : List ℕ) → DemandOne t q rec buffer
demand-one t q rec buffer =
    record {
      table = passes-or-stops (table_outcome t) (table-stage t) (λ e. e);
      request = passes-or-stops (request_outcome t q) (request-stage t q) (both-accepted t q);
      stopped = all-stopped t q rec buffer;
      verdicts = λ table valid. judged-or-refused t q rec table valid (verdict t q rec) refl;
      unchanged = left-unchanged t q buffer;
      filled = first-sets t q buffer;
    }

pub demands : Demands
demands = (demand-one, demand-three)
