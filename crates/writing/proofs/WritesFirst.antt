-- Ticket 1, proved clause by clause: the first record is `first_record t q S`, and the first cells hold it.
use mathlib.Core.Path.{◌≡◌, ◌∙◌}
use mathlib.Core.List.{List, ◌++◌}
use mathlib.Core.Logic.{◌↔◌}
use Prim.Native.Nat.{ℕ, ◌<◌, ◌≤◌}
use lib.ListN.{drop, length}
use lib.Seq.{take_all}
use Rattle.sorted.specs.Sorted.{laid}
use Rattle.table.specs.Outcome.{◌and_then◌}
use Rattle.table.specs.Outcome.Outcome.{accepted, refused}
use Rattle.table.specs.Holding.{WellFormed}
use Rattle.table.specs.Checks.{Valid}
use Rattle.table.specs.declared.Query.{Query}
use Rattle.table.proofs.WellFormed.{well-formed}
use Rattle.listing.specs.Minimal.{is_minimal}
use Rattle.listing.specs.Demands.{Minimal}
use Rattle.listing.proofs.Minimals.{is-minimal-set, minimal-set-is}
use Rattle.listing.proofs.Demanding.{passes}
use Rattle.walking.specs.First.{first_record}
use Rattle.writing.specs.Writing.{filled, fitted, record_after, writing}
use Rattle.writing.specs.Writes.{First, Writes, WritesAny, WritesFirst}
use Rattle.writing.proofs.Firsts.{first-holdable, first-is, one-first}
use Rattle.writing.proofs.Fitting.{longer-fitted, otherwise-fitted, unlisted-fitted}

-- a record that fits is laid whole
pub laid-whole : (rec cells : List ℕ) → length rec ≤ length cells → laid rec cells ≡ rec ++ drop (length rec) cells
unfolding laid
laid-whole rec cells room = rw (take_all (length cells) rec room)

writes-any : (t : List ℕ) (q : Query) (S : ℕ) (cells : List ℕ) → WritesAny t q S cells
unfolding writing record_after filled ◌and_then◌
writes-any t q S cells = record { stopped = λ number position e. rw e; unchanged = λ number position e. rw e }

-- past the request's rows
module _ (t : List ℕ) (wf : WellFormed t) (q : Query) (valid : Valid q) (S : ℕ) (cells : List ℕ) where
  abbrev rec : List ℕ
  rec = first_record t q S

  told : writing t q S (length cells) ≡ fitted (is_minimal t q S) (length rec) (length cells)
  unfolding writing ◌and_then◌
  told = rw (passes t wf q valid)

  held : writing t q S (length cells) ≡ accepted (length rec) → length rec ≤ length cells
      → record_after t q S cells ≡ rec ++ drop (length rec) cells
  unfolding record_after filled
  held e room = rw e (laid-whole rec cells room)

  exactly-unlisted : (writing t q S (length cells) ≡ refused 15 0) ↔ (Minimal t q S → ⊥)
  exactly-unlisted =
      let (to, from) = unlisted-fitted (is_minimal t q S) (length rec) (length cells) in
      rw told ((λ e m. to e (minimal-set-is t wf q valid S m)), (λ no-set. from (λ h. no-set (is-minimal-set t wf q valid S h))))

  exactly-longer : (writing t q S (length cells) ≡ refused 16 0)
      ↔ (Minimal t q S × (rec : List ℕ) × First t q S rec × (length cells < length rec))
  exactly-longer =
      let (to, from) = longer-fitted (is_minimal t q S) (length rec) (length cells) in
      rw told (
        (λ e.
            let (listed, less) = to e in
            let m = is-minimal-set t wf q valid S listed in
            (m, rec, first-is t wf q valid S m, less)),
        (λ (m, rec', first, less).
            let same = one-first t q S rec' rec first (first-is t wf q valid S m) in
            from (minimal-set-is t wf q valid S m, rw same at less)),
      )

  otherwise-written : (writing t q S (length cells) ≡ refused 15 0 → ⊥) → (writing t q S (length cells) ≡ refused 16 0 → ⊥)
      → (rec : List ℕ) × First t q S rec × (length rec ≤ length cells) × (writing t q S (length cells) ≡ accepted (length rec))
      × (record_after t q S cells ≡ rec ++ drop (length rec) cells)
  otherwise-written not-15 not_16 =
      let (listed, room, e) =
      otherwise-fitted (is_minimal t q S) (length rec) (length cells) (λ h. not-15 (told ∙ h)) (λ h. not_16 (told ∙ h)) in
      (rec, first-is t wf q valid S (is-minimal-set t wf q valid S listed), room, told ∙ e, held (told ∙ e) room)

  writes : Writes t q S cells
  writes =
      record {
        unlisted = exactly-unlisted;
        has_first = λ m. let first = first-is t wf q valid S m in (rec, first, first-holdable t wf q valid S rec first);
        one-first = one-first t q S;
        longer = exactly-longer;
        otherwise = otherwise-written;
      }

pub writes-first : WritesFirst
writes-first = (writes-any, (λ t q S cells table valid. writes t (well-formed t table) q valid S cells))
